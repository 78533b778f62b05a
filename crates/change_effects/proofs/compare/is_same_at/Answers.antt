use Rattle.std.proofs.lemmas.Bool.Decides.{same_from_decides}
use Rattle.change_effects.proofs.UpdateLaws.{row_told}
use Rattle.change_effects.proofs.compare.is_same_at.Goals as goal

-- two tests that decide the same are one
pub returns : goal.returns
returns c = same_from_decides _ _ c.is_same_at.ensures (row_told c.args.old.now c.args.new.now c.args.row)
