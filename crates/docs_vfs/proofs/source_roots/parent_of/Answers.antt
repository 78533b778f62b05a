use Rattle.std.proofs.Common.{ap, ◌∙◌}
use Rattle.std.specs.Prelude.{option_map, ℕ}
use Rattle.std.specs.List.{enumerate_from}
use Rattle.docs_vfs.specs.Roots.{greatest, first_greatest, parent_length}
use Rattle.docs_vfs.specs.Parents.{parent_above}
use Rattle.docs_vfs.proofs.Greatest.{place_of}
use Rattle.docs_vfs.proofs.source_roots.parent_of.Goals as goal

pub returns-in-Some : goal.returns-in-Some
returns-in-Some c = λ roots x.
    ap (option_map (λ (best : ℕ × ℕ). best.1)) (c.in-Some.ensures roots x ∙ ap (λ l. parent_above c.args.at l roots) c.as_slice.ensures)
    ∙ place_of (greatest (parent_length c.args.at c.args.child.now) (enumerate_from 0 roots)) (first_greatest (parent_length c.args.at c.args.child.now) (enumerate_from 0 roots))

pub returns-in-None : goal.returns-in-None
returns-in-None c = λ roots x.
    ap (option_map (λ (best : ℕ × ℕ). best.1)) (c.in-None.ensures roots x ∙ ap (λ l. parent_above c.args.at l roots) c.as_slice.ensures)
    ∙ place_of (greatest (parent_length c.args.at c.args.child.now) (enumerate_from 0 roots)) (first_greatest (parent_length c.args.at c.args.child.now) (enumerate_from 0 roots))
