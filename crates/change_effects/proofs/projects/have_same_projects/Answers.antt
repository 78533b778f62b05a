use Rattle.std.proofs.lemmas.Bool.Decides.{same_from_decides}
use Rattle.std.proofs.lemmas.Result.{IfOk-weaker}
use Rattle.change_effects.proofs.UpdateLaws.{projects_told}
use Rattle.change_effects.proofs.projects.have_same_projects.Goals as goal

-- two tests that decide the same are one
pub returns : goal.returns
returns c =
    IfOk-weaker c.are_projects_equal.result _ _ (λ same h. same_from_decides _ _ h (projects_told c.args.old.now c.args.new.now)) c.are_projects_equal.ensures
