use Rattle.reload.proofs.SwitchLaws.{same_told}
use Rattle.reload.proofs.laws.same_workspaces_are_equal_but_for_builds.Goals as goal

pub returns : goal.returns
returns c = λ one two. same_told one two
