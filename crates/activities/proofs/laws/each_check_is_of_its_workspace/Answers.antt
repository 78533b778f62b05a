use Rattle.activities.proofs.CheckLaws.{once_at_root, is_of_workspace, has_its_check}
use Rattle.activities.proofs.laws.each_check_is_of_its_workspace.Goals as goal

pub returns : goal.returns
returns c = record { once = once_at_root; sound = is_of_workspace; whole = has_its_check }
