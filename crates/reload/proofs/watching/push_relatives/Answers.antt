use Rattle.reload.proofs.Pushed.{three_behind}
use Rattle.reload.proofs.watching.push_relatives.Goals as goal

pub returns : goal.returns
returns c = three_behind _ _ _ _ _ _ _ c.in_ok-push_relative.ensures c.in_ok-push_relative-2.ensures c.in_ok-push_relative-3.ensures
