use Rattle.reload.proofs.Pushed.{three_behind}
use Rattle.reload.proofs.watching.push_globs.Goals as goal

pub returns : goal.returns
returns c = three_behind _ _ _ _ _ _ _ c.in_ok-push_glob.ensures c.in_ok-push_glob-2.ensures c.in_ok-push_glob-3.ensures
