use Rattle.std.proofs.lemmas.Result.{err_from_is_err_and}
use Rattle.session.proofs.Advancing.{run-none}
use Rattle.session.proofs.run.run_from.Goals as goal

pub returns-in_err-state-clause-run : goal.returns-in_err-state-clause-run
returns-in_err-state-clause-run g c = let p = err_from_is_err_and c.from_residual.result c.from_residual.ensures.1 in rw (p.1, p.2) (run-none _ _ _ _ _ _)

pub returns-clause-run : goal.returns-clause-run
returns-clause-run g c = c.run_all-end.ensures.run c.args.config c.in_ok-state.ensures
