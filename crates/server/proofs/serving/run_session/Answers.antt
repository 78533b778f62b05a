use Rattle.std.proofs.Common.{refl}
use Rattle.std.specs.Prelude.{Err}
use Rattle.std.proofs.lemmas.Result.{err_from_is_err_and}
use Rattle.session.specs.SessionError.TheVariants.{NoMemory}
use Rattle.session.proofs.Unstarted.{unstarted}
use Rattle.server.proofs.serving.run_session.Goals as goal

pub returns-in_err-config-clause-run : goal.returns-in_err-config-clause-run
returns-in_err-config-clause-run g c =
    let p = err_from_is_err_and c.from_residual.result c.from_residual.ensures.1 in
    rw (p.1, p.2) (record { outcome = Err NoMemory; status_is = refl; did = unstarted _ _ _ _ _ _ })

pub returns-clause-run : goal.returns-clause-run
returns-clause-run g c = record {
  outcome = c.main_loop.result;
  status_is = refl;
  did = record {
    run = rw c.in_ok-config.ensures at c.main_loop.ensures.run;
    end = c.main_loop.ensures.end;
    complete = rw c.in_ok-config.ensures at c.main_loop.ensures.complete;
    headline = rw c.in_ok-config.ensures at c.main_loop.ensures.headline;
    quiet = rw c.in_ok-config.ensures at c.main_loop.ensures.quiet;
  };
}
