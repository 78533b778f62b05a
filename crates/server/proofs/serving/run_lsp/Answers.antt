use Rattle.std.proofs.Common.{refl}
use Rattle.std.specs.Prelude.{Ok, Err}
use Rattle.server.proofs.Behind.{rose-later, welcomed-begun, welcomed-broken, welcomed-left}
use Rattle.server.proofs.serving.run_lsp.Goals as goal

pub returns-in-Ok-Begun-clause-run : goal.returns-in-Ok-Begun-clause-run
returns-in-Ok-Begun-clause-run g c =
    let opens = rw c.in-Ok-Begun.field-0-is at c.in-Ok-Begun.ensures.opens in
    record {
      outcome = c.main_loop_from.result;
      status_is = refl;
      did = welcomed-begun _ _ _ _ _ _ _ _ _ _ _ c.in-Ok-Begun.config c.in-Ok-Begun.reader c.main_loop_from.result opens c.in-Ok-Begun.ensures.honest_stays
          c.main_loop_from.ensures.run c.main_loop_from.ensures.end c.main_loop_from.ensures.complete c.main_loop_from.ensures.headline
          (rose-later _ _ _ c.in-Ok-Begun.ensures.host_later) (rose-later _ _ _ c.in-Ok-Begun.ensures.sink_later)
          c.main_loop_from.ensures.host_fault c.main_loop_from.ensures.write_fault;
    }

pub returns-in-Ok-Begun-clause-host_fault : goal.returns-in-Ok-Begun-clause-host_fault
returns-in-Ok-Begun-clause-host_fault g c = λ e. rose-later _ _ _ c.in-Ok-Begun.ensures.host_later (c.main_loop_from.ensures.host_fault e)

pub returns-in-Ok-Begun-clause-write_fault : goal.returns-in-Ok-Begun-clause-write_fault
returns-in-Ok-Begun-clause-write_fault g c = λ e. rose-later _ _ _ c.in-Ok-Begun.ensures.sink_later (c.main_loop_from.ensures.write_fault e)

pub returns-in-Ok-Left-clause-run : goal.returns-in-Ok-Left-clause-run
returns-in-Ok-Left-clause-run g c =
    let opens = rw c.in-Ok-Left.field-0-is at c.in-Ok-Left.ensures.opens in
    record { outcome = Ok tt; status_is = refl; did = welcomed-left _ _ _ _ _ _ _ tt opens }

pub returns-in-Err-clause-run : goal.returns-in-Err-clause-run
returns-in-Err-clause-run g c = record {
  outcome = Err c.in-Err.error;
  status_is = refl;
  did = welcomed-broken _ _ _ _ _ _ _ c.in-Err.error c.in-Err.ensures.opens (λ e. c.in-Err.ensures.host_fault cc) (λ e. c.in-Err.ensures.write_fault cc);
}
