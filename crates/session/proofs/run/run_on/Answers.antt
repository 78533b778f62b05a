use Rattle.std.proofs.Common.{rules}
use Rattle.session_laws.proofs.Stretches.{stretch-none, stretch-on}
use Rattle.session.proofs.Advancing.{runs-broken, runs-ended}
use Rattle.session.proofs.run.run_on.Goals as goal

pub inputs-init : goal.inputs-init
inputs-init g c = record {
  so_far = stretch-none _ _ _ _ _ _ _;
  host_usable = search rules;
  sink_usable = search rules;
  last_job = search rules;
  honest_stays = search rules;
  origin_stays = search rules;
  host_later = search rules;
  sink_later = search rules;
}

pub inputs-smaller : goal.inputs-smaller
inputs-smaller g c =
    let on = rw c.in-Ok-Going.field-0-is at c.in-Ok-Going.ensures.turn in
    on.fewer

pub inputs-preserved : goal.inputs-preserved
inputs-preserved g c =
    let on = rw c.in-Ok-Going.field-0-is at c.in-Ok-Going.ensures.turn in
    record {
      so_far = stretch-on _ _ _ _ _ _ _ _ _ _ _ _ _ _ _ _ _ _ c.inputs.invariant.so_far c.inputs.invariant.honest_stays on.stretch;
      host_usable = search rules;
      sink_usable = search rules;
      last_job = search rules;
      honest_stays = search rules;
      origin_stays = search rules;
      host_later = search rules;
      sink_later = search rules;
    }

pub returns-in-Ok-Stopped-clause-run : goal.returns-in-Ok-Stopped-clause-run
returns-in-Ok-Stopped-clause-run g c =
    runs-ended _ _ _ c.args.reader.now c.inputs.reader _ _ _ _ _ _ _ _ c.inputs.invariant.so_far (rw c.in-Ok-Stopped.field-0-is at c.in-Ok-Stopped.ensures.turn)

pub returns-in-Err-clause-run : goal.returns-in-Err-clause-run
returns-in-Err-clause-run g c =
    runs-broken _ _ _ c.args.reader.now c.inputs.reader _ _ _ _ _ _ _ _ c.in-Err.error c.inputs.invariant.so_far c.inputs.invariant.honest_stays
    c.in-Err.ensures.turn
