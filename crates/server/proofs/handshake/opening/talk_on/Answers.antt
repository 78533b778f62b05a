use Rattle.std.proofs.Common.{rules, arith, refl}
use Rattle.session_laws.specs.Run.{told_of}
use Rattle.server.specs.Talking.{first_talk}
use Rattle.server.proofs.Openings.{opens-begun, opens-left, opens-broken}
use Rattle.server.proofs.Stretches.{stretch-none, stretch-on}
use Rattle.server.proofs.handshake.opening.talk_on.Goals as goal

pub messages-init : goal.messages-init
messages-init g c =
    let told = told_of (g.H.Host.calls c.args.host.now) (g.S.Sink.turns c.args.sink.now) in
    record {
      so_far = rw c.requires.first (stretch-none (record { threads = c.args.threads; info = g.A.Analysis.server_info }) first_talk told);
      in_step = rw c.requires.first refl;
      fits = rw c.requires.first (omega arith);
      idle = c.requires.idle;
      host_usable = c.requires.host_usable;
      sink_usable = c.requires.sink_usable;
      last_job = refl;
      honest_stays = refl;
      host_later = omega arith;
      sink_later = omega arith;
    }

pub messages-preserved : goal.messages-preserved
messages-preserved g c =
    let on = rw c.in-Ok-Going.field-0-is at c.in-Ok-Going.ensures.turn in
    record {
      so_far = stretch-on _ _ _ _ _ _ _ c.messages.invariant.so_far on.stretch;
      in_step = on.in_step;
      fits = on.fits;
      idle = search rules;
      host_usable = search rules;
      sink_usable = search rules;
      last_job = search rules;
      honest_stays = search rules;
      host_later = search rules;
      sink_later = search rules;
    }

pub returns-in-Ok-Started-clause-opens : goal.returns-in-Ok-Started-clause-opens
returns-in-Ok-Started-clause-opens g c =
    opens-begun _ _ _ _ _ c.messages.invariant.so_far _ c.in-Ok-Started.config (rw c.in-Ok-Started.field-0-is at c.in-Ok-Started.ensures.turn)

pub returns-in-Ok-Gone-clause-opens : goal.returns-in-Ok-Gone-clause-opens
returns-in-Ok-Gone-clause-opens g c =
    let gone = rw c.in-Ok-Gone.field-0-is at c.in-Ok-Gone.ensures.turn in
    opens-left _ _ _ _ _ c.messages.invariant.so_far gone.0 gone.1

pub returns-in-Err-clause-opens : goal.returns-in-Err-clause-opens
returns-in-Err-clause-opens g c = opens-broken _ _ _ _ _ c.messages.invariant.so_far c.in-Err.error c.in-Err.ensures.turn
