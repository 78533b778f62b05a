use Rattle.std.proofs.Common.{◌≤◌, ◌≡◌, ◌<◌, ◌^◌, false}
use Rattle.std.specs.FinMap as map
use Rattle.session_laws.specs.Run.{told_of, fed_bytes}
use Rattle.server.specs.Talking.{TalkStretch, IsInStep, first_talk, talk_left}
use Rattle.server.proofs.handshake.opening.talk_on.Given as goal

abbrev pub invariant-messages : goal.invariant-messages
invariant-messages g l = record {
  so_far : TalkStretch (record { threads = l.threads; info = g.A.Analysis.server_info }) first_talk
      l.talk (told_of (g.H.Host.calls l.fn.host) (g.S.Sink.turns l.fn.sink)) (told_of (g.H.Host.calls l.host) (g.S.Sink.turns l.sink));
  in_step : IsInStep l.talk.negotiation;
  fits : fed_bytes l.talk.reader < 2 ^ 64;
  idle : g.H.Host.out l.host ≡ map.empty;
  host_usable : g.H.Host.poisoned l.host ≡ false;
  sink_usable : g.S.Sink.poisoned l.sink ≡ false;
  last_job : g.H.Host.last_job l.host ≡ g.H.Host.last_job l.fn.host;
  honest_stays : g.H.Host.honest l.host ≡ g.H.Host.honest l.fn.host;
  host_later : g.H.Host.faults l.fn.host ≤ g.H.Host.faults l.host;
  sink_later : g.S.Sink.faults l.fn.sink ≤ g.S.Sink.faults l.sink;
}

abbrev pub decreases-messages : goal.decreases-messages
decreases-messages g l = talk_left l.talk
