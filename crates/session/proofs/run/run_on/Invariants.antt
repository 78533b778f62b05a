use Rattle.std.proofs.Common.{◌≤◌, ◌≡◌, false}
use Rattle.session_laws.specs.Meaning.{meaning_of}
use Rattle.session_laws.specs.Run.{Stretch, told_of, fed_bytes}
use Rattle.session.specs.Looping.{left_of}
use Rattle.session.specs.Reading.{course_from}
use Rattle.session.proofs.run.run_on.Given as goal

abbrev pub invariant-inputs : goal.invariant-inputs
invariant-inputs g l = record {
  so_far : Stretch (meaning_of g.A.Analysis.decodes g.A.Analysis.answer) l.fn.state
      l.state (course_from l.fn.reader) (course_from l.reader) (fed_bytes l.fn.reader) (fed_bytes l.reader)
      (told_of (g.H.Host.calls l.fn.host) (g.S.Sink.turns l.fn.sink)) (told_of (g.H.Host.calls l.host) (g.S.Sink.turns l.sink))
      (g.H.Host.honest l.fn.host) (g.H.Host.out l.fn.host) (g.H.Host.out l.host);
  host_usable : g.H.Host.poisoned l.host ≡ false;
  sink_usable : g.S.Sink.poisoned l.sink ≡ false;
  last_job : g.H.Host.last_job l.host ≡ l.state.desk.last_job;
  honest_stays : g.H.Host.honest l.host ≡ g.H.Host.honest l.fn.host;
  origin_stays : g.H.Host.origin l.host ≡ g.H.Host.origin l.fn.host;
  host_later : g.H.Host.faults l.fn.host ≤ g.H.Host.faults l.host;
  sink_later : g.S.Sink.faults l.fn.sink ≤ g.S.Sink.faults l.sink;
}

abbrev pub decreases-inputs : goal.decreases-inputs
decreases-inputs g l = left_of l.state (fed_bytes l.reader)
