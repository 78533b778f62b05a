use Rattle.session_record.proofs.SinceLemmas.{records_event}
use Rattle.session_record.proofs.recorder.RecorderHost.next.Goals as goal

pub invariant_of-self-2 : goal.invariant_of-self-2
invariant_of-self-2 g c = record {
  records = records_event g.B.Beginning.config g.B.Beginning.calls _ _ c.args.self.now.recording.now c.add.new.self c.in_ok-event.event
      c.in_ok-event.ensures.calls (c.add.ensures g.B.Beginning.config) c.args.self.now.records;
}
