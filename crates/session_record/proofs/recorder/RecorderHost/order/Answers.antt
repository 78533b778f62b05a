use Rattle.session_record.proofs.SinceLemmas.{records_order}
use Rattle.session_record.proofs.recorder.RecorderHost.order.Goals as goal

pub invariant_of-self : goal.invariant_of-self
invariant_of-self g c = record {
  records = records_order g.B.Beginning.config g.B.Beginning.calls c.order.result _ _ _ c.args.commands c.order.ensures.calls c.args.self.now.records;
}
