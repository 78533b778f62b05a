use Rattle.std.proofs.Common.{List, ap}
use Rattle.session_record.specs.Record.{session}
use Rattle.session_port.specs.declared.event.HostEvent.{HostEvent}
use Rattle.session_record.specs.declared.start.StartConfig.{StartConfig}
use Rattle.session_record.proofs.Whole.{one_value}
use Rattle.session_record.proofs.record.one_spelling.Goals as goal

pub returns : goal.returns
returns c b d es fs p q e =
    let same = one_value session (b, es) (d, fs) p q e in
    (ap (λ (x : StartConfig × List HostEvent). x.0) same, ap (λ (x : StartConfig × List HostEvent). x.1) same)
