use Rattle.activities.proofs.ScanLaws.{ends-behind-report}
use Rattle.activities.proofs.laws.a_loader_is_told_to_its_last_report.Goals as goal
use Rattle.std.specs.Prelude.{None}

pub returns : goal.returns
returns c = λ root before after done total dir version leave.
    ends-behind-report root before after done total dir version None leave
