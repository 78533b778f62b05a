use Rattle.std.proofs.Common.{rules, ap, ◌∙◌}
use Rattle.std.specs.Prelude.{◌++◌}
use Rattle.session_port.specs.Record.{given_in}
use Rattle.host_fakes.specs.Script.{without_ends}
use Rattle.host_fakes.proofs.Ends.{without_ends-given}
use Rattle.host_fakes.proofs.hostile_host.HostileHostHost.next.Goals as goal

pub returns-clause-origin_stays : goal.returns-clause-origin_stays
returns-clause-origin_stays g c = search (without_ends-given, rules)
