use Rattle.std.proofs.Common.{rules}
use Rattle.host_fakes.proofs.Ends.{given-took}
use Rattle.host_fakes.proofs.hostile_host.HostileHostHost.order.Goals as goal

pub returns-clause-origin_stays : goal.returns-clause-origin_stays
returns-clause-origin_stays g c = search (given-took, rules)
