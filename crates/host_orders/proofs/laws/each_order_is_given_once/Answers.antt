use Rattle.host_orders.proofs.Given.{versions_once, tasks_once}
use Rattle.host_orders.proofs.laws.each_order_is_given_once.Goals as goal

pub returns-clause-versions : goal.returns-clause-versions
returns-clause-versions g c = versions_once

pub returns-clause-tasks : goal.returns-clause-tasks
returns-clause-tasks g c = tasks_once
