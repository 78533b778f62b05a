use Rattle.host_orders.specs.Runs.{kept_after}
use Rattle.host_orders.proofs.Given.{all_versions, all_tasks, before_tasks, before_timer, before_none}
use Rattle.host_orders.proofs.laws.kinds_are_given_in_order.Goals as goal

pub returns-clause-tasks : goal.returns-clause-tasks
returns-clause-tasks g c run tasks is =
    let o = kept_after run in all_versions run (before_tasks o.loaders o.deferred o.timer tasks is)

pub returns-clause-timer : goal.returns-clause-timer
returns-clause-timer g c run ticket is =
    let o = kept_after run in let by = before_timer o.loaders o.deferred o.timer ticket is in (all_versions run by.0, all_tasks run by.1)

pub returns-clause-none : goal.returns-clause-none
returns-clause-none g c run is =
    let o = kept_after run in let by = before_none o.loaders o.deferred o.timer is in (all_versions run by.0, all_tasks run by.1, by.2)
