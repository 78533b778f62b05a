use Rattle.host_orders.proofs.Timers.{newest_timer, newest_given}
use Rattle.host_orders.proofs.laws.a_replaced_timer_is_never_given.Goals as goal

pub returns-clause-kept : goal.returns-clause-kept
returns-clause-kept g c = newest_timer

pub returns-clause-given : goal.returns-clause-given
returns-clause-given g c = newest_given
