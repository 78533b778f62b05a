use Rattle.std.proofs.Common.{◌≡◌, drop}
use Rattle.inline_host.specs.Orders.{after_commands}
use Rattle.inline_host.proofs.orders.keep_orders.Given as goal

abbrev pub invariant-loop-command : goal.invariant-loop-command
invariant-loop-command l = after_commands (drop l.command-index l.commands) l.orders ≡ after_commands l.commands l.fn.orders
