-- The orders that a host keeps until it gives their answers, and what it gives.
use Rattle.std.specs.Prelude.{ℕ, List, [], ◌∷◌, Option, None, option_map}
use Rattle.host_orders.specs.HostOrders.{HostOrders, set_loader, defer, set_timer, next}
use Rattle.host_orders.specs.declared.due_reply.DueReply.{DueReply}
use Rattle.host_orders.specs.declared.due_reply.DueReply.TheVariants.{Loader, Deferred, Timer as DueTimer}
use Rattle.session_port.specs.declared.command.Command.{Command}
use Rattle.session_port.specs.declared.command.Command.TheVariants.{Defer, SetLoader, Timer as OrderTimer}
use Rattle.session_port.specs.declared.command.DeferredTask.{DeferredTask}
use Rattle.session_port.specs.declared.event.HostEvent.{HostEvent}
use Rattle.session_port.specs.declared.event.HostEvent.TheVariants.{Vfs, DeferredTask as DeferredTasks, Timer}
use Rattle.session_port.specs.declared.event.LoaderMsg.{LoaderMsg}
use Rattle.session_port.specs.declared.event.LoaderMsg.TheVariants.{Progress}
use Rattle.session_port.specs.declared.event.LoadingProgress.TheVariants.{Finished}

-- the orders that are not answered yet
abbrev pub Orders : Type 0
Orders = HostOrders DeferredTask

-- the orders with those of a command
abbrev pub after_command : Command → Orders → Orders
after_command (Defer task) orders = defer task orders
after_command (SetLoader load watch version) orders = set_loader version orders
after_command (OrderTimer ticket) orders = set_timer ticket orders
after_command other orders = orders

abbrev pub after_commands : List Command → Orders → Orders
after_commands [] orders = orders
after_commands (command ∷ commands) orders = after_commands commands (after_command command orders)

-- all files were read, of which there are none
abbrev pub finished : ℕ → LoaderMsg
finished version = Progress 0 Finished None version

-- one event for each setting of a loader, one for all tasks, one for the timer
abbrev pub answer_of : DueReply DeferredTask → HostEvent
answer_of (Loader version) = Vfs (finished version ∷ [])
answer_of (Deferred tasks) = DeferredTasks tasks
answer_of (DueTimer ticket) = Timer ticket

-- the answer that is due, if an order is kept
abbrev pub next_answer : Orders → Option HostEvent
next_answer orders = option_map answer_of (next orders)
