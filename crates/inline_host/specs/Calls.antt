-- The calls that a host records.
use Rattle.std.specs.Prelude.{List, Option, None, Some}
use Rattle.session_port.specs.Record.{HostCall, gave, took}
use Rattle.session_port.specs.declared.command.Command.{Command}
use Rattle.session_port.specs.declared.event.HostEvent.{HostEvent}
use Rattle.inline_host.specs.declared.recorded_call.Call.{Call}
use Rattle.inline_host.specs.declared.recorded_call.Call.TheVariants.{Gave, Took}

abbrev pub call_of : Call → HostCall
call_of (Gave event) = gave event
call_of (Took commands) = took commands

-- the event that a call gave, and the commands that it took
abbrev pub event_in : HostCall → Option HostEvent
event_in (gave event) = Some event
event_in (took commands) = None

abbrev pub commands_in : HostCall → Option (List Command)
commands_in (gave event) = None
commands_in (took commands) = Some commands
