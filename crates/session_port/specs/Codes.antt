-- How the logic stores what a turn writes and orders.
use Rattle.std.specs.Prelude.{List, refl}
use Rattle.std.specs.Coded.{Coded, code_by, coded×, coded_list}
use Rattle.session_port.specs.declared.command.Command.{Command}
use Rattle.lsp_frame.specs.declared.message.Message.{Message}
use Rattle.session_port.specs.Written.{Written}

-- given how messages and commands are stored
abbrev pub written_code : Coded Message → Coded Command → Coded Written
written_code message command =
    code_by (List Message × List Command) (coded× (coded_list message) (coded_list command))
    (λ w. (w.messages, w.commands)) (λ p. record { messages = p.0; commands = p.1 }) (λ _. refl)
