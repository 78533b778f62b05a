-- How the parts of a turn are put together: each goes on from the state that those before it leave, and from what they
-- have written.
use Rattle.std.specs.Prelude.{ℕ, ◌+◌, ◌-◌, ◌^◌, List, [], ◌∷◌, ◌++◌, ltb, Result, Ok, Err, if◌then◌else◌}
use Rattle.lsp_frame.specs.declared.message.Response.{Response}
use Rattle.lsp_frame.specs.declared.message.Message.{Message}
use Rattle.lsp_frame.specs.declared.message.Message.TheVariants.{Response as ResponseMessage}
use Rattle.session_port.specs.declared.command.Command.{Command}
use Rattle.session_port.specs.declared.command.Command.TheVariants.{Log}
use Rattle.session_port.specs.declared.command.LogCode.{LogCode}
use Rattle.session_port.specs.Written.{Written}
use Rattle.session_port.specs.declared.fault.Counter.{Counter}

-- a state within a turn, and what the turn has done so far
pub record TurnState (S : Type 0) : Type 0 where
  pub state : S
  pub out : Written

abbrev pub and_then : {X Y E : Type 0} → Result X E → (X → Result Y E) → Result Y E
and_then (Ok x) f = f x
and_then (Err e) f = Err e

-- the next number, unless the greatest one of 64 bits was used
abbrev pub next_number : ℕ → Counter → Result ℕ Counter
next_number used counter = if ltb used (2 ^ 64 - 1) then Ok (used + 1) else Err counter

-- a message is written
unfoldable pub written : {S : Type 0} → Message → TurnState S → TurnState S
written message w = record w { out = record w.out { messages = w.out.messages ++ message ∷ [] } }

-- a response is written
unfoldable pub replied : {S : Type 0} → Response → TurnState S → TurnState S
replied response w = record w { out = record w.out { messages = w.out.messages ++ ResponseMessage response ∷ [] } }

-- a command is ordered
unfoldable pub ordered : {S : Type 0} → Command → TurnState S → TurnState S
ordered command w = record w { out = record w.out { commands = w.out.commands ++ command ∷ [] } }

unfoldable pub logged : {S : Type 0} → LogCode → List ℕ → TurnState S → TurnState S
logged code text w = ordered (Log code text) w

-- what a part of the state is now is put back
abbrev pub put_back : {S P : Type 0} → (P → S → S) → S → Result (TurnState P) Counter → Result (TurnState S) Counter
put_back put state (Ok v) = Ok (record { state = put v.state state; out = v.out })
put_back put state (Err counter) = Err counter

-- a step of one part of the state; all else stays
unfoldable pub lifted : {S P : Type 0} → (S → P) → (P → S → S) → (TurnState P → Result (TurnState P) Counter) → TurnState S
    → Result (TurnState S) Counter
lifted get put step w = put_back put w.state (step (record { state = get w.state; out = w.out }))
