-- How a run ends.
use Rattle.std.proofs.Common.{◌≡◌, ℕ, ◌≤◌, inl, inr, List, [], ◌∷◌, ◌++◌, Bool, length, sym, ap, ◌∙◌, subst, arith, append-nil}
use Rattle.std.specs.Prelude.{⊤, IsTrue, Err}
use Rattle.session_port.specs.Jobs.{Jobs}
use Rattle.session_port.specs.Record.{HostCall, gave}
use Rattle.session_port.specs.declared.event.HostEvent.{HostEvent}
use Rattle.session_port.specs.declared.event.HostEvent.TheVariants.{Bytes}
use Rattle.session_laws.specs.Course.{Course, takes, waits}
use Rattle.session_laws.specs.Meaning.{Meaning}
use Rattle.session_laws.specs.Run.{Told, Turn, Brings, BreaksOffUnwritten, BreaksOffWritten, EndsBy, IsHonestInput, MayAsk, giving, telling_more}
use Rattle.session_laws.specs.State.{State}
use Rattle.session_laws.specs.SessionError.{SessionError}
use Rattle.session_laws.specs.SessionError.TheVariants.{ClientExited, BadFrame, BadMessage, HostFault, WriteFault, Exhausted, NoMemory}
use Rattle.session_laws.specs.Input.{Input}
use Rattle.session_laws.proofs.Stretches.{telling-append, telling-none}
use Rattle.session.specs.Looping.{TurnDone, Untaken}
use Rattle.session.specs.Reading.{IsFeedError}

-- nothing was told
pub breaks_at_once : (to : List HostEvent → Course) (old new : Told) → new ≡ old → BreaksOffUnwritten to old new
breaks_at_once to old new same = record { events = []; asked = tt; told = same ∙ sym (telling-none old) }

-- the turn of an input that was given was written, and its commands were not taken
breaks-written : (meaning : Meaning) (input : Input) (events : List HostEvent) (a b : State) (to : List HostEvent → Course) (old mid new : Told) (honest : Bool)
    (out : Jobs)
    → Brings to events input → mid ≡ telling_more (giving events) [] old → (IsTrue honest → IsHonestInput meaning out input) → Untaken meaning input a b mid new
    → BreaksOffWritten meaning a to old new honest out
breaks-written meaning input events a b to old mid new honest out brings given fair u = record {
  events = events;
  turn = u.turn;
  next = b;
  brings = subst (Brings to events) (sym u.input_is) brings;
  steps = u.steps;
  read = u.read;
  honest_turn = λ h. subst (IsHonestInput meaning out) (sym u.input_is) (fair h);
  told = u.told ∙ ap (telling_more [] (u.turn ∷ [])) given ∙ telling-append (giving events) [] [] (u.turn ∷ []) old
      ∙ ap (λ (cs : List HostCall). telling_more cs (u.turn ∷ []) old) (append-nil (giving events));
}

-- the turn of an input that was given ended in an error
pub ends-turn : (meaning : Meaning) (input : Input) (events : List HostEvent) (a b : State) (to : List HostEvent → Course) (used : ℕ) (old mid new : Told)
    (honest : Bool) (out out_mid out_now : Jobs) (r : SessionError)
    → Brings to events input → mid ≡ telling_more (giving events) [] old → (IsTrue honest → IsHonestInput meaning out input)
    → TurnDone {T = ⊤} meaning input a b mid new out_mid out_now (Err r) → EndsBy meaning a to used old new honest out r
ends-turn meaning input events a b to used old mid new honest out out_mid out_now ClientExited brings given fair h = absurd h
ends-turn meaning input events a b to used old mid new honest out out_mid out_now (BadFrame at) brings given fair h = absurd h
ends-turn meaning input events a b to used old mid new honest out out_mid out_now (BadMessage at) brings given fair h = absurd h
ends-turn meaning input events a b to used old mid new honest out out_mid out_now HostFault brings given fair h =
    inr (breaks-written meaning input events a b to old mid new honest out brings given fair h)
ends-turn meaning input events a b to used old mid new honest out out_mid out_now WriteFault brings given fair h =
    record { events = events; input = input; brings = brings; told = h ∙ given }
ends-turn meaning input events a b to used old mid new honest out out_mid out_now NoMemory brings given fair (inl same) =
    inl (record { events = events; asked = brings.asked; told = same ∙ given })
ends-turn meaning input events a b to used old mid new honest out out_mid out_now NoMemory brings given fair (inr u) =
    inr (breaks-written meaning input events a b to old mid new honest out brings given fair u)
ends-turn meaning input events a b to used old mid new honest out out_mid out_now (Exhausted counter) brings given fair h = inl (record {
  events = events;
  input = input;
  brings = brings;
  needed = h.1;
  told = h.0 ∙ given;
})

-- bytes could not be fed
pub ends-feed : (meaning : Meaning) (bytes : List ℕ) (a : State) (to : List HostEvent → Course) (used : ℕ) (old new : Told) (honest : Bool) (out : Jobs)
    (r : SessionError)
    → to [] ≡ waits → new ≡ telling_more (gave (Bytes bytes) ∷ []) [] old → IsFeedError used (length bytes) r → EndsBy meaning a to used old new honest out r
ends-feed meaning bytes a to used old new honest out ClientExited asked given h = absurd h
ends-feed meaning bytes a to used old new honest out (BadFrame at) asked given h = absurd h
ends-feed meaning bytes a to used old new honest out (BadMessage at) asked given h = absurd h
ends-feed meaning bytes a to used old new honest out HostFault asked given h = absurd h
ends-feed meaning bytes a to used old new honest out WriteFault asked given h = absurd h
ends-feed meaning bytes a to used old new honest out NoMemory asked given h = inl (record { events = Bytes bytes ∷ []; asked = asked; told = given })
ends-feed meaning bytes a to used old new honest out (Exhausted counter) asked given h =
    inr (record { counter_is = h.0; bytes = bytes; asked = asked; needed = h.1; told = given })
