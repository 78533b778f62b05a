-- What holds of each place, whatever the turns.
use Rattle.std.proofs.Common.{◌≡◌, ℕ, ◌+◌, ◌≤◌, List, [], ◌∷◌, sym, ap, subst, arith}
use Rattle.std.specs.Prelude.{Err, IfOk, None, Ok, Option, Result, Some}
use Rattle.std.specs.Result.{result_unwrap_or}
use Rattle.ra_config.specs.Config.{ConfigData}
use Rattle.session_port.specs.TurnState.{TurnState}
use Rattle.session_port.specs.declared.fault.Counter.{Counter}
use Rattle.desk.specs.Desk.{Desk}
use Rattle.desk.specs.Meaning.{Meaning}
use Rattle.workspaces.specs.declared.requests.WaitingFetch.{WaitingFetch}
use Rattle.session_model.specs.Inputs.{turns_after}
use Rattle.session_model.specs.Machine.{step}
use Rattle.session_model.specs.Places.{beginning, Place, place_after, place_after_all, place_of_turns}
use Rattle.session_model.specs.Run.{Turn, turn_start}
use Rattle.session_model.specs.State.{State}
use Rattle.session_model.specs.declared.input.Input.{Input}
use Rattle.session_model.specs.declared.input.Input.TheVariants.{Start, Next}
use Rattle.session_model.specs.RunEnds.{needs_of}
use Rattle.session_laws.specs.Invariant.{IsOfTurns, WaitsOfTurns, place_of_state}
use Rattle.session_laws.proofs.Counting.{Counts, given, state_ahead}
use Rattle.session_laws.proofs.Exhausting.{step-does}
use Rattle.session_laws.proofs.Rows.{Closes, step-closes}
use Rattle.session_laws.proofs.Same.{at-most-on}

-- the turns of the machine are no more than those of the lists, the versions of its workspaces are no more than its turns, and a fetch that waits for a timer
-- has the number of one of them
record IsInTurn (turns : ℕ) (s : State) : Type 0 where
  counted : s.desk.turns ≤ turns
  versions : s.workspaces.version ≤ s.desk.turns
  waits : WaitsOfTurns s

later-turns : (input : Input) (turns : ℕ) → turns ≤ turns_after input turns
later-turns Start turns = omega arith
later-turns (Next event) turns = omega arith

both-later : (input : Input) (a b : ℕ) → a ≤ b → turns_after input a ≤ turns_after input b
both-later Start a b le = le
both-later (Next event) a b le = omega (arith, le)

as-turns : (input : Input) (version turns now : ℕ) → now ≤ version + turns_after input 0 → version ≤ turns → now ≤ turns_after input turns
as-turns Start version turns now gives le = omega (arith, gives, le)
as-turns (Next event) version turns now gives le = omega (arith, gives, le)

step-cases : (meaning : Meaning) (input : Input) (turns : ℕ) (s : State) (r : Result (TurnState State) Counter) → IfOk r (Closes meaning s input)
    → Counts state_ahead (needs_of meaning input (place_of_state s)) (given s) r → IsInTurn turns s
    → IsInTurn (turns_after input turns) (result_unwrap_or r (turn_start s)).state
step-cases meaning input turns s (Ok v) closes counts h =
    let number : v.state.desk.turns ≡ turns_after input s.desk.turns = ap (λ (d : Desk). d.turns) closes.desk in
    record {
      counted = subst (λ n. n ≤ turns_after input turns) (sym number) (both-later input s.desk.turns turns h.counted);
      versions = subst (λ n. v.state.workspaces.version ≤ n) (sym number)
          (as-turns input s.workspaces.version s.desk.turns v.state.workspaces.version counts.versions h.versions);
      waits = closes.waits h.waits;
    }
step-cases meaning input turns s (Err counter) closes counts h =
    record { counted = at-most-on s.desk.turns turns (turns_after input turns) h.counted (later-turns input turns); versions = h.versions; waits = h.waits }

all-in-turn : (meaning : Meaning) (turns : List Turn) (place : Place) → IsInTurn place.desk.turns place.rest
    → IsInTurn (place_after_all meaning turns place).desk.turns (place_after_all meaning turns place).rest
all-in-turn meaning [] place h = h
all-in-turn meaning (turn ∷ turns) place h =
    all-in-turn meaning turns (place_after meaning turn place)
    (step-cases meaning turn.input place.desk.turns place.rest (step meaning turn.input (turn_start place.rest)) (step-closes meaning place.rest turn.input)
    (step-does meaning place.rest turn.input) h)

placed-in-turn : (meaning : Meaning) (settings : ConfigData) (turns : List Turn)
    → IsInTurn (place_of_turns meaning settings turns).desk.turns (place_of_turns meaning settings turns).rest
placed-in-turn meaning settings turns = all-in-turn meaning turns (beginning settings) (record { counted = omega arith; versions = omega arith; waits = tt })

pub versions-in-turn : (meaning : Meaning) (settings : ConfigData) (turns : List Turn) → let place =
    place_of_turns meaning settings turns in place.rest.workspaces.version ≤ place.desk.turns
versions-in-turn meaning settings turns =
    let place = place_of_turns meaning settings turns in
    let h = placed-in-turn meaning settings turns in
    at-most-on place.rest.workspaces.version place.rest.desk.turns place.desk.turns h.versions h.counted

waits-later : (waiting : Option WaitingFetch) (turns more : ℕ) → turns ≤ more → IsOfTurns turns waiting → IsOfTurns more waiting
waits-later None turns more le h = tt
waits-later (Some fetch) turns more le h = omega (arith, le, h)

pub timers-in-turn : (meaning : Meaning) (settings : ConfigData) (turns : List Turn) → let place =
    place_of_turns meaning settings turns in IsOfTurns place.desk.turns place.rest.workspaces.fetches.waiting
timers-in-turn meaning settings turns =
    let place = place_of_turns meaning settings turns in
    let h = placed-in-turn meaning settings turns in
    waits-later place.rest.workspaces.fetches.waiting place.rest.desk.turns place.desk.turns h.counted h.waits
