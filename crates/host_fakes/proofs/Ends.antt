-- Events, and the ends behind them.
use Rattle.std.proofs.Common.{◌≡◌, Bool, true, false, cond, List, [], ◌∷◌, ◌++◌, refl, sym, ap, subst, ◌∙◌, append-nil, append_assoc}
use Rattle.std.specs.Prelude.{◌&&◌, length, ◌==◌, Option, None, Some, IfNone}
use Rattle.std.specs.Option.{option_to_list}
use Rattle.session_port.specs.Record.{HostCall, gave, took, given_in}
use Rattle.session_port.specs.declared.event.HostEvent.{HostEvent}
use Rattle.session_port.specs.declared.event.HostEvent.TheVariants.{Ended}
use Rattle.session_port.specs.declared.command.Command.{Command}
use Rattle.host_fakes.specs.Script.{is_end, without_ends, next_event}

-- an end more behind all others is left out as well
pub without_ends-end : (events : List HostEvent) → without_ends (events ++ Ended ∷ []) ≡ without_ends events
without_ends-end [] = refl
without_ends-end (first ∷ later) =
    ap (λ rest. cond (is_end first && (length rest == 0)) [] (first ∷ rest)) (without_ends-end later)

pub given-gave : (calls : List HostCall) (event : HostEvent) → given_in (calls ++ gave event ∷ []) ≡ given_in calls ++ event ∷ []
given-gave [] event = refl
given-gave (gave first ∷ calls) event = ap (λ xs. first ∷ xs) (given-gave calls event)
given-gave (took commands ∷ calls) event = given-gave calls event

pub given-took : (calls : List HostCall) (commands : List Command) → given_in (calls ++ took commands ∷ []) ≡ given_in calls
given-took [] commands = refl
given-took (gave first ∷ calls) commands = ap (λ xs. first ∷ xs) (given-took calls commands)
given-took (took other ∷ calls) commands = given-took calls commands

-- the next of the events was given
pub without_ends-next : (calls : List HostCall) (event : HostEvent) (later : List HostEvent)
    → without_ends (given_in (calls ++ gave event ∷ []) ++ later) ≡ without_ends (given_in calls ++ event ∷ later)
without_ends-next calls event later = ap without_ends (ap (λ xs. xs ++ later) (given-gave calls event) ∙ append_assoc (given_in calls) (event ∷ []) later)

-- an end was given where none are left
pub without_ends-last : (calls : List HostCall) → without_ends (given_in (calls ++ gave Ended ∷ []) ++ []) ≡ without_ends (given_in calls ++ [])
without_ends-last calls =
    without_ends-next calls Ended [] ∙ without_ends-end (given_in calls) ∙ ap without_ends (sym (append-nil (given_in calls)))

-- the next of its events was given, or an end where it has none
pub without_ends-given : (calls : List HostCall) (events later : List HostEvent) (event : HostEvent) (taken : Option HostEvent)
    → event ≡ (next_event events).0 → events ≡ option_to_list taken ++ later → IfNone taken (later ≡ [])
    → without_ends (given_in (calls ++ gave event ∷ []) ++ later) ≡ without_ends (given_in calls ++ events)
without_ends-given calls events later event (Some first) is split none =
    let same : event ≡ first = is ∙ ap (λ es. (next_event es).0) split in
    ap (λ e. without_ends (given_in (calls ++ gave e ∷ []) ++ later)) same ∙ without_ends-next calls first later
    ∙ ap (λ es. without_ends (given_in calls ++ es)) (sym split)
without_ends-given calls events later event None is split none =
    let empty : events ≡ [] = split ∙ none in
    let same : event ≡ Ended = is ∙ ap (λ es. (next_event es).0) empty in
    ap (λ e. without_ends (given_in (calls ++ gave e ∷ []) ++ later)) same
    ∙ ap (λ es. without_ends (given_in (calls ++ gave Ended ∷ []) ++ es)) none ∙ without_ends-last calls
    ∙ ap (λ es. without_ends (given_in calls ++ es)) (sym empty)
