-- The bytes that a host gives up to its end.
use Rattle.std.specs.Prelude.{◌≡◌, ℕ, ◌≤◌, ◌<◌, ◌-◌, ◌^◌, List, [], ◌∷◌, ◌++◌, length, false, Option, Result, Ok, Err}
use Rattle.std.specs.List.{list_any}
use Rattle.host_fakes.specs.Script.{is_end}
use Rattle.session_port.specs.Events.{event_bytes}
use Rattle.session_port.specs.Record.{HostCall, grown}
use Rattle.session_port.specs.declared.event.HostEvent.{HostEvent}
use Rattle.session_port.specs.declared.event.HostEvent.TheVariants.{Ended}
use Rattle.session_port.specs.declared.fault.Counter.TheVariants.{Turns}
use Rattle.session_laws.specs.Run.{giving}
use Rattle.session_laws.specs.SessionError.TheVariants.{ClientExited, BadFrame, BadMessage, HostFault, WriteFault}
use Rattle.session_laws.specs.SessionError.TheVariants.{Exhausted, NoMemory}
use Rattle.session_replay.specs.declared.error.ReplayError.{ReplayError}
use Rattle.session_replay.specs.declared.error.ReplayError.TheVariants.{Session, BadRecord, Unrecordable, TooLong}

-- the most bytes that are read of a record
abbrev pub most_bytes : ℕ
most_bytes = 268435456

-- the bytes that events bring, one after another
abbrev pub bytes_in : List HostEvent → List ℕ
bytes_in [] = []
bytes_in (event ∷ events) = event_bytes event ++ bytes_in events

-- why a piece was not added: there would be so many bytes, which are too many, or memory ran out
abbrev pub IsPieceError : ℕ → ReplayError → Type 0
IsPieceError size (Session ClientExited) = ⊥
IsPieceError size (Session (BadFrame at)) = ⊥
IsPieceError size (Session (BadMessage at)) = ⊥
IsPieceError size (Session HostFault) = ⊥
IsPieceError size (Session WriteFault) = ⊥
IsPieceError size (Session (Exhausted counter)) = ⊥
IsPieceError size (Session NoMemory) = Unit {0}
IsPieceError size BadRecord = ⊥
IsPieceError size Unrecordable = ⊥
IsPieceError size TooLong = most_bytes < size

-- by what was gathered: these are the events before the end, which came last, or before it could come
abbrev pub GathersBy : List HostEvent → Option (List HostCall) → Option (List HostCall) → Type 0 → Result (List ℕ) ReplayError
    → Type 0
GathersBy events old new HostFailed (Ok bytes) =
    (new ≡ grown old (giving (events ++ Ended ∷ []))) × ((bytes ≡ bytes_in events) × (length bytes ≤ most_bytes))
GathersBy events old new HostFailed (Err (Session ClientExited)) = ⊥
GathersBy events old new HostFailed (Err (Session (BadFrame at))) = ⊥
GathersBy events old new HostFailed (Err (Session (BadMessage at))) = ⊥
GathersBy events old new HostFailed (Err (Session HostFault)) = (new ≡ grown old (giving events)) × HostFailed
GathersBy events old new HostFailed (Err (Session WriteFault)) = ⊥
GathersBy events old new HostFailed (Err (Session (Exhausted counter))) =
    (new ≡ grown old (giving events)) × ((counter ≡ Turns) × (length events ≡ 2 ^ 64 - 1))
GathersBy events old new HostFailed (Err (Session NoMemory)) = new ≡ grown old (giving events)
GathersBy events old new HostFailed (Err BadRecord) = ⊥
GathersBy events old new HostFailed (Err Unrecordable) = ⊥
GathersBy events old new HostFailed (Err TooLong) =
    (new ≡ grown old (giving events)) × (most_bytes < length (bytes_in events))

-- events were taken up to the first end, and nothing was ordered
pub record Gathers (old new : Option (List HostCall)) (HostFailed : Type 0) (res : Result (List ℕ) ReplayError)
    : Type 0 where
  pub events : List HostEvent
  pub goes_on : list_any is_end events ≡ false
  pub by_result : GathersBy events old new HostFailed res
