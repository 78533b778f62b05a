-- The record of a session: how it began, and its events.
use Rattle.std.specs.Prelude.{◌≡◌, ℕ, ◌+◌, List, [], ◌∷◌, ◌++◌, Bool, true, false, cond, Some, Result, Ok, Err}
use Rattle.record_codec.specs.declared.faults.DecodeFault.{DecodeFault}
use Rattle.record_codec.specs.declared.faults.DecodeFault.TheVariants as decode_fault
use Rattle.record_codec.specs.Front.{Found}
use Rattle.record_codec.specs.Codec.{Codec, ◌and◌}
use Rattle.record_codec.specs.Lists.{items_fit, spell_marked, marked}
use Rattle.record_codec.specs.Behind.{behind}
use Rattle.event_codec.specs.Events.{host_event_codec}
use Rattle.session_record.specs.Start.{start_codec}
use Rattle.session_port.specs.declared.event.HostEvent.{HostEvent}
use Rattle.session_record.specs.declared.start.StartConfig.{StartConfig}
use Rattle.session_record.specs.declared.fault.RecordFault.{RecordFault}
use Rattle.session_record.specs.declared.fault.RecordFault.TheVariants.{Unrecordable, BadRecord, NoMemory}

-- `RASREC01`
abbrev pub magic : List ℕ
magic = 82 ∷ 65 ∷ 83 ∷ 82 ∷ 69 ∷ 67 ∷ 48 ∷ 49 ∷ []

-- the eight bytes, the beginning, each event behind a byte 1, and last a byte 0
abbrev pub session : Codec (StartConfig × List HostEvent)
session = behind magic (start_codec and marked host_event_codec)

abbrev pub recorded : StartConfig → List HostEvent → List ℕ
recorded begin events = session.spelling (begin, events)

abbrev pub can_be_recorded : StartConfig → List HostEvent → Bool
can_be_recorded begin events = session.fits (begin, events)

-- bytes are the record of a session that can be recorded
unfoldable pub IsRecordOf : StartConfig → List HostEvent → List ℕ → Type 0
IsRecordOf begin events bytes = (can_be_recorded begin events ≡ true) × (bytes ≡ recorded begin events)

-- the place of the first event that has no spelling, else how many there are
abbrev pub first_unfit : List HostEvent → ℕ
first_unfit [] = 0
first_unfit (e ∷ events) = cond (host_event_codec.fits e) (first_unfit events + 1) 0

-- why a session isn't recorded
abbrev pub Refuses : StartConfig → List HostEvent → RecordFault → Type 0
Refuses begin events (Unrecordable place) = (can_be_recorded begin events ≡ false) × (place ≡ first_unfit events)
Refuses begin events BadRecord = ⊥
Refuses begin events NoMemory = Unit {0}

-- the same of events alone
abbrev pub AppendsEvents : {T : Type 0} → List HostEvent → List ℕ → List ℕ → Result T RecordFault → Type 0
AppendsEvents events old new (Ok done) = (items_fit host_event_codec events ≡ true)
    × (new ≡ old ++ spell_marked host_event_codec events)
AppendsEvents events old new (Err (Unrecordable place)) = (items_fit host_event_codec events ≡ false)
    × (place ≡ first_unfit events)
AppendsEvents events old new (Err BadRecord) = ⊥
AppendsEvents events old new (Err NoMemory) = Unit {0}

-- all of the bytes were read, or nothing reads all of them, or memory ran out
abbrev pub DecodesAll : {A : Type 0} → Found A → Result A DecodeFault → Type 0
DecodesAll found (Ok x) = found ≡ Some (x, [])
DecodesAll {A = A} found (Err decode_fault.Malformed) = (x : A) → found ≡ Some (x, []) → ⊥
DecodesAll found (Err decode_fault.NoMemory) = Unit {0}

-- it is this session, or memory ran out
abbrev pub IsSession : StartConfig → List HostEvent → Result (StartConfig × List HostEvent) RecordFault → Type 0
IsSession begin events (Ok x) = x ≡ (begin, events)
IsSession begin events (Err (Unrecordable place)) = ⊥
IsSession begin events (Err BadRecord) = ⊥
IsSession begin events (Err NoMemory) = Unit {0}

-- the bytes are no record, or memory ran out
abbrev pub RefusesBytes : List ℕ → RecordFault → Type 0
RefusesBytes bytes (Unrecordable place) = ⊥
RefusesBytes bytes BadRecord = (begin : StartConfig) (events : List HostEvent) → can_be_recorded begin events ≡ true
    → bytes ≡ recorded begin events → ⊥
RefusesBytes bytes NoMemory = Unit {0}
