-- What a recorder keeps of a session while it goes on.
use Rattle.std.specs.Prelude.{◌≡◌, ℕ, List, [], ◌∷◌, ◌++◌, length, true, false, Option, Some, None}
use Rattle.record_codec.specs.Lists.{items_fit}
use Rattle.event_codec.specs.Events.{host_event_codec}
use Rattle.session_record.specs.Start.{start_codec}
use Rattle.session_record.specs.Record.{magic, first_unfit}
use Rattle.session_port.specs.declared.event.HostEvent.{HostEvent}
use Rattle.session_record.specs.declared.start.StartConfig.{StartConfig}
use Rattle.session_record.specs.declared.recording.Recording.{Recording}
use Rattle.session_record.specs.declared.fault.RecordFault.{RecordFault}
use Rattle.session_record.specs.declared.fault.RecordFault.TheVariants.{Unrecordable, BadRecord, NoMemory}

-- each event behind a byte 1, with no last byte
abbrev pub spell_open : List HostEvent → List ℕ
spell_open [] = []
spell_open (e ∷ events) = 1 ∷ (host_event_codec.spelling e ++ spell_open events)

-- why nothing is kept of these events: one has no spelling, or memory ran out
abbrev pub IsCause : List HostEvent → RecordFault → Type 0
IsCause events (Unrecordable place) = (items_fit host_event_codec events ≡ false) × (place ≡ first_unfit events)
IsCause events BadRecord = ⊥
IsCause events NoMemory = Unit {0}

-- what is kept of a session that began so and had these events, by the fault that came up: if none, the bytes of a
-- beginning that has a spelling and of the events, but for the last byte
abbrev pub IsKeptBy : StartConfig → List HostEvent → Recording → Option RecordFault → Type 0
IsKeptBy begin events k (Some fault) = IsCause events fault
IsKeptBy begin events k None =
    (items_fit host_event_codec events ≡ true)
    × ((k.count ≡ length events)
    × ((k.begins_well ≡ start_codec.fits begin)
    × (k.begins_well ≡ true → k.bytes.items ≡ (magic ++ start_codec.spelling begin) ++ spell_open events)))

abbrev pub IsKept : StartConfig → List HostEvent → Recording → Type 0
IsKept begin events k = IsKeptBy begin events k k.fault
