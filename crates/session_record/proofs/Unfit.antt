-- The first event that has no spelling.
use Rattle.std.proofs.Common.{◌≡◌, List, [], ◌∷◌, length, true, refl, arith}
use Rattle.record_codec.specs.Front.{and_left, and_right}
use Rattle.record_codec.specs.Lists.{items_fit}
use Rattle.event_codec.specs.Events.{host_event_codec}
use Rattle.session_record.specs.Record.{first_unfit}
use Rattle.session_port.specs.declared.event.HostEvent.{HostEvent}

pub none_unfit : (events : List HostEvent) → items_fit host_event_codec events ≡ true → first_unfit events ≡ length events
none_unfit [] fits = refl
none_unfit (e ∷ events) fits =
    let others = none_unfit events (and_right (host_event_codec.fits e) (items_fit host_event_codec events) fits) in
    rw (and_left (host_event_codec.fits e) (items_fit host_event_codec events) fits) (omega (arith, others))
