use Rattle.std.proofs.Common.{◌≡◌, ◌+◌, ◌++◌, drop}
use Rattle.record_codec.specs.Lists.{items_fit, spell_marked}
use Rattle.event_codec.specs.Events.{host_event_codec}
use Rattle.session_record.specs.Record.{first_unfit}
use Rattle.session_record.proofs.record.encode_events.Given as goal

-- what was put, with what is left to put, is all
abbrev pub invariant-loop-event : goal.invariant-loop-event
invariant-loop-event l = record {
  text : l.out.items ++ spell_marked host_event_codec (drop l.event-index l.events) ≡ l.fn.out.items ++ spell_marked host_event_codec l.events;
  fits : items_fit host_event_codec (drop l.event-index l.events) ≡ items_fit host_event_codec l.events;
  at : l.place ≡ l.event-index;
  unfit : l.place + first_unfit (drop l.event-index l.events) ≡ first_unfit l.events;
}
