use Rattle.std.proofs.Common.{◌≡◌, ◌++◌, drop}
use Rattle.record_codec.specs.Lists.{items_fit, spell_items}
use Rattle.event_codec.proofs.recorded.encode_items.Given as goal

-- what was put, with what is left to put, is all; and all have spellings where the rest have
abbrev pub invariant-loop-item : goal.invariant-loop-item
invariant-loop-item g l =
    let c = g.T.Recorded.code in
    record {
      text : l.out.items ++ spell_items c (drop l.item-index l.items) ≡ l.fn.out.items ++ spell_items c l.items;
      fits : items_fit c (drop l.item-index l.items) ≡ items_fit c l.items;
    }
