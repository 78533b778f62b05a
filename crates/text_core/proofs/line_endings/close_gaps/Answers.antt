use Rattle.std.proofs.Common.{◌≡◌, ◌+◌, ◌-◌, ◌<◌, length, drop, Some, None, ap, sym, ◌∙◌, arith}
use Rattle.std.specs.Prelude.{is_some}
use Rattle.std.proofs.lemmas.Grind.{common_steps}
use Rattle.std.proofs.lemmas.List.{take_rest, length-drop}
use Rattle.text_core.specs.LineEnds.{crlf_place}
use Rattle.text_core.proofs.LineEndLemmas.{crlf_found, moved_on, moved_all, moved_none, rest_on, seen_on, crlf_none}
use Rattle.text_core.proofs.line_endings.close_gaps.Goals as goal

pub loop-gap-preserved : goal.loop-gap-preserved
loop-gap-preserved c =
    let place : crlf_place (drop c.loop-gap.read c.loop-gap.bytes.items) ≡ Some c.in-Some.gap =
    sym (c.in-Some.ensures.value ∙ ap crlf_place (take_rest c.deref.result.now c.loop-gap.read) ∙ ap (λ l. crlf_place (drop c.loop-gap.read l)) c.deref.ensures.value) in
    let found = crlf_found (drop c.loop-gap.read c.loop-gap.bytes.items) c.in-Some.gap place in
    let within : c.loop-gap.read + c.in-Some.gap + 1 < length c.loop-gap.bytes.items = omega (arith, found.within, length-drop c.loop-gap.read c.loop-gap.bytes.items) in
    record {
      order = omega arith;
      within = omega (arith, c.move_down.ensures.len);
      rest = rest_on c.args.bytes.now.items c.loop-gap.bytes.items c.move_down.new.bytes.items c.loop-gap.read c.in-Some.gap c.loop-gap.invariant.rest c.move_down.ensures.rest;
      done = moved_on c.args.bytes.now.items c.loop-gap.bytes.items c.move_down.new.bytes.items c.loop-gap.read c.loop-gap.write c.in-Some.gap c.loop-gap.invariant.rest place c.loop-gap.invariant.done c.move_down.ensures.front;
      seen = λ _. seen_on c.args.bytes.now.items c.loop-gap.bytes.items c.loop-gap.read c.in-Some.gap c.loop-gap.invariant.seen c.loop-gap.invariant.none place;
      none = λ zero_read. absurd (omega arith);
    }

pub returns-then-read-eq0-clause-bytes : goal.returns-then-read-eq0-clause-bytes
returns-then-read-eq0-clause-bytes c =
    let none : crlf_place (drop c.loop-gap.read c.loop-gap.bytes.items) ≡ None =
    sym (c.in_default.ensures.value ∙ ap crlf_place (take_rest c.deref.result.now c.loop-gap.read) ∙ ap (λ l. crlf_place (drop c.loop-gap.read l)) c.deref.ensures.value) in
    let same = c.loop-gap.invariant.none c.if-read-eq0.true in
    same ∙ sym (crlf_none c.args.bytes.now.items (moved_none c.args.bytes.now.items c.loop-gap.bytes.items c.loop-gap.read c.if-read-eq0.true same none))

pub returns-then-read-eq0-clause-seen : goal.returns-then-read-eq0-clause-seen
returns-then-read-eq0-clause-seen c =
    let none : crlf_place (drop c.loop-gap.read c.loop-gap.bytes.items) ≡ None =
    sym (c.in_default.ensures.value ∙ ap crlf_place (take_rest c.deref.result.now c.loop-gap.read) ∙ ap (λ l. crlf_place (drop c.loop-gap.read l)) c.deref.ensures.value) in
    let same = c.loop-gap.invariant.none c.if-read-eq0.true in
    sym (ap is_some (moved_none c.args.bytes.now.items c.loop-gap.bytes.items c.loop-gap.read c.if-read-eq0.true same none))

pub returns-clause-bytes : goal.returns-clause-bytes
returns-clause-bytes c =
    let none : crlf_place (drop c.loop-gap.read c.loop-gap.bytes.items) ≡ None =
    sym (c.in_default.ensures.value ∙ ap crlf_place (take_rest c.deref.result.now c.loop-gap.read) ∙ ap (λ l. crlf_place (drop c.loop-gap.read l)) c.deref.ensures.value) in
    let size : length c.loop-gap.bytes.items ≡ c.len.result = grind (arith, common_steps) in
    c.truncate.ensures.items
    ∙ moved_all c.args.bytes.now.items c.loop-gap.bytes.items c.move_down-2.new.bytes.items c.loop-gap.read c.loop-gap.write (c.len.result - c.loop-gap.read) c.loop-gap.invariant.rest none c.loop-gap.invariant.done (omega arith) c.move_down-2.ensures.front
