use Rattle.std.proofs.Common.{◌≢◌, ◌≤◌, ◌+◌, ◌<◌, length, drop, get_or, Some, None, ap, sym, subst, ◌∙◌, arith, inl, inr}
use Rattle.std.specs.Prelude.{◌⊎◌}
use Rattle.std.proofs.lemmas.List.{take_rest}
use Rattle.std.proofs.lemmas.Grind.{common_steps}
use Rattle.memchr.specs.Find.{IsFirstByte, is_byte}
use Rattle.text_core.proofs.LineLemmas.{further}
use Rattle.text_core.proofs.LineEndLemmas.{no_cr, place_here, place_on}
use Rattle.text_core.proofs.line_endings.find_crlf.Goals as goal
use Rattle.text_core.proofs.line_endings.find_crlf.Goals.{else-at-bytes-via-then-at-bytes+else-bytes-at-eq10, else-at-bytes-via-else-at-bytes}

pub returns-then-bytes-at-eq10-clause-value : goal.returns-then-bytes-at-eq10-clause-value
returns-then-bytes-at-eq10-clause-value c =
    let first : IsFirstByte (is_byte 13) (drop c.loop-gap.from c.args.bytes.now) (Some c.in-Some.gap) = subst (λ l. IsFirstByte (is_byte 13) l (Some c.in-Some.gap)) (take_rest c.args.bytes.now c.loop-gap.from) c.in-Some.ensures in
    sym (place_here c.args.bytes.now c.loop-gap.from c.in-Some.gap c.loop-gap.invariant.place first c.if-at-bytes.true (grind (arith, common_steps)))

pub loop-gap-preserved : goal.loop-gap-preserved
loop-gap-preserved c =
    let first : IsFirstByte (is_byte 13) (drop c.loop-gap.from c.args.bytes.now) (Some c.in-Some.gap) = subst (λ l. IsFirstByte (is_byte 13) l (Some c.in-Some.gap)) (take_rest c.args.bytes.now c.loop-gap.from) c.in-Some.ensures in
    let at = c.loop-gap.from + c.in-Some.gap + 1 in
    let other : (length c.args.bytes.now ≤ at) ⊎ ((at < length c.args.bytes.now) × (get_or c.args.bytes.now at 0 ≢ 10)) =
    elim c.else-at-bytes.branch [
      | else-at-bytes-via-then-at-bytes+else-bytes-at-eq10 w ↦ inr (w.if-at-bytes.true, w.if-bytes-at-eq10.false)
      | else-at-bytes-via-else-at-bytes w ↦ inl w.if-at-bytes.false
    ] in
    let next = place_on c.args.bytes.now c.loop-gap.from c.in-Some.gap c.loop-gap.invariant.place first other in
    record { within = next.0; place = next.1 }

pub returns-clause-value : goal.returns-clause-value
returns-clause-value c =
    let none : IsFirstByte (is_byte 13) (drop c.loop-gap.from c.args.bytes.now) None = subst (λ l. IsFirstByte (is_byte 13) l None) (take_rest c.args.bytes.now c.loop-gap.from) c.in_default.ensures in
    sym (c.loop-gap.invariant.place ∙ ap (further c.loop-gap.from) (no_cr _ none))
