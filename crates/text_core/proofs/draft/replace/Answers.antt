use Rattle.std.proofs.Common.{◌≡◌, ◌+◌, ◌-◌, ◌≤◌, ◌++◌, ◌∷◌, [], length, Some, ap, sym, subst, ◌∙◌, arith, string_bytes}
use Rattle.std.specs.List.{replace_range}
use Rattle.text_core.specs.CommonEnds.{HasEnds}
use Rattle.text_core.specs.IndexInvariant.{IsKept, text_of}
use Rattle.text_core.specs.Splices.{spliced}
use Rattle.text_core.specs.declared.splices.Splice.{Splice}
use Rattle.text_core.proofs.EndLemmas.{length_edit}
use Rattle.text_core.proofs.KeptLemmas.{edit_progress, kept_edit}
use Rattle.text_core.proofs.SpliceLemmas.{spliced-push}
use Rattle.text_core.proofs.draft.replace.Goals as goal

pub returns-in_ok-push-clause-kept : goal.returns-in_ok-push-clause-kept
returns-in_ok-push-clause-kept c =
    let draft = c.args.draft.now in
    let s : Splice = record { start = c.in-Ok.start; end = c.in-Ok.end; text = c.args.new_text } in
    let more : c.push.new.self.items ≡ draft.splices.items ++ s ∷ [] = c.in_ok-push.ensures.items in
    let size = draft.size - (c.in-Ok.end - c.in-Ok.start) + length c.args.new_text.now in
    subst (λ l. IsKept (string_bytes draft.text) l size draft.starts.items (Some c.args.range.start.line)) (sym more)
    (kept_edit c.args.encoding (string_bytes draft.text) draft.splices.items draft.size draft.starts.items draft.least c.args.range s
    c.requires.kept c.requires.before (sym c.in-Ok.ensures.value_before) c.in-Ok.ensures.below)

pub returns-in_ok-push-clause-progress : goal.returns-in_ok-push-clause-progress
returns-in_ok-push-clause-progress c = λ n.
    let draft = c.args.draft.now in
    let s : Splice = record { start = c.in-Ok.start; end = c.in-Ok.end; text = c.args.new_text } in
    let text = text_of draft in
    let more : c.push.new.self.items ≡ draft.splices.items ++ s ∷ [] = c.in_ok-push.ensures.items in
    let made : spliced (string_bytes draft.text) c.push.new.self.items ≡ replace_range text c.in-Ok.start c.in-Ok.end c.args.new_text.now =
    ap (spliced (string_bytes draft.text)) more ∙ spliced-push (string_bytes draft.text) draft.splices.items s in
    let within : c.in-Ok.end ≤ length text = omega (arith, c.in-Ok.ensures.within, c.requires.kept.counted) in
    let size = length_edit text c.args.new_text.now c.in-Ok.start c.in-Ok.end c.in-Ok.ensures.rising within in
    edit_progress c.args.encoding c.args.limit text (spliced (string_bytes draft.text) c.push.new.self.items) c.args.new_text.now c.in-Ok.start c.in-Ok.end c.args.range draft.least draft.skipped n
    (sym c.in-Ok.ensures.value) made
    (omega (arith, ap length made, size, c.requires.kept.counted, c.in-Ok.ensures.rising, c.if-size-limit.true)) c.requires.before

pub returns-in_ok-push-clause-from : goal.returns-in_ok-push-clause-from
returns-in_ok-push-clause-from c = λ before from.
    let draft = c.args.draft.now in
    let s : Splice = record { start = c.in-Ok.start; end = c.in-Ok.end; text = c.args.new_text } in
    let text = text_of draft in
    let more : c.push.new.self.items ≡ draft.splices.items ++ s ∷ [] = c.in_ok-push.ensures.items in
    let made : spliced (string_bytes draft.text) c.push.new.self.items ≡ replace_range text c.in-Ok.start c.in-Ok.end c.args.new_text.now =
    ap (spliced (string_bytes draft.text)) more ∙ spliced-push (string_bytes draft.text) draft.splices.items s in
    let within : c.in-Ok.end ≤ length text = omega (arith, c.in-Ok.ensures.within, c.requires.kept.counted) in
    subst (λ t. HasEnds before t c.ends_after.result) (sym made)
    (c.ends_after.ensures before text c.args.new_text.now c.in-Ok.end from c.in-Ok.ensures.rising within (ap (λ n. n - c.in-Ok.end) c.requires.kept.counted))
