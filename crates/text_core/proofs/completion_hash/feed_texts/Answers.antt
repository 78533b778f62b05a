use Rattle.std.proofs.Common.{◌++◌, ap, sym, subst, ◌∙◌, take, map, length, append_assoc, get_or, List, ℕ, arith}
use Rattle.std.specs.List.{concat}
use Rattle.std.specs.Int.{to_le_bytes, w64}
use Rattle.text_core.specs.Hashed.{text_bytes}
use Rattle.text_core.proofs.HashLemmas.{Feeds, feeds_then, texts_more}
use Rattle.text_core.proofs.completion_hash.feed_texts.Goals as goal

pub loop-text-preserved : goal.loop-text-preserved
loop-text-preserved c =
    let texts : List (List ℕ) = c.args.texts.now in
    let count = to_le_bytes w64 (length texts) in
    let before = concat (map text_bytes (take c.loop-text.text-index texts)) in
    let one : Feeds c.loop-text.hasher c.feed_text.new.hasher (text_bytes c.text-item.result) =
    subst (λ t. Feeds c.loop-text.hasher c.feed_text.new.hasher (text_bytes t)) c.as_str.ensures.value c.feed_text.ensures in
    let next = feeds_then c.args.hasher.now c.loop-text.hasher c.feed_text.new.hasher (count ++ before) (text_bytes c.text-item.result) c.loop-text.invariant one in
    let same = append_assoc count before (text_bytes c.text-item.result) ∙ ap (λ l. count ++ l) (sym (texts_more texts c.loop-text.text-index c.text-item.result
    (omega (arith, c.loop-text-test.true, ap length c.as_slice-text-items.ensures))
    (sym (c.text-item.is ∙ ap (λ l. get_or l c.loop-text.text-index c.text-item.result) c.as_slice-text-items.ensures)))) in
    subst (Feeds c.args.hasher.now c.feed_text.new.hasher) same next
