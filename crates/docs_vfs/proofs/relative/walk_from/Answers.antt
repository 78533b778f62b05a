use Rattle.std.proofs.Common.{◌≡◌, ◌==◌, true, false, None, Some, length, string_bytes, sym, ap, ◌∙◌, subst}
use Rattle.std.proofs.lemmas.Bool.{cond-true, cond-false}
use Rattle.docs_vfs.specs.Paths.{parts}
use Rattle.docs_vfs.specs.Resolve.{walk}
use Rattle.docs_vfs.specs.Fronts.{whole, IsFront, Reaches}
use Rattle.docs_vfs.proofs.FrontLemmas.{front_of_path, whole_front}
use Rattle.docs_vfs.proofs.relative.walk_from.Goals as goal

pub take_segments-requires : goal.take_segments-requires
take_segments-requires c = subst IsFront (sym (c.in_ok-text.ensures.ok ∙ c.front_text.ensures)) (front_of_path c.args.base.now c.requires)

pub returns-then-not-branch : goal.returns-then-not-branch
returns-then-not-branch c =
    let segments = parts c.args.segments.now in
    let start : whole (string_bytes c.in_ok-text.text) ≡ c.args.base.now = ap whole (c.in_ok-text.ensures.ok ∙ c.front_text.ensures) ∙ whole_front c.args.base.now c.requires in
    let expected = walk c.args.empty (whole (string_bytes c.in_ok-text.text)) segments in
    let stop : expected ≡ None = subst (λ b. Reaches b expected (string_bytes c.take_segments.new.text)) c.if-not-branch.true c.in_ok-take_segments.ensures in
    sym (ap (λ b. walk c.args.empty b segments) (sym start) ∙ stop)

pub returns-then-is_empty : goal.returns-then-is_empty
returns-then-is_empty c =
    let segments = parts c.args.segments.now in
    let text = string_bytes c.take_segments.new.text in
    let start : whole (string_bytes c.in_ok-text.text) ≡ c.args.base.now = ap whole (c.in_ok-text.ensures.ok ∙ c.front_text.ensures) ∙ whole_front c.args.base.now c.requires in
    let expected = walk c.args.empty (whole (string_bytes c.in_ok-text.text)) segments in
    let got = subst (λ b. Reaches b expected text) c.if-not-branch.false c.in_ok-take_segments.ensures in
    let none : (length text == 0) ≡ true = ap (λ l. length l == 0) (sym c.as_str.ensures.value) ∙ sym c.is_empty.ensures ∙ c.if-is_empty.true in
    ap Some (c.in_ok-root.ensures ∙ sym (cond-true _ _ _ none)) ∙ sym (ap (λ b. walk c.args.empty b segments) (sym start) ∙ got.0)

pub returns : goal.returns
returns c =
    let segments = parts c.args.segments.now in
    let text = string_bytes c.take_segments.new.text in
    let start : whole (string_bytes c.in_ok-text.text) ≡ c.args.base.now = ap whole (c.in_ok-text.ensures.ok ∙ c.front_text.ensures) ∙ whole_front c.args.base.now c.requires in
    let expected = walk c.args.empty (whole (string_bytes c.in_ok-text.text)) segments in
    let got = subst (λ b. Reaches b expected text) c.if-not-branch.false c.in_ok-take_segments.ensures in
    let some : (length text == 0) ≡ false = ap (λ l. length l == 0) (sym c.as_str.ensures.value) ∙ sym c.is_empty.ensures ∙ c.if-is_empty.false in
    ap Some (c.in_ok-from_string.ensures ∙ sym (cond-false _ _ _ some)) ∙ sym (ap (λ b. walk c.args.empty b segments) (sym start) ∙ got.0)
