use Rattle.std.proofs.Common.{◌≡◌, ℕ, ◌+◌, ◌-◌, ◌<◌, ◌≤◌, List, [], ◌∷◌, ◌++◌, length, take, get_or, suc, refl, ap, subst, sym, ◌∙◌, arith, string_bytes}
use Rattle.std.specs.Prelude.{slice_range}
use Rattle.std.proofs.lemmas.Grind.{common_steps}
use Rattle.std.proofs.lemmas.List.{take_all}
use Rattle.std.proofs.Math.Seq.{take-suc}
use Rattle.text_core.specs.IndexInvariant.{text_of}
use Rattle.text_core.specs.Starts.{starts_in}
use Rattle.text_core.specs.declared.splices.Splice.{Splice}
use Rattle.text_core.proofs.MadeLemmas.{HasStarts, IsNext, starts_begin, starts_next, starts_go_on, starts_end}
use Rattle.text_core.proofs.draft.made_starts.Goals as goal

-- the splices that are left, with the one that is taken
with_next : (splices : List Splice) (i : ℕ) (s : Splice) → 0 < i → i ≤ length splices → s ≡ get_or splices (i - 1) s → take i splices ≡ take (i - 1) splices ++ s ∷ []
with_next splices i s some within here =
    let next : suc (i - 1) ≡ i = omega arith in
    ap (λ n. take n splices) (sym next) ∙ take-suc splices (i - 1) s (omega arith) ∙ ap (λ x. take (i - 1) splices ++ x ∷ []) (sym here)

is_next : (text all : List ℕ) (place : ℕ) (splices : List Splice) (i : ℕ) (s : Splice) (size : ℕ) (starts : List ℕ) → HasStarts text all place (take i splices) size starts
    → 0 < i → i ≤ length splices → s ≡ get_or splices (i - 1) s → IsNext text all place size s
is_next text all place splices i s size starts has some within here =
    starts_next text all place (take i splices) (take (i - 1) splices) s size starts has (with_next splices i s some within here)

pub loop-index-init : goal.loop-index-init
loop-index-init c =
    let draft = c.args.draft.now in
    let whole : take c.len-index.result draft.splices.items ≡ draft.splices.items = take_all c.len-index.result draft.splices.items (omega (arith, c.len-index.ensures)) in
    let first : c.push.new.self.items ≡ 0 ∷ [] = c.in_ok-push.ensures.items ∙ ap (λ l. l ++ 0 ∷ []) c.in_ok-starts.ensures.items in
    subst (HasStarts (string_bytes draft.text) (text_of draft) 0 (take c.len-index.result draft.splices.items) 0) (sym first)
    (subst (λ l. HasStarts (string_bytes draft.text) (text_of draft) 0 l 0 (0 ∷ [])) (sym whole)
    (starts_begin (string_bytes draft.text) draft.splices.items c.requires.kept.falls))

pub push_kept-requires-clause-rising : goal.push_kept-requires-clause-rising
push_kept-requires-clause-rising c =
    let next = is_next (string_bytes c.args.draft.now.text) (text_of c.args.draft.now) c.loop-index.place c.args.draft.now.splices.items c.loop-index.index c.index-splice.result.now c.loop-index.made
    c.loop-index.starts.items c.loop-index.invariant c.loop-index-test.true (omega (arith, c.loop-index.auto.index, c.len-index.ensures)) c.index-splice.ensures in
    next.low

pub push_kept-requires-clause-within : goal.push_kept-requires-clause-within
push_kept-requires-clause-within c =
    let next = is_next (string_bytes c.args.draft.now.text) (text_of c.args.draft.now) c.loop-index.place c.args.draft.now.splices.items c.loop-index.index c.index-splice.result.now c.loop-index.made
    c.loop-index.starts.items c.loop-index.invariant c.loop-index-test.true (omega (arith, c.loop-index.auto.index, c.len-index.ensures)) c.index-splice.ensures in
    omega (arith, next.rising, next.within)

pub push_kept-requires-clause-fits : goal.push_kept-requires-clause-fits
push_kept-requires-clause-fits c =
    let next = is_next (string_bytes c.args.draft.now.text) (text_of c.args.draft.now) c.loop-index.place c.args.draft.now.splices.items c.loop-index.index c.index-splice.result.now c.loop-index.made
    c.loop-index.starts.items c.loop-index.invariant c.loop-index-test.true (omega (arith, c.loop-index.auto.index, c.len-index.ensures)) c.index-splice.ensures in
    omega (arith, next.fits, c.requires.kept.counted, c.requires.fits)

pub overflow_sub-made : goal.overflow_sub-made
overflow_sub-made c =
    let next = is_next (string_bytes c.args.draft.now.text) (text_of c.args.draft.now) c.loop-index.place c.args.draft.now.splices.items c.loop-index.index c.index-splice.result.now c.loop-index.made
    c.loop-index.starts.items c.loop-index.invariant c.loop-index-test.true (omega (arith, c.loop-index.auto.index, c.len-index.ensures)) c.index-splice.ensures in
    next.low

pub overflow_add-made : goal.overflow_add-made
overflow_add-made c =
    let next = is_next (string_bytes c.args.draft.now.text) (text_of c.args.draft.now) c.loop-index.place c.args.draft.now.splices.items c.loop-index.index c.index-splice.result.now c.loop-index.made
    c.loop-index.starts.items c.loop-index.invariant c.loop-index-test.true (omega (arith, c.loop-index.auto.index, c.len-index.ensures)) c.index-splice.ensures in
    omega (arith, next.fits, c.requires.kept.counted, c.requires.fits)

pub push_starts-requires : goal.push_starts-requires
push_starts-requires c =
    let next = is_next (string_bytes c.args.draft.now.text) (text_of c.args.draft.now) c.loop-index.place c.args.draft.now.splices.items c.loop-index.index c.index-splice.result.now c.loop-index.made
    c.loop-index.starts.items c.loop-index.invariant c.loop-index-test.true (omega (arith, c.loop-index.auto.index, c.len-index.ensures)) c.index-splice.ensures in
    omega (arith, next.fits, ap length c.as_bytes.ensures.value, c.requires.kept.counted, c.requires.fits)

pub overflow_add-made-in-loop-index : goal.overflow_add-made-in-loop-index
overflow_add-made-in-loop-index c =
    let next = is_next (string_bytes c.args.draft.now.text) (text_of c.args.draft.now) c.loop-index.place c.args.draft.now.splices.items c.loop-index.index c.index-splice.result.now c.loop-index.made
    c.loop-index.starts.items c.loop-index.invariant c.loop-index-test.true (omega (arith, c.loop-index.auto.index, c.len-index.ensures)) c.index-splice.ensures in
    omega (arith, next.fits, c.requires.kept.counted, c.requires.fits)

pub loop-index-preserved : goal.loop-index-preserved
loop-index-preserved c =
    let draft = c.args.draft.now in
    let splice = c.index-splice.result.now in
    let moved = c.loop-index.made + (splice.start - c.loop-index.place) in
    let left = with_next draft.splices.items c.loop-index.index splice c.loop-index-test.true (omega (arith, c.loop-index.auto.index, c.len-index.ensures)) c.index-splice.ensures in
    starts_go_on (string_bytes draft.text) (text_of draft) c.loop-index.place (take c.loop-index.index draft.splices.items) (take (c.loop-index.index - 1) draft.splices.items)
    splice c.loop-index.made moved c.loop-index.starts.items c.push_starts.new.starts.items c.loop-index.invariant left refl
    (c.in_ok-push_starts.ensures ∙ ap (λ l. c.push_kept.new.starts.items ++ starts_in moved l) c.as_bytes.ensures.value
    ∙ ap (λ l. l ++ starts_in moved splice.text.now) c.in_ok-push_kept.ensures)

-- no splice is left
none_left : (text all : List ℕ) (place : ℕ) (splices : List Splice) (i size : ℕ) (starts : List ℕ) → HasStarts text all place (take i splices) size starts → i ≤ 0
    → HasStarts text all place [] size starts
none_left text all place splices i size starts has none =
    let zero : i ≡ 0 = omega arith in
    subst (λ n. HasStarts text all place (take n splices) size starts) zero has

pub returns : goal.returns
returns c =
    let draft = c.args.draft.now in
    let left = none_left (string_bytes draft.text) (text_of draft) c.loop-index.place draft.splices.items c.loop-index.index c.loop-index.made c.loop-index.starts.items
    c.loop-index.invariant c.loop-index-test.false in
    let size : c.len-2.result ≡ length (string_bytes draft.text) = grind (arith, common_steps) in
    starts_end (string_bytes draft.text) (text_of draft) c.loop-index.place c.loop-index.made c.loop-index.starts.items c.push_kept-2.new.starts.items left
    (c.in_ok-push_kept-2.ensures ∙ ap (λ n. c.loop-index.starts.items ++ starts_in c.loop-index.made (slice_range (string_bytes draft.text) c.loop-index.place n)) size)
