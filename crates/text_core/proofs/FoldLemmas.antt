-- Rebuilds and texts over lists of changes.
use Rattle.std.proofs.Common.{◌≡◌, ℕ, zero, suc, ◌+◌, ◌-◌, ◌<◌, ◌≤◌, Bool, true, false, ◌&&◌, ◌||◌, List, [], ◌∷◌, length, take, drop, get_or, set, Option, Some, None, refl, ap, sym, subst, ◌∙◌, arith, ⊎_elim}
use Rattle.std.specs.Prelude.{slice_get, is_none, is_some}
use Rattle.std.specs.Option.{unwrap_or}
use Rattle.std.specs.List.{fold}
use Rattle.std.proofs.lemmas.Bool.{cases_Bool, cond-true, cond-false, false≢true}
use Rattle.std.proofs.lemmas.List.Elements.{All-head, All-tail, All-drop}
use Rattle.std.proofs.lemmas.List.{drop_more, take_rest, drop-set-lt, length-drop}
use Rattle.std.proofs.lemmas.Bool.Decides.{nat_tests}
use Rattle.text_core.specs.declared.position.PositionEncoding.{PositionEncoding}
use Rattle.text_core.specs.declared.position.Range.{Range}
use Rattle.text_core.specs.declared.change.ContentChange.{ContentChange}
use Rattle.text_core.specs.Changes.{fits, edited, changed, changed_at, admitted, document, IsOther}
use Rattle.text_core.specs.Rebuilds.{Progress, begun, is_past, refreshed, after_edit, with_edit, progress_at, progressed, rebuilds}
use Rattle.text_core.specs.Skips.{is_skipped_at, is_skipped, all_ranged, some_skipped, skips}
use Rattle.text_core.specs.Whole.{is_whole, HaveRanges, StandsLast, Begins, taken}

-- the same with more rebuilds before
abbrev pub raised : ℕ → Progress → Progress
raised n p = record p { rebuilds = n + p.rebuilds }

abbrev made : List ℕ → Option ℕ → Bool → ℕ → Progress
made text least skipped rebuilds = record { text = text; least = least; skipped = skipped; rebuilds = rebuilds }

and_first : (a b : Bool) → (a && b) ≡ true → a ≡ true
and_first true b h = refl
and_first false b h = h

and_second : (a b : Bool) → (a && b) ≡ true → b ≡ true
and_second true b h = h
and_second false b h = absurd (false≢true h)

and_other : (a b : Bool) → (a && b) ≡ false → b ≡ true → a ≡ false
and_other true b h t = sym t ∙ h ∙ refl
and_other false b h t = refl

refreshed_raised : (n : ℕ) (range : Range) (p : Progress) → refreshed range (raised n p) ≡ raised n (refreshed range p)
refreshed_raised n range p = ⊎_elim
    (λ t.
    let sum : n + p.rebuilds + 1 ≡ n + (p.rebuilds + 1) = omega arith in
    cond-true _ _ _ t ∙ ap (made p.text None p.skipped) sum ∙ sym (ap (raised n) (cond-true _ _ _ t)))
    (λ f. cond-false _ _ _ f ∙ sym (ap (raised n) (cond-false _ _ _ f)))
    (cases_Bool (is_past range p.least))

after_edit_raised : (n line : ℕ) (p : Progress) (next : Option (List ℕ)) → after_edit line (raised n p) next ≡ raised n (after_edit line p next)
after_edit_raised n line p None = refl
after_edit_raised n line p (Some text) = refl

with_edit_raised : (e : PositionEncoding) (limit n : ℕ) (range : Range) (new : List ℕ) (p : Progress) → with_edit e limit range new (raised n p) ≡ raised n (with_edit e limit range new p)
with_edit_raised e limit n range new p =
    ap (λ q. after_edit range.start.line q (edited e limit p.text range new)) (refreshed_raised n range p)
    ∙ after_edit_raised n range.start.line (refreshed range p) (edited e limit p.text range new)

progress_at_raised : (e : PositionEncoding) (limit n : ℕ) (p : Progress) (range : Option Range) (new : List ℕ) → is_none range ≡ false
    → progress_at e limit (raised n p) range new ≡ raised n (progress_at e limit p range new)
progress_at_raised e limit n p None new h = absurd (false≢true (sym h))
progress_at_raised e limit n p (Some range) new h = with_edit_raised e limit n range new p

taken_raised : (e : PositionEncoding) (limit n : ℕ) (p : Progress) (c : ContentChange) → is_whole limit c ≡ false → taken e limit (raised n p) c ≡ raised n (taken e limit p c)
taken_raised e limit n p c h = ⊎_elim
    (λ t.
    cond-true _ _ _ t ∙ progress_at_raised e limit n p c.range c.text (and_other (is_none c.range) (fits limit c.text) h t)
    ∙ sym (ap (raised n) (cond-true _ _ _ t)))
    (λ f. cond-false _ _ _ f ∙ sym (ap (raised n) (cond-false _ _ _ f)))
    (cases_Bool (fits limit c.text))

pub fold_raised : (e : PositionEncoding) (limit n : ℕ) (p : Progress) (xs : List ContentChange) → HaveRanges limit xs
    → fold (taken e limit) (raised n p) xs ≡ raised n (fold (taken e limit) p xs)
fold_raised e limit n p [] h = refl
fold_raised e limit n p (c ∷ xs) h =
    ap (λ q. fold (taken e limit) q xs) (taken_raised e limit n p c (All-head (λ c. is_whole limit c ≡ false) c xs h))
    ∙ fold_raised e limit n (taken e limit p c) xs (All-tail (λ c. is_whole limit c ≡ false) c xs h)

-- rebuilds only rise
abbrev Rises : ℕ → Progress → Type 0
Rises n p = (n ≤ p.rebuilds) × (p.rebuilds ≤ n + 1)

refreshed_rises : (range : Range) (p : Progress) → Rises p.rebuilds (refreshed range p)
refreshed_rises range p = ⊎_elim
    (λ t. subst (Rises p.rebuilds) (sym (cond-true _ _ _ t)) (omega arith, omega arith))
    (λ f. subst (Rises p.rebuilds) (sym (cond-false _ _ _ f)) (omega arith, omega arith))
    (cases_Bool (is_past range p.least))

after_edit_rebuilds : (line : ℕ) (p : Progress) (next : Option (List ℕ)) → (after_edit line p next).rebuilds ≡ p.rebuilds
after_edit_rebuilds line p None = refl
after_edit_rebuilds line p (Some text) = refl

progress_at_rises : (e : PositionEncoding) (limit : ℕ) (p : Progress) (range : Option Range) (new : List ℕ) → is_none range ≡ false → Rises p.rebuilds (progress_at e limit p range new)
progress_at_rises e limit p None new h = absurd (false≢true (sym h))
progress_at_rises e limit p (Some range) new h =
    let fresh = refreshed_rises range p in
    let same = after_edit_rebuilds range.start.line (refreshed range p) (edited e limit p.text range new) in
    (omega (arith, fresh.0, same), omega (arith, fresh.1, same))

taken_rises : (e : PositionEncoding) (limit : ℕ) (p : Progress) (c : ContentChange) → is_whole limit c ≡ false
    → (p.rebuilds ≤ (taken e limit p c).rebuilds) × ((taken e limit p c).rebuilds ≤ p.rebuilds + 1)
taken_rises e limit p c h = ⊎_elim
    (λ t.
    subst (Rises p.rebuilds) (sym (cond-true _ _ _ t)) (progress_at_rises e limit p c.range c.text (and_other (is_none c.range) (fits limit c.text) h t)))
    (λ f. subst (Rises p.rebuilds) (sym (cond-false _ _ _ f)) (omega arith, omega arith))
    (cases_Bool (fits limit c.text))

pub fold_rises : (e : PositionEncoding) (limit : ℕ) (p : Progress) (xs : List ContentChange) → HaveRanges limit xs
    → (p.rebuilds ≤ (fold (taken e limit) p xs).rebuilds) × ((fold (taken e limit) p xs).rebuilds ≤ p.rebuilds + length xs)
fold_rises e limit p [] h = (omega arith, omega arith)
fold_rises e limit p (c ∷ xs) h =
    let first = taken_rises e limit p c (All-head (λ c. is_whole limit c ≡ false) c xs h) in
    let rest = fold_rises e limit (taken e limit p c) xs (All-tail (λ c. is_whole limit c ≡ false) c xs h) in
    (omega (arith, first.0, rest.0), omega (arith, first.1, rest.1))

-- dropped changes
pub fold_admitted : (e : PositionEncoding) (limit : ℕ) (p : Progress) (xs : List ContentChange)
    → fold (progressed e limit) p (admitted limit xs) ≡ fold (taken e limit) p xs
fold_admitted e limit p [] = refl
fold_admitted e limit p (c ∷ xs) = ⊎_elim
    (λ t. ap (fold (progressed e limit) p) (cond-true _ _ _ t) ∙ fold_admitted e limit (progressed e limit p c) xs ∙ ap (λ q. fold (taken e limit) q xs) (sym (cond-true _ _ _ t)))
    (λ f. ap (fold (progressed e limit) p) (cond-false _ _ _ f) ∙ fold_admitted e limit p xs ∙ ap (λ q. fold (taken e limit) q xs) (sym (cond-false _ _ _ f)))
    (cases_Bool (fits limit c.text))

-- the text of the progress is the text after the changes
refreshed_text : (range : Range) (p : Progress) → (refreshed range p).text ≡ p.text
refreshed_text range p = ⊎_elim
    (λ t. ap (λ (q : Progress). q.text) (cond-true _ _ _ t))
    (λ f. ap (λ (q : Progress). q.text) (cond-false _ _ _ f))
    (cases_Bool (is_past range p.least))

after_edit_text : (line : ℕ) (p : Progress) (next : Option (List ℕ)) → (after_edit line p next).text ≡ unwrap_or next p.text
after_edit_text line p None = refl
after_edit_text line p (Some text) = refl

progress_at_text : (e : PositionEncoding) (limit : ℕ) (p : Progress) (range : Option Range) (new : List ℕ) → (progress_at e limit p range new).text ≡ changed_at e limit p.text range new
progress_at_text e limit p None new = refl
progress_at_text e limit p (Some range) new =
    after_edit_text range.start.line (refreshed range p) (edited e limit p.text range new)
    ∙ ap (unwrap_or (edited e limit p.text range new)) (refreshed_text range p)

fold_text : (e : PositionEncoding) (limit : ℕ) (p : Progress) (xs : List ContentChange) → (fold (progressed e limit) p xs).text ≡ fold (changed e limit) p.text xs
fold_text e limit p [] = refl
fold_text e limit p (c ∷ xs) =
    fold_text e limit (progressed e limit p c) xs ∙ ap (λ t. fold (changed e limit) t xs) (progress_at_text e limit p c.range c.text)

-- what is noted of skipped edits
refreshed_skipped : (range : Range) (p : Progress) → (refreshed range p).skipped ≡ p.skipped
refreshed_skipped range p = ⊎_elim
    (λ t. ap (λ (q : Progress). q.skipped) (cond-true _ _ _ t))
    (λ f. ap (λ (q : Progress). q.skipped) (cond-false _ _ _ f))
    (cases_Bool (is_past range p.least))

after_edit_skipped : (line : ℕ) (p : Progress) (next : Option (List ℕ)) → (after_edit line p next).skipped ≡ (is_none next || p.skipped)
after_edit_skipped line p None = refl
after_edit_skipped line p (Some text) = refl

progress_at_skipped : (e : PositionEncoding) (limit : ℕ) (p : Progress) (range : Option Range) (new : List ℕ)
    → (progress_at e limit p range new).skipped ≡ (is_skipped_at e limit p.text range new || is_some range && p.skipped)
progress_at_skipped e limit p None new = refl
progress_at_skipped e limit p (Some range) new =
    after_edit_skipped range.start.line (refreshed range p) (edited e limit p.text range new)
    ∙ ap (λ b. is_none (edited e limit p.text range new) || b) (refreshed_skipped range p)

or_false : (b : Bool) → b ≡ (b || false)
or_false true = refl
or_false false = refl

none_noted : (b c : Bool) → (b && false || c) ≡ c
none_noted true c = refl
none_noted false c = refl

noted_first : (later skipped ranged noted others : Bool)
    → (later && (skipped || ranged && noted) || others) ≡ (ranged && later && noted || (skipped && later || others))
noted_first later skipped ranged noted others = grind arith

fold_skipped : (e : PositionEncoding) (limit : ℕ) (p : Progress) (xs : List ContentChange)
    → (fold (progressed e limit) p xs).skipped ≡ (all_ranged xs && p.skipped || some_skipped e limit p.text xs)
fold_skipped e limit p [] = or_false p.skipped
fold_skipped e limit p (c ∷ xs) =
    fold_skipped e limit (progressed e limit p c) xs
    ∙ ap (λ b. all_ranged xs && b || some_skipped e limit (progressed e limit p c).text xs) (progress_at_skipped e limit p c.range c.text)
    ∙ ap (λ t. all_ranged xs && (is_skipped e limit p.text c || is_some c.range && p.skipped) || some_skipped e limit t xs) (progress_at_text e limit p c.range c.text)
    ∙ noted_first (all_ranged xs) (is_skipped e limit p.text c) (is_some c.range) p.skipped (some_skipped e limit (changed e limit p.text c) xs)

pub skips_are : (e : PositionEncoding) (limit : ℕ) (contents : List ℕ) (xs : List ContentChange) → skips e limit contents xs ≡ (fold (taken e limit) (begun contents) xs).skipped
unfolding skips
skips_are e limit contents xs =
    sym (ap (λ (p : Progress). p.skipped) (sym (fold_admitted e limit (begun contents) xs)) ∙ fold_skipped e limit (begun contents) (admitted limit xs)
    ∙ none_noted (all_ranged (admitted limit xs)) (some_skipped e limit contents (admitted limit xs)))

pub document_is : (e : PositionEncoding) (limit : ℕ) (contents : List ℕ) (xs : List ContentChange) → document e limit contents xs ≡ (fold (taken e limit) (begun contents) xs).text
unfolding document
document_is e limit contents xs = sym (ap (λ (p : Progress). p.text) (sym (fold_admitted e limit (begun contents) xs)) ∙ fold_text e limit (begun contents) (admitted limit xs))

pub rebuilds_are : (e : PositionEncoding) (limit : ℕ) (contents : List ℕ) (xs : List ContentChange) → rebuilds e limit contents xs ≡ (fold (taken e limit) (begun contents) xs).rebuilds
unfolding rebuilds
rebuilds_are e limit contents xs = ap (λ (p : Progress). p.rebuilds) (fold_admitted e limit (begun contents) xs)

-- changes before the last whole text don't matter
progress_at_whole : (e : PositionEncoding) (limit : ℕ) (p : Progress) (range : Option Range) (new : List ℕ) → is_none range ≡ true → progress_at e limit p range new ≡ begun new
progress_at_whole e limit p None new h = refl
progress_at_whole e limit p (Some range) new h = absurd (false≢true h)

taken_whole : (e : PositionEncoding) (limit : ℕ) (p : Progress) (c : ContentChange) → is_whole limit c ≡ true → taken e limit p c ≡ begun c.text
taken_whole e limit p c h =
    cond-true _ _ _ (and_second (is_none c.range) (fits limit c.text) h)
    ∙ progress_at_whole e limit p c.range c.text (and_first (is_none c.range) (fits limit c.text) h)

pub fold_whole : (e : PositionEncoding) (limit : ℕ) (p : Progress) (xs : List ContentChange) (i : ℕ) (c : ContentChange) → slice_get xs i ≡ Some c → is_whole limit c ≡ true
    → fold (taken e limit) p xs ≡ fold (taken e limit) (begun c.text) (drop (i + 1) xs)
fold_whole e limit p [] i c here whole = cc
fold_whole e limit p (x ∷ xs) zero c here whole =
    let same : x ≡ c = cc in
    ap (λ d. fold (taken e limit) (taken e limit p d) xs) same ∙ ap (λ q. fold (taken e limit) q xs) (taken_whole e limit p c whole)
fold_whole e limit p (x ∷ xs) (suc i) c here whole =
    let next : suc (i + 1) ≡ suc i + 1 = omega arith in
    fold_whole e limit (taken e limit p x) xs i c here whole ∙ ap (λ n. fold (taken e limit) (begun c.text) (drop n (x ∷ xs))) next

-- the rebuilds of a change are among those of the list from it on
pub fold_more : (e : PositionEncoding) (limit : ℕ) (p : Progress) (xs : List ContentChange) (i : ℕ) (c : ContentChange) → i < length xs → get_or xs i c ≡ c → HaveRanges limit xs
    → (taken e limit p c).rebuilds ≤ (fold (taken e limit) p (drop i xs)).rebuilds
fold_more e limit p xs i c lt here h =
    let later = (fold_rises e limit (taken e limit p c) (drop (i + 1) xs) (All-drop (λ c. is_whole limit c ≡ false) (i + 1) xs h)).0 in
    let split : drop i xs ≡ c ∷ drop (i + 1) xs = drop_more xs i c lt ∙ ap (λ d. d ∷ drop (i + 1) xs) here in
    subst (λ l. (taken e limit p c).rebuilds ≤ (fold (taken e limit) p l).rebuilds) (sym split) later

-- one change of a list
pub fold_step : (e : PositionEncoding) (limit : ℕ) (p next : Progress) (xs : List ContentChange) (i : ℕ) (c : ContentChange) → i < length xs → get_or xs i c ≡ c → next ≡ taken e limit p c
    → fold (taken e limit) next (drop (i + 1) xs) ≡ fold (taken e limit) p (drop i xs)
fold_step e limit p next xs i c lt here same =
    let split : drop i xs ≡ c ∷ drop (i + 1) xs = drop_more xs i c lt ∙ ap (λ d. d ∷ drop (i + 1) xs) here in
    ap (λ q. fold (taken e limit) q (drop (i + 1) xs)) same ∙ sym (ap (fold (taken e limit) p) split)

whole_fits : (limit : ℕ) (c : ContentChange) → is_whole limit c ≡ true → length c.text ≤ limit
whole_fits limit c h =
    let fit : fits limit c.text ≡ true = and_second (is_none c.range) (fits limit c.text) h in
    grind (arith, nat_tests, fit)

-- the last whole text, and the changes after it
pub begins_whole : (limit : ℕ) (contents : List ℕ) (xs : List ContentChange) (i : ℕ) (last : StandsLast limit xs i) (y : ContentChange) (text : List ℕ) → text ≡ last.change.text
    → Begins limit contents xs text (drop (i + 1) (set xs i y))
begins_whole limit contents xs i last y text same =
    let rest : drop (i + 1) (set xs i y) ≡ drop (i + 1) xs = drop-set-lt (i + 1) xs i y (omega arith) in
    subst (Begins limit contents xs text) (sym rest) (record {
      same = λ e. fold_whole e limit (begun contents) xs i last.change last.here last.whole ∙ ap (λ t. fold (taken e limit) (begun t) (drop (i + 1) xs)) (sym same);
      fits = omega (arith, whole_fits limit last.change last.whole, ap length same);
      ranged = last.later;
      shorter = omega (arith, length-drop (i + 1) xs);
    })

-- what a text and the changes left come to
pub begins_document : (e : PositionEncoding) (limit : ℕ) (contents : List ℕ) (xs : List ContentChange) (text : List ℕ) (rest : List ContentChange) → Begins limit contents xs text rest
    → document e limit contents xs ≡ (fold (taken e limit) (begun text) rest).text
begins_document e limit contents xs text rest begins = document_is e limit contents xs ∙ ap (λ (p : Progress). p.text) (begins.same e)

pub begins_skips : (e : PositionEncoding) (limit : ℕ) (contents : List ℕ) (xs : List ContentChange) (text : List ℕ) (rest : List ContentChange) → Begins limit contents xs text rest
    → skips e limit contents xs ≡ (fold (taken e limit) (begun text) rest).skipped
begins_skips e limit contents xs text rest begins = skips_are e limit contents xs ∙ ap (λ (p : Progress). p.skipped) (begins.same e)

pub begins_rebuilds : (e : PositionEncoding) (limit : ℕ) (contents : List ℕ) (xs : List ContentChange) (text : List ℕ) (rest : List ContentChange) → Begins limit contents xs text rest
    → rebuilds e limit contents xs ≡ (fold (taken e limit) (begun text) rest).rebuilds
begins_rebuilds e limit contents xs text rest begins = rebuilds_are e limit contents xs ∙ ap (λ (p : Progress). p.rebuilds) (begins.same e)

pub begins_most : (e : PositionEncoding) (limit : ℕ) (contents : List ℕ) (xs : List ContentChange) (text : List ℕ) (rest : List ContentChange) → Begins limit contents xs text rest
    → (fold (taken e limit) (begun text) rest).rebuilds ≤ length xs
begins_most e limit contents xs text rest begins =
    let most = (fold_rises e limit (begun text) rest begins.ranged).1 in
    omega (arith, begins.shorter)

pub begins_same : (limit : ℕ) (contents : List ℕ) (xs ys : List ContentChange) (text : List ℕ) (n : ℕ) (vs ws : List ContentChange) → xs ≡ ys → vs ≡ ws
    → Begins limit contents xs text (drop n vs) → Begins limit contents ys text (take (length ws - n) (drop n ws))
begins_same limit contents xs ys text n vs ws same left begins =
    subst (Begins limit contents ys text) (sym (take_rest ws n))
    (subst (λ l. Begins limit contents l text (drop n ws)) same (subst (λ l. Begins limit contents xs text (drop n l)) left begins))

-- the same of equal lists of changes
pub document_of : (e : PositionEncoding) (limit : ℕ) (contents : List ℕ) (xs ys : List ContentChange) → ys ≡ xs → (fold (taken e limit) (begun contents) ys).text ≡ document e limit contents xs
document_of e limit contents xs ys same = ap (λ l. (fold (taken e limit) (begun contents) l).text) same ∙ sym (document_is e limit contents xs)

pub skips_of : (e : PositionEncoding) (limit : ℕ) (contents : List ℕ) (xs ys : List ContentChange) → ys ≡ xs → (fold (taken e limit) (begun contents) ys).skipped ≡ skips e limit contents xs
skips_of e limit contents xs ys same = ap (λ l. (fold (taken e limit) (begun contents) l).skipped) same ∙ sym (skips_are e limit contents xs)

pub rebuilds_of : (e : PositionEncoding) (limit : ℕ) (contents : List ℕ) (xs ys : List ContentChange) → ys ≡ xs → (fold (taken e limit) (begun contents) ys).rebuilds ≡ rebuilds e limit contents xs
rebuilds_of e limit contents xs ys same = ap (λ l. (fold (taken e limit) (begun contents) l).rebuilds) same ∙ sym (rebuilds_are e limit contents xs)

-- the text that is another one, or else the old one
pub other_or : (old new : List ℕ) (changed : Option (List ℕ)) → IsOther old new changed → unwrap_or changed old ≡ new
other_or old new None same = sym same
other_or old new (Some text) other = other.0
