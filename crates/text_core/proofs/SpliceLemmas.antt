-- Edits that are put off, and the text that they leave.
use Rattle.std.proofs.Common.{◌≡◌, ℕ, ◌+◌, ◌-◌, ◌≤◌, List, [], ◌∷◌, ◌++◌, length, take, drop, refl, ap, sym, subst, ◌∙◌, arith, append_assoc}
use Rattle.std.specs.Prelude.{slice_range}
use Rattle.std.specs.List.{replace_range}
use Rattle.std.proofs.lemmas.List.{drop-append-le, drop-take, length-take, length-append, take-take}
use Rattle.text_core.specs.Splices.{IsPart, Fall, lowest, spliced}
use Rattle.text_core.specs.declared.splices.Splice.{Splice}
use Rattle.text_core.proofs.EndLemmas.{front_same, length_edit}

pub spliced-push : (text : List ℕ) (splices : List Splice) (s : Splice) → spliced text (splices ++ s ∷ []) ≡ replace_range (spliced text splices) s.start s.end s.text.now
spliced-push text [] s = refl
spliced-push text (x ∷ splices) s = spliced-push (replace_range text x.start x.end x.text.now) splices s

pub lowest-push : (most : ℕ) (splices : List Splice) (s : Splice) → lowest most (splices ++ s ∷ []) ≡ s.start
lowest-push most [] s = refl
lowest-push most (x ∷ splices) s = lowest-push x.start splices s

lowest_low : (text : List ℕ) (most : ℕ) (splices : List Splice) → Fall text most splices → lowest most splices ≤ most
lowest_low text most [] falls = omega arith
lowest_low text most (x ∷ splices) falls =
    let later = lowest_low text x.start splices falls.1 in
    omega (arith, later, falls.0.rising, falls.0.below)

-- one splice more in front of the others, and one less
pub fall-push : (text : List ℕ) (most : ℕ) (splices : List Splice) (s : Splice) → Fall text most splices → IsPart text (lowest most splices) s.start s.end
    → Fall text most (splices ++ s ∷ [])
fall-push text most [] s falls part = (part, tt)
fall-push text most (x ∷ splices) s falls part = (falls.0, fall-push text x.start splices s falls.1 part)

fall-pop : (text : List ℕ) (most : ℕ) (splices : List Splice) (s : Splice) → Fall text most (splices ++ s ∷ [])
    → Fall text most splices × IsPart text (lowest most splices) s.start s.end
fall-pop text most [] s falls = (tt, falls.0)
fall-pop text most (x ∷ splices) s falls =
    let later = fall-pop text x.start splices s falls.1 in
    ((falls.0, later.0), later.1)

-- below the last splice the text is as it was
below_last : (all text : List ℕ) (most : ℕ) (splices : List Splice) → most ≤ length text → Fall all most splices
    → (take (lowest most splices) (spliced text splices) ≡ take (lowest most splices) text) × (lowest most splices ≤ length (spliced text splices))
below_last all text most [] within falls = (refl, within)
below_last all text most (x ∷ splices) within falls =
    let part = falls.0 in
    let next = replace_range text x.start x.end x.text.now in
    let size = length_edit text x.text.now x.start x.end part.rising (omega (arith, part.below)) in
    let later = below_last all next x.start splices (omega (arith, size)) falls.1 in
    let low = lowest_low all x.start splices falls.1 in
    (later.0 ∙ front_same text x.text.now x.start x.end (lowest x.start splices) low (omega (arith, part.rising, part.below)), later.1)

-- a text whose front up to a place is that of another
pub record HasFront (text made : List ℕ) (place : ℕ) : Type 0 where
  pub same : take place made ≡ take place text
  pub within : place ≤ length made
  pub within_text : place ≤ length text

pub has_front : (text : List ℕ) (splices : List Splice) → Fall text (length text) splices → HasFront text (spliced text splices) (lowest (length text) splices)
has_front text splices falls =
    let below = below_last text text (length text) splices (omega arith) falls in
    record { same = below.0; within = below.1; within_text = lowest_low text (length text) splices falls }

-- a part of the front is the same
pub front_part : (text made : List ℕ) (place start stop : ℕ) → HasFront text made place → stop ≤ place → start ≤ stop → slice_range made start stop ≡ slice_range text start stop
front_part text made place start stop front low rising =
    let whole : start + (stop - start) ≡ stop = omega arith in
    let cut : take stop made ≡ take stop text = sym (take-take stop place made low) ∙ ap (take stop) front.same ∙ take-take stop place text low in
    sym (drop-take start (stop - start) made) ∙ ap (λ n. drop start (take n made)) whole ∙ ap (drop start) cut
    ∙ ap (λ n. drop start (take n text)) (sym whole) ∙ drop-take start (stop - start) text

-- what stands from a place in front of a splice on
drop-edit : (text new : List ℕ) (start stop place : ℕ) → place ≤ start → start ≤ length text
    → drop place (replace_range text start stop new) ≡ (slice_range text place start ++ new) ++ drop stop text
drop-edit text new start stop place low within =
    let size : length (take start text) ≡ start = omega (arith, length-take start text) in
    let whole : place + (start - place) ≡ start = omega arith in
    drop-append-le place (take start text ++ new) (drop stop text) (omega (arith, size, length-append (take start text) new))
    ∙ ap (λ l. l ++ drop stop text) (drop-append-le place (take start text) new (omega (arith, size))
    ∙ ap (λ l. l ++ new) (ap (λ n. drop place (take n text)) (sym whole) ∙ drop-take place (start - place) text))

-- a text in pieces: the pieces so far, and what the splices that are left make of the rest
pub record IsOnTheWay (text joined all : List ℕ) (place : ℕ) (splices : List Splice) : Type 0 where
  pub so_far : joined ++ drop place (spliced text splices) ≡ all
  pub falls : Fall text (length text) splices
  pub low : place ≤ lowest (length text) splices

pub way_begins : (text : List ℕ) (splices : List Splice) → Fall text (length text) splices → IsOnTheWay text [] (spliced text splices) 0 splices
way_begins text splices falls = record { so_far = refl; falls = falls; low = omega arith }

pub way_part : (text joined all : List ℕ) (place : ℕ) (before splices : List Splice) (s : Splice) → IsOnTheWay text joined all place before → before ≡ splices ++ s ∷ []
    → IsPart text (lowest (length text) splices) s.start s.end × (place ≤ s.start)
way_part text joined all place before splices s was last =
    let way : IsOnTheWay text joined all place (splices ++ s ∷ []) = subst (IsOnTheWay text joined all place) last was in
    let parts = fall-pop text (length text) splices s way.falls in
    (parts.1, omega (arith, way.low, lowest-push (length text) splices s))

pub way_goes_on : (text joined more all : List ℕ) (place : ℕ) (before splices : List Splice) (s : Splice) → IsOnTheWay text joined all place before → before ≡ splices ++ s ∷ []
    → more ≡ (joined ++ slice_range text place s.start) ++ s.text.now → IsOnTheWay text more all s.end splices
way_goes_on text joined more all place before splices s was last pieces =
    let way : IsOnTheWay text joined all place (splices ++ s ∷ []) = subst (IsOnTheWay text joined all place) last was in
    let parts = fall-pop text (length text) splices s way.falls in
    let part = parts.1 in
    let front = has_front text splices parts.0 in
    let low : place ≤ s.start = omega (arith, way.low, lowest-push (length text) splices s) in
    let made = spliced text splices in
    let here : slice_range made place s.start ≡ slice_range text place s.start = front_part text made _ place s.start front (omega (arith, part.rising, part.below)) low in
    let rest : drop place (spliced text (splices ++ s ∷ [])) ≡ (slice_range text place s.start ++ s.text.now) ++ drop s.end made =
    ap (drop place) (spliced-push text splices s)
    ∙ drop-edit made s.text.now s.start s.end place low (omega (arith, part.rising, part.below, front.within))
    ∙ ap (λ l. (l ++ s.text.now) ++ drop s.end made) here in
    record {
      so_far =
          ap (λ l. l ++ drop s.end made) (pieces ∙ append_assoc joined (slice_range text place s.start) s.text.now)
          ∙ append_assoc joined (slice_range text place s.start ++ s.text.now) (drop s.end made)
          ∙ ap (λ l. joined ++ l) (sym rest) ∙ way.so_far;
      falls = parts.0;
      low = part.below;
    }
