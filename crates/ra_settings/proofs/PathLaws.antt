-- A text with an empty segment names no path.
use Rattle.std.proofs.Common.{◌≡◌, ℕ, List, [], ◌∷◌, Bool, true, false, Option, Some, None, refl, sym, ap, ◌∙◌, length, ◌==◌, suc, arith}
use Rattle.std.proofs.lemmas.Bool.Decides.{nat_tests}
use Rattle.std.proofs.lemmas.Bool.{cond-false, false≢true}
use Rattle.std.specs.Prelude.{◌||◌, codes, option_and_then, if◌then◌else◌}
use Rattle.std.specs.List.{list_any, fold}
use Rattle.docs_vfs.specs.Paths.{is_slash, parts}
use Rattle.docs_vfs.specs.Resolve.{step, walk, resolve}
use Rattle.docs_vfs.specs.declared.relative.EmptySegments.TheVariants.{Refused}
use Rattle.ra_settings.specs.PathLaws.{is_empty, EmptySegmentsRefused, NothingRefused}

not_none : (n : ℕ) → (suc n == 0) ≡ false
not_none n = grind (arith, nat_tests)

-- the walk goes on from where it is, if it is anywhere
abbrev on : Option (List ℕ) → List (List ℕ) → Option (List ℕ)
on at segments = fold (λ at segment. option_and_then (λ path. step Refused path segment) at) at segments

from_none : (segments : List (List ℕ)) → on None segments ≡ None
from_none [] = refl
from_none (segment ∷ rest) = from_none rest

no_step : (at : Option (List ℕ)) → option_and_then (λ path. step Refused path []) at ≡ None
no_step None = refl
no_step (Some path) = refl

-- no walk leads through an empty segment
no_walk : (at : Option (List ℕ)) (segments : List (List ℕ)) → list_any is_empty segments ≡ true → on at segments ≡ None
no_walk at [] h = absurd (false≢true h)
no_walk at ([] ∷ rest) h = ap (λ o. on o rest) (no_step at) ∙ from_none rest
no_walk at ((b ∷ part) ∷ rest) h =
    no_walk (option_and_then (λ path. step Refused path (b ∷ part)) at) rest (ap (λ z. z || list_any is_empty rest) (sym (not_none (length part))) ∙ h)

by_slash : (base : List ℕ) (b c : ℕ) (text : List ℕ) (slash : Bool) → list_any is_empty (if slash then parts (c ∷ text) else parts (b ∷ c ∷ text)) ≡ true
    → (if slash then walk Refused (codes "/") (if length (c ∷ text) == 0 then [] else parts (c ∷ text)) else walk Refused base (parts (b ∷ c ∷ text))) ≡ None
by_slash base b c text true h = ap (walk Refused (codes "/")) (cond-false _ _ _ (not_none (length text))) ∙ no_walk (Some (codes "/")) (parts (c ∷ text)) h
by_slash base b c text false h = no_walk (Some base) (parts (b ∷ c ∷ text)) h

pub empty_segments_refused : EmptySegmentsRefused
unfolding resolve
empty_segments_refused base b c text h = by_slash base b c text (is_slash b) h

pub nothing_refused : NothingRefused
unfolding resolve
nothing_refused base = refl
