-- A message that comes behind those that were kept.
use Rattle.std.proofs.Common.{◌≡◌, ◌++◌, List, [], ◌∷◌, refl, ap, ◌∙◌, sym}
use Rattle.activities.specs.Priming.{keep, behind}
use Rattle.activities.specs.declared.priming.PrimeMsg.{PrimeMsg}

pub keep-append : (message last : PrimeMsg) (front : List PrimeMsg) → keep message (front ++ last ∷ []) ≡ front
    ++ behind last message
keep-append message last [] = refl
keep-append message last (first ∷ []) = refl
keep-append message last (first ∷ next ∷ front) = ap (λ rest. first ∷ rest) (keep-append message last (next ∷ front))

pub keep_last : (message last : PrimeMsg) (front kept : List PrimeMsg) → kept ≡ front ++ last ∷ []
    → front ++ behind last message ≡ keep message kept
keep_last message last front kept is = sym (ap (keep message) is ∙ keep-append message last front)
