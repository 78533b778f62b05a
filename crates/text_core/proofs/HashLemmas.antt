-- Bytes that are fed one after the other.
use Rattle.std.proofs.Common.{◌≡◌, ℕ, ◌+◌, ◌<◌, List, [], ◌∷◌, ◌++◌, length, map, take, get_or, ap, subst, ◌∙◌, append_assoc}
use Rattle.std.specs.List.{concat}
use Rattle.std.proofs.lemmas.List.{take_more, map-append, append-nil}
use Rattle.std.proofs.lemmas.List.Folds.{concat-append}
use Rattle.sha1.specs.declared.Sha1.{Sha1}
use Rattle.sha1.specs.Sha1.{Holds}
use Rattle.text_core.specs.Hashed.{text_bytes}

-- the bytes by which a hasher has more
abbrev pub Feeds : Sha1 → Sha1 → List ℕ → Type 0
Feeds old new bytes = (m : List ℕ) → Holds old m → Holds new (m ++ bytes)

pub feeds_then : (a b c : Sha1) (x y : List ℕ) → Feeds a b x → Feeds b c y → Feeds a c (x ++ y)
feeds_then a b c x y first second m h = subst (Holds c) (append_assoc m x y) (second (m ++ x) (first m h))

-- one more text
pub texts_more : (texts : List (List ℕ)) (i : ℕ) (text : List ℕ) → i < length texts → get_or texts i text ≡ text
    → concat (map text_bytes (take (i + 1) texts)) ≡ concat (map text_bytes (take i texts)) ++ text_bytes text
texts_more texts i text here same =
    ap (λ l. concat (map text_bytes l)) (take_more texts i text here ∙ ap (λ t. take i texts ++ t ∷ []) same)
    ∙ ap concat (map-append text_bytes (take i texts) (text ∷ []))
    ∙ concat-append (map text_bytes (take i texts)) (text_bytes text ∷ [])
    ∙ ap (λ l. concat (map text_bytes (take i texts)) ++ l) (append-nil (text_bytes text))
