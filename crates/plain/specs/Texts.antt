-- Keys that stand for texts.
use Rattle.std.specs.Prelude.{◌≡◌, ℕ, List, [], ◌∷◌, map, Option, None, Some, refl}
use Rattle.std.specs.Option.{option_cmp}
use Rattle.std.specs.Ordering.{nat_cmp}
use Rattle.std.specs.Cmp.Lexicographic.{slice_cmp}
use Rattle.std.specs.declared.cmp.Ordering.{Ordering}

-- texts in order: by their bytes
abbrev pub text_cmp : List ℕ → List ℕ → Ordering
text_cmp = slice_cmp nat_cmp

-- the entries by the texts of their keys
abbrev pub by_texts : {K V : Type 0} → (K → List ℕ) → List (K × V) → List (List ℕ × V)
by_texts text es = map (λ e. (text e.0, e.1)) es

-- the text of a key that may be missing: none stands first
abbrev pub optional_text : {K : Type 0} → (K → List ℕ) → Option K → List ℕ
optional_text text None = []
optional_text text (Some k) = 0 ∷ text k

pub optional_in_order : {K : Type 0} {R : K → K → Ordering} (text : K → List ℕ) → ((x y : K) → R x y ≡ text_cmp (text x) (text y))
    → (x y : Option K) → option_cmp R x y ≡ text_cmp (optional_text text x) (optional_text text y)
optional_in_order text in_order None None = refl
optional_in_order text in_order None (Some y) = refl
optional_in_order text in_order (Some x) None = refl
optional_in_order text in_order (Some x) (Some y) = in_order x y
