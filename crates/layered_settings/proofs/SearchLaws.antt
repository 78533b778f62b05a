-- A walk along parents that goes on through roots that it has seen finds what the chain without them has.
use Rattle.std.proofs.Common.{◌≡◌, ◌+◌, ◌==◌, ℕ, zero, suc, List, [], ◌∷◌, ◌++◌, Bool, true, false, cond, Option, Some, None, refl, sym, ap, ◌∙◌, ◌⊎◌, inl, inr, arith, true≢false, ◌<◌}
use Rattle.std.specs.Prelude.{◌||◌}
use Rattle.std.specs.FinMap as map
use Rattle.ra_settings.specs.declared.row.Row.{Row}
use Rattle.ra_settings.specs.declared.value.SettingValue.{SettingValue}
use Rattle.ra_settings.specs.Layers.{Values, value_at}
use Rattle.layered_settings.specs.Search.{SettingsData, parent_of, is_in, chain, layers_at, layers_of, or_else, first_in, roots_from, path}
use Rattle.std.proofs.lemmas.Bool.Decides.{nat_tests}

or_else-none : {A : Type 0} (x : Option A) → or_else x None ≡ x
or_else-none None = refl
or_else-none (Some x) = refl

-- what a root's files have
abbrev pub at_root : Row → SettingsData → ℕ → Option SettingValue
at_root row s root = first_in row (layers_at s root)

-- the first value at a root, its parent and so on, in at most n steps
abbrev pub walk : ℕ → Row → SettingsData → Option ℕ → Option SettingValue
walk zero row s root = None
walk (suc n) row s None = None
walk (suc n) row s (Some root) = or_else (at_root row s root) (walk n row s (parent_of s.parents root))

or_else-assoc : {A : Type 0} (x y z : Option A) → or_else (or_else x y) z ≡ or_else x (or_else y z)
or_else-assoc None y z = refl
or_else-assoc (Some x) y z = refl

pub first_in-append : (row : Row) (xs ys : List Values) → first_in row (xs ++ ys) ≡ or_else (first_in row xs) (first_in row ys)
first_in-append row [] ys = refl
first_in-append row (x ∷ xs) ys = ap (or_else (value_at row x)) (first_in-append row xs ys) ∙ sym (or_else-assoc (value_at row x) (first_in row xs) (first_in row ys))

-- each root that was seen has nothing, and its parent was seen or is the next
abbrev Done : Row → SettingsData → List ℕ → ℕ → Type 0
Done row s seen next = (x : ℕ) → is_in x seen ≡ true → (at_root row s x ≡ None) × ((y : ℕ) × (parent_of s.parents x ≡ Some y) × ((y ≡ next) ⊎ (is_in y seen ≡ true)))

-- from a root that was seen, nothing is found
nothing : (n : ℕ) (row : Row) (s : SettingsData) (seen : List ℕ) (next root : ℕ) → Done row s seen next → is_in next seen ≡ true → is_in root seen ≡ true → walk n row s (Some root) ≡ None
nothing zero row s seen next root done again here = refl
nothing (suc n) row s seen next root done again here =
    let at = done root here in
    let y = at.1.0 in
    let seen_y : is_in y seen ≡ true = elim at.1.2 [ inl e ↦ ap (λ z. is_in z seen) e ∙ again | inr h ↦ h ] in
    rw (at.0, at.1.1) (nothing n row s seen next y done again seen_y)

or-cases : (a b : Bool) → (a || b) ≡ true → (a ≡ true) ⊎ (b ≡ true)
or-cases true b h = inl refl
or-cases false b h = inr h

or-right : (a b : Bool) → b ≡ true → (a || b) ≡ true
or-right true b h = refl
or-right false b h = h

or-left : (a b : Bool) → a ≡ true → (a || b) ≡ true
or-left true b h = refl
or-left false b h = absurd (true≢false (sym h))

same_number : (x y : ℕ) → (x == y) ≡ true → x ≡ y
same_number x y h = grind (arith, nat_tests)

true_same : (x y : ℕ) → x ≡ y → (x == y) ≡ true
true_same x y h = grind (arith, nat_tests)

more_done : (row : Row) (s : SettingsData) (seen : List ℕ) (root next : ℕ) → Done row s seen root → at_root row s root ≡ None → parent_of s.parents root ≡ Some next → Done row s (root ∷ seen) next
more_done row s seen root next done none is x h = elim (or-cases (x == root) (is_in x seen) h) [
  | inl e ↦ (ap (at_root row s) (same_number x root e) ∙ none, (next, ap (parent_of s.parents) (same_number x root e) ∙ is, inl refl))
  | inr old ↦ let at = done x old in
      (at.0, (at.1.0, at.1.1, inr (elim at.1.2 [ inl e ↦ or-left _ (is_in at.1.0 seen) (true_same at.1.0 root e) | inr h ↦ or-right (at.1.0 == root) _ h ])))
]

from_none : (n : ℕ) (row : Row) (s : SettingsData) (seen : List ℕ) → walk n row s None ≡ first_in row (layers_of s (chain n s.parents seen None))
unfolding chain
from_none zero row s seen = refl
from_none (suc n) row s seen = refl

abbrev Goes : ℕ → Row → SettingsData → List ℕ → Option ℕ → Type 0
Goes n row s seen root = walk n row s root ≡ first_in row (layers_of s (chain n s.parents seen root))

by_value : (n : ℕ) (row : Row) (s : SettingsData) (seen : List ℕ) (root : ℕ) → Done row s seen root → ((next : ℕ) → Done row s (root ∷ seen) next → Goes n row s (root ∷ seen) (Some next))
    → (v : Option SettingValue) → at_root row s root ≡ v → (p : Option ℕ) → parent_of s.parents root ≡ p
    → or_else v (walk n row s p) ≡ or_else v (first_in row (layers_of s (chain n s.parents (root ∷ seen) p)))
by_value n row s seen root done later (Some v) here p is = refl
by_value n row s seen root done later None here None is = from_none n row s (root ∷ seen)
by_value n row s seen root done later None here (Some next) is = later next (more_done row s seen root next done here is)

by_seen : (n : ℕ) (row : Row) (s : SettingsData) (seen : List ℕ) (root : ℕ) → Done row s seen root → ((next : ℕ) → Done row s (root ∷ seen) next → Goes n row s (root ∷ seen) (Some next))
    → (b : Bool) → is_in root seen ≡ b
    → walk (suc n) row s (Some root) ≡ first_in row (layers_of s (cond b [] (root ∷ chain n s.parents (root ∷ seen) (parent_of s.parents root))))
by_seen n row s seen root done later true is = nothing (suc n) row s seen root root done is is
by_seen n row s seen root done later false is =
    by_value n row s seen root done later (at_root row s root) refl (parent_of s.parents root) refl ∙ sym (first_in-append row (layers_at s root) _)

-- the walk's steps and the chain's go on together while nothing is found and no root comes twice
pub walk-chain : (n : ℕ) (row : Row) (s : SettingsData) (seen : List ℕ) (root : ℕ) → Done row s seen root → Goes n row s seen (Some root)
unfolding chain
walk-chain zero row s seen root done = refl
walk-chain (suc n) row s seen root done = by_seen n row s seen root done (walk-chain n row s (root ∷ seen)) (is_in root seen) refl

pub walk_path : (row : Row) (s : SettingsData) (root : Option ℕ) → walk (map.len s.parents + 1) row s root ≡ first_in row (layers_of s (roots_from root s))
walk_path row s None = from_none (map.len s.parents + 1) row s []
walk_path row s (Some root) = walk-chain (map.len s.parents + 1) row s [] root (λ x h. absurd (true≢false (sym h)))

-- a step
pub walk_none : (n : ℕ) (row : Row) (s : SettingsData) → walk n row s None ≡ None
walk_none zero row s = refl
walk_none (suc n) row s = refl

pub walk_found : (n : ℕ) (row : Row) (s : SettingsData) (root : ℕ) (v : SettingValue) → 0 < n → at_root row s root ≡ Some v → walk n row s (Some root) ≡ Some v
walk_found zero row s root v h is = absurd (omega arith)
walk_found (suc n) row s root v h is = rw is

pub walk_on : (n m : ℕ) (row : Row) (s : SettingsData) (root : ℕ) → n ≡ m + 1 → at_root row s root ≡ None → walk n row s (Some root) ≡ walk m row s (parent_of s.parents root)
walk_on zero m row s root h is = absurd (omega arith)
walk_on (suc n) m row s root h is = rw is (ap (λ k. walk k row s (parent_of s.parents root)) (omega arith))

-- what is found on the whole path
pub path_found : (row : Row) (root : Option ℕ) (s : SettingsData) → first_in row (path root s) ≡ or_else (first_in row (layers_of s (roots_from root s))) (or_else (value_at row s.client) (value_at row s.user))
path_found row root s = first_in-append row (layers_of s (roots_from root s)) (s.client ∷ s.user ∷ []) ∙ ap (λ o. or_else (first_in row (layers_of s (roots_from root s))) (or_else (value_at row s.client) o)) (or_else-none (value_at row s.user))

pub ruleset searching = (walk_path, walk_none, walk_found, walk_on)
