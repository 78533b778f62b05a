-- A search path ends where its definition says, and not for want of steps.
use Rattle.std.proofs.Common.{◌≡◌, ◌+◌, ◌==◌, ◌≤◌, ℕ, zero, suc, List, [], ◌∷◌, Bool, true, false, cond, Option, Some, None, refl, sym, ap, ◌∙◌, ◌⊎◌, inl, inr, arith, length, true≢false}
use Rattle.std.proofs.lemmas.Bool.{cond-true, cond-false, false≢true}
use Rattle.std.specs.Prelude.{◌||◌, is_some, ◌-◌}
use Rattle.std.specs.Ordering.{nat_cmp}
use Rattle.std.specs.Cmp.{nat_cmp_total, unsigned_tied}
use Rattle.std.specs.FinMap as map
use Rattle.std.proofs.lemmas.Bool.Decides.{nat_tests}
use Rattle.layered_settings.specs.Change.{put_first, put_parents}
use Rattle.layered_settings.specs.Search.{Parents, parent_of, is_in, chain, or_else}
use Rattle.layered_settings.specs.PathLaws.{IsSearchPath, first_parent, PathsEnd, FirstPairHolds}

same_number : (x y : ℕ) → (x == y) ≡ true → x ≡ y
same_number x y h = grind (arith, nat_tests)

itself : (x : ℕ) → (x == x) ≡ true
itself x = grind (arith, nat_tests)

or-cases : (a b : Bool) → (a || b) ≡ true → (a ≡ true) ⊎ (b ≡ true)
or-cases true b h = inl refl
or-cases false b h = inr h

or-left : (a b : Bool) → a ≡ true → (a || b) ≡ true
or-left true b h = refl
or-left false b h = absurd (true≢false (sym h))

or-right : (a b : Bool) → b ≡ true → (a || b) ≡ true
or-right true b h = refl
or-right false b h = h

-- ---- roots that are apart and have parents are at most as many as the parents

abbrev AreApart : List ℕ → Type 0
AreApart [] = Unit {0}
AreApart (x ∷ xs) = (is_in x xs ≡ false) × AreApart xs

abbrev HaveParents : Parents → List ℕ → Type 0
HaveParents m xs = (x : ℕ) → is_in x xs ≡ true → is_some (map.get m x) ≡ true

-- a root of the rest isn't the first
other_by : (x y : ℕ) (xs : List ℕ) → is_in x xs ≡ false → is_in y xs ≡ true → (b : Bool) → (y == x) ≡ b → (y == x) ≡ false
other_by x y xs apart here true e = absurd (false≢true (sym apart ∙ ap (λ z. is_in z xs) (sym (same_number y x e)) ∙ here))
other_by x y xs apart here false e = e

kept : (m : Parents) (x y : ℕ) → (y == x) ≡ false → map.get (map.remove m x) y ≡ map.get m y
kept m x y other = map.get-remove nat_cmp_total m x y ∙ cond-false _ _ _ (unsigned_tied y x ∙ other)

none_left : (m : Parents) (x : ℕ) → is_some (map.get m x) ≡ true → map.len m ≡ 0 → ⊥
none_left m x has none =
    let gone : is_some (map.get m x) ≡ false = ap (λ n. is_some (map.get n x)) (map.empty_of_len m none) ∙ ap is_some (map.get-empty nat_cmp x) in
    false≢true (sym gone ∙ has)

one_less : (m : Parents) (x : ℕ) → is_some (map.get m x) ≡ true → (n : ℕ) → map.len m ≡ n → map.len (map.remove m x) + 1 ≡ map.len m
one_less m x has zero e = absurd (none_left m x has e)
one_less m x has (suc n) e =
    let less : map.len (map.remove m x) ≡ map.len m - 1 = map.len-remove nat_cmp_total m x ∙ cond-true _ _ _ has in
    omega (arith, less, e)

few : (xs : List ℕ) (m : Parents) → AreApart xs → HaveParents m xs → length xs ≤ map.len m
few [] m apart have = omega arith
few (x ∷ xs) m apart have =
    let has : is_some (map.get m x) ≡ true = have x (or-left _ (is_in x xs) (itself x)) in
    let rest : length xs ≤ map.len (map.remove m x) =
    few xs (map.remove m x) apart.1 (λ y here. ap is_some (kept m x y (other_by x y xs apart.0 here (y == x) refl)) ∙ have y (or-right (y == x) _ here)) in
    let less = one_less m x has (map.len m) refl in
    omega (arith, rest, less)

-- ---- the end

at_none : (n : ℕ) (m : Parents) (seen : List ℕ) → IsSearchPath m seen None (chain n m seen None)
unfolding chain
at_none zero m seen = tt
at_none (suc n) m seen = tt

more : (m : Parents) (seen : List ℕ) (root parent : ℕ) → parent_of m root ≡ Some parent → HaveParents m seen → HaveParents m (root ∷ seen)
more m seen root parent is have x here = elim (or-cases (x == root) (is_in x seen) here) [
  | inl e ↦ ap (λ z. is_some (map.get m z)) (same_number x root e) ∙ ap is_some is
  | inr old ↦ have x old
]

by_parent : (n : ℕ) (m : Parents) (seen : List ℕ) (root : ℕ) → HaveParents m seen
    → ((parent : ℕ) → HaveParents m (root ∷ seen) → IsSearchPath m (root ∷ seen) (Some parent) (chain n m (root ∷ seen) (Some parent)))
    → (o : Option ℕ) → parent_of m root ≡ o → IsSearchPath m (root ∷ seen) o (chain n m (root ∷ seen) o)
by_parent n m seen root have later None is = at_none n m (root ∷ seen)
by_parent n m seen root have later (Some parent) is = later parent (more m seen root parent is have)

by_seen : (n : ℕ) (m : Parents) (seen : List ℕ) (root : ℕ)
    → (is_in root seen ≡ false → IsSearchPath m (root ∷ seen) (parent_of m root) (chain n m (root ∷ seen) (parent_of m root)))
    → (b : Bool) → is_in root seen ≡ b
    → IsSearchPath m seen (Some root) (cond b [] (root ∷ chain n m (root ∷ seen) (parent_of m root)))
by_seen n m seen root rest true is = is
by_seen n m seen root rest false is = (refl, is, rest is)

ends : (n : ℕ) (m : Parents) (seen : List ℕ) (root : Option ℕ) → n + length seen ≡ map.len m + 1 → AreApart seen → HaveParents m seen → IsSearchPath m seen root (chain n m seen root)
unfolding chain
ends zero m seen None sum apart have = tt
ends zero m seen (Some root) sum apart have = absurd (omega (arith, few seen m apart have, sum))
ends (suc n) m seen None sum apart have = tt
ends (suc n) m seen (Some root) sum apart have =
    by_seen n m seen root
    (λ new. by_parent n m seen root have (λ parent have_more. ends n m (root ∷ seen) (Some parent) (omega (arith, sum)) (new, apart) have_more) (parent_of m root) refl)
    (is_in root seen) refl

pub paths_end : PathsEnd
paths_end parents root = ends (map.len parents + 1) parents [] root (omega arith) tt (λ x h. absurd (false≢true h))

-- ---- the first pair of a root

stays : (made : Parents) (pair : ℕ × ℕ) (p : ℕ) → map.get made pair.0 ≡ Some p → put_first made pair ≡ made
stays made pair p has = cond-true (is_some (map.get made pair.0)) made (map.insert made pair.0 pair.1) (ap is_some has)

comes : (made : Parents) (pair : ℕ × ℕ) → map.get made pair.0 ≡ None → put_first made pair ≡ map.insert made pair.0 pair.1
comes made pair none = cond-false (is_some (map.get made pair.0)) made (map.insert made pair.0 pair.1) (ap is_some none)

abbrev found : Parents → ℕ → Option ℕ → Option ℕ
found m root rest = or_else (map.get m root) rest

put_by : (made : Parents) (pair : ℕ × ℕ) (root : ℕ) (rest : Option ℕ) (o : Option ℕ) → map.get made pair.0 ≡ o → (b : Bool) → (root == pair.0) ≡ b
    → found (put_first made pair) root rest ≡ or_else (map.get made root) (cond b (Some pair.1) rest)
put_by made pair root rest (Some p) has true same =
    let here : map.get made root ≡ Some p = ap (λ (k : ℕ). map.get made k) (same_number root pair.0 same) ∙ has in
    ap (λ (m : Parents). found m root rest) (stays made pair p has) ∙ ap (λ (o : Option ℕ). or_else o rest) here ∙ sym (ap (λ (o : Option ℕ). or_else o (Some pair.1)) here)
put_by made pair root rest (Some p) has false other = ap (λ (m : Parents). found m root rest) (stays made pair p has)
put_by made pair root rest None has true same =
    let none : map.get made root ≡ None = ap (λ (k : ℕ). map.get made k) (same_number root pair.0 same) ∙ has in
    let new : map.get (map.insert made pair.0 pair.1) root ≡ Some pair.1 = map.get-insert nat_cmp_total made pair.0 pair.1 root ∙ cond-true _ _ _ (unsigned_tied root pair.0 ∙ same) in
    ap (λ (m : Parents). found m root rest) (comes made pair has) ∙ ap (λ (o : Option ℕ). or_else o rest) new ∙ sym (ap (λ (o : Option ℕ). or_else o (Some pair.1)) none)
put_by made pair root rest None has false other =
    let same : map.get (map.insert made pair.0 pair.1) root ≡ map.get made root = map.get-insert nat_cmp_total made pair.0 pair.1 root ∙ cond-false _ _ _ (unsigned_tied root pair.0 ∙ other) in
    ap (λ (m : Parents). found m root rest) (comes made pair has) ∙ ap (λ (o : Option ℕ). or_else o rest) same

or_none : (o : Option ℕ) → o ≡ or_else o None
or_none None = refl
or_none (Some x) = refl

put_all : (pairs : List (ℕ × ℕ)) (made : Parents) (root : ℕ) → map.get (put_parents made pairs) root ≡ or_else (map.get made root) (first_parent pairs root)
put_all [] made root = or_none (map.get made root)
put_all (pair ∷ pairs) made root =
    put_all pairs (put_first made pair) root ∙ put_by made pair root (first_parent pairs root) (map.get made pair.0) refl (root == pair.0) refl

pub first_pair_holds : FirstPairHolds
first_pair_holds pairs root = put_all pairs map.empty root ∙ ap (λ o. or_else o (first_parent pairs root)) (map.get-empty nat_cmp root)
