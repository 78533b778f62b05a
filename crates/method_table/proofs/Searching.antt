-- The rows in the order of their methods' bytes, and what a binary search of them finds.
use Rattle.std.proofs.Common.{◌≡◌, ℕ, zero, suc, ◌<◌, ◌≤◌, Bool, true, false, ◌&&◌, List, [], ◌∷◌, length, get_or, find, Option, None, Some, Result, Ok, Err, MatchResult, refl, sym, ◌∙◌, ap, arith, nat_eq, inl, inr}
use Rattle.std.specs.Cmp.{alike_right, tied_itself}
use Rattle.std.specs.Cmp.Lexicographic.{slice_cmp, pointwise, nat_list_cmp_total, bytes_decides}
use Rattle.std.specs.List.{list_all, list_any}
use Rattle.std.specs.FinMap.{nat_cmp-IsAntisymmetric, slice_cmp-IsAntisymmetric}
use Rattle.std.specs.List.Sorted.{IsNonDecreasingBy, IsBinarySearchResult, IsPartitionPoint, IsSearchInRange}
use Rattle.std.specs.Option.{option_map}
use Rattle.std.specs.Ordering.{nat_cmp, is_lt, ordering_index}
use Rattle.std.specs.declared.cmp.Ordering.{Ordering}
use Rattle.std.specs.declared.cmp.Ordering.TheVariants.{Less, Equal, Greater}
use Rattle.std.proofs.lemmas.Bool.{cases_lt, eqb-true, false≢true}
use Rattle.std.proofs.lemmas.List.Folds.{Any-from_list_any}
use Rattle.std.proofs.lemmas.List.Sums.{AllPass-from_list_all}
use Rattle.method_table.specs.Rows.{has_method, facts_of, id_of, method_of, row_of}
use Rattle.method_table.specs.Table.{RowFacts, table}
use Rattle.method_table.specs.declared.row_id.RowId.{RowId}
use Rattle.method_table.specs.declared.facts.TheConstants.{BY_METHOD}

abbrev cmp : List ℕ → List ℕ → Ordering
cmp = slice_cmp nat_cmp

abbrev is_own : RowId → Option RowId → Bool
is_own row None = false
is_own row (Some r) = nat_eq row.0 r.0

abbrev rising : List RowId → Bool
rising [] = true
rising (x ∷ []) = true
rising (x ∷ y ∷ rest) = is_lt (cmp (method_of x) (method_of y)) && rising (y ∷ rest)

abbrev is_listed : RowFacts → Bool
is_listed facts = list_any (λ row. pointwise nat_eq (method_of row) facts.method) BY_METHOD

-- ---- computed over the whole table

in_order : rising BY_METHOD ≡ true
unfolding table facts_of
in_order = refl

each_own : list_all (λ row. is_own row (row_of (method_of row))) BY_METHOD ≡ true
unfolding table facts_of row_of
each_own = refl

all_listed : list_all is_listed table ≡ true
unfolding table facts_of
all_listed = refl

-- ---- a list in order is in order by any method

split : (a b : Bool) → (a && b) ≡ true → (a ≡ true) × (b ≡ true)
split true b e = (refl, e)
split false b e = absurd (false≢true e)

less : (r : Ordering) → is_lt r ≡ true → r ≡ Less
less Less e = refl
less Equal e = absurd (false≢true e)
less Greater e = absurd (false≢true e)

below : (r s : Ordering) → (s ≡ Less → r ≡ Less) → (s ≡ Equal → r ≡ Less) → ordering_index r ≤ ordering_index s
below Less s f g = omega arith
below Equal Less f g = let e = f refl in absurd (omega (arith, ap ordering_index e))
below Equal Equal f g = omega arith
below Equal Greater f g = omega arith
below Greater Less f g = let e = f refl in absurd (omega (arith, ap ordering_index e))
below Greater Equal f g = let e = g refl in absurd (omega (arith, ap ordering_index e))
below Greater Greater f g = omega arith

module _ (method : List ℕ) where
  abbrev place : RowId → ℕ
  place row = ordering_index (cmp (method_of row) method)

  step : (x y : RowId) → is_lt (cmp (method_of x) (method_of y)) ≡ true → place x ≤ place y
  step x y e =
      let o = nat_list_cmp_total in
      let first = less _ e in
      below _ _ (λ s. o.trans (method_of x) (method_of y) method first s) (λ s. sym (alike_right o (method_of y) method (method_of x) s) ∙ first)

  ordered : (rows : List RowId) → rising rows ≡ true → IsNonDecreasingBy place rows
  ordered [] e i j d upto within = absurd (omega (arith, within))
  ordered (x ∷ []) e zero zero d upto within = omega arith
  ordered (x ∷ []) e zero (suc j) d upto within = absurd (omega (arith, within))
  ordered (x ∷ []) e (suc i) zero d upto within = absurd (omega (arith, upto))
  ordered (x ∷ []) e (suc i) (suc j) d upto within = absurd (omega (arith, within))
  ordered (x ∷ y ∷ rest) e zero zero d upto within = omega arith
  ordered (x ∷ y ∷ rest) e zero (suc j) d upto within =
      let parts = split _ _ e in
      let first = step x y parts.0 in
      let more = ordered (y ∷ rest) parts.1 zero j d (omega arith) (omega (arith, within)) in
      omega (arith, first, more)
  ordered (x ∷ y ∷ rest) e (suc i) zero d upto within = absurd (omega (arith, upto))
  ordered (x ∷ y ∷ rest) e (suc i) (suc j) d upto within =
      ordered (y ∷ rest) (split _ _ e).1 i j d (omega (arith, upto)) (omega (arith, within))

-- ---- what is found

own : (row : RowId) (r : Option RowId) → is_own row r ≡ true → r ≡ Some row
own row None e = absurd (false≢true e)
own row (Some r) e = let same = eqb-true row.0 r.0 e in λ i. Some (record { 0 = sym same i })

-- texts that tie are equal
tied : (xs ys : List ℕ) → cmp xs ys ≡ Equal → xs ≡ ys
tied = slice_cmp-IsAntisymmetric nat_cmp-IsAntisymmetric

none_found : (p q : RowFacts → Bool) (xs : List RowFacts) → list_all q xs ≡ true → ((x : RowFacts) → q x ≡ true → p x ≡ false) → find p xs ≡ None
none_found p q [] e f = refl
none_found p q (x ∷ xs) e f = let parts = split _ _ e in rw (f x parts.0) (none_found p q xs parts.1 f)

not_true : (b : Bool) → (b ≡ true → ⊥) → b ≡ false
not_true true f = absurd (f refl)
not_true false f = refl

-- where each row before a place is below a method, and each from there on above it, none has the method
module _ (method : List ℕ) (i : ℕ) (parts : IsPartitionPoint (λ row. cmp (method_of row) method ≡ Less) (λ row. cmp (method_of row) method ≡ Greater) BY_METHOD i) where
  tie : (x : RowId) → method_of x ≡ method → cmp (method_of x) method ≡ Equal
  tie x same = ap (cmp (method_of x)) (sym same) ∙ tied_itself nat_list_cmp_total (method_of x)

  differs : (k : ℕ) (x : RowId) → k < length BY_METHOD → get_or BY_METHOD k x ≡ x → method_of x ≡ method → ⊥
  differs k x in_list is same =
      let at : cmp (method_of (get_or BY_METHOD k x)) method ≡ Equal = rw is (tie x same) in
      elim (cases_lt k i) [
        | inl before ↦ let less : cmp (method_of (get_or BY_METHOD k x)) method ≡ Less = parts.0 k x (omega arith) before in absurd (omega (arith, ap ordering_index (sym at ∙ less)))
        | inr after ↦ let more : cmp (method_of (get_or BY_METHOD k x)) method ≡ Greater = parts.1 k x after in_list in absurd (omega (arith, ap ordering_index (sym at ∙ more)))
      ]

  apart : (facts : RowFacts) → is_listed facts ≡ true → has_method method facts ≡ false
  apart facts listed =
      let one = Any-from_list_any (λ row. pointwise nat_eq (method_of row) facts.method) BY_METHOD listed in
      not_true _ (λ same. differs one.0 one.1 one.2 one.3 ((bytes_decides (method_of one.1) facts.method).0 one.4 ∙ (bytes_decides facts.method method).0 same))

  absent : None ≡ row_of method
  unfolding row_of
  absent = sym (ap (option_map id_of) (none_found (has_method method) is_listed table all_listed apart))

pub searched : (method : List ℕ) (r : Result ℕ ℕ) → IsSearchInRange r (length BY_METHOD)
    → IsBinarySearchResult (λ row. cmp (method_of row) method) BY_METHOD r
    → MatchResult r (λ i. (d : RowId) → Some (get_or BY_METHOD i d) ≡ row_of method) (λ _. None ≡ row_of method)
searched method (Ok i) within found = λ d.
    let row = get_or BY_METHOD i d in
    let same : method_of row ≡ method = tied _ _ (found d) in
    let its = AllPass-from_list_all (λ y. is_own y (row_of (method_of y))) BY_METHOD each_own i d within in
    sym (ap row_of (sym same) ∙ own row _ its)
searched method (Err i) within found = absent method i (found (ordered method BY_METHOD in_order))
