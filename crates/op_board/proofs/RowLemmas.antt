-- Rows of a map: which of them a search by key finds.
use Rattle.std.proofs.Common.{◌≡◌, Bool, true, false, ◌&&◌, ◌||◌, List, [], ◌∷◌, refl, ap, sym, subst, ◌∙◌, ⊎_elim}
use Rattle.std.specs.Prelude.{T, None, Some}
use Rattle.std.specs.List.{list_any}
use Rattle.std.specs.Ordering.{eq_by_cmp, is_eq, is_lt}
use Rattle.std.specs.declared.cmp.Ordering.{Ordering}
use Rattle.std.specs.declared.cmp.Ordering.TheVariants.{Less, Equal, Greater}
use Rattle.std.specs.Cmp.{IsTotalOrder, tied_itself}
use Rattle.std.specs.FinMap as map
use Rattle.std.specs.FinMap.Entries.{below_all}
use Rattle.std.proofs.lemmas.Bool.{cases_Bool, cond-true, cond-false, true≢false, or_left, or_right}

pub tie : (r : Ordering) → is_eq r ≡ true → r ≡ Equal
tie Less e = absurd (true≢false (sym e))
tie Equal e = refl
tie Greater e = absurd (true≢false (sym e))

not_less : (r : Ordering) → T (is_lt r) → is_eq r ≡ false
not_less Less t = refl
not_less Equal t = absurd t
not_less Greater t = absurd t

pub front : (a b : Bool) → T (a && b) → T a
front true b t = tt
front false b t = absurd t

pub back : (a b : Bool) → T (a && b) → T b
back true b t = t
back false b t = absurd t

inside : {X : Type 0} (x y : X) → Some x ≡ Some y → x ≡ y
inside x y e = cc

abbrev pub AllRows : {K V : Type 0} → (V → Type 0) → List (K × V) → Type 0
AllRows P [] = Unit {0}
AllRows P (row ∷ rows) = P row.1 × AllRows P rows

module _ {K V : Type 0} (R : K → K → Ordering) where
  pub none_below : (q : K) (rows : List (K × V)) → T (below_all R q rows) → map.find R q rows ≡ None
  none_below q [] below = refl
  none_below q (row ∷ rows) below =
      cond-false _ _ _ (not_less (R q row.0) (front _ _ below)) ∙ none_below q rows (back (is_lt (R q row.0)) _ below)

  pub found_any : (f : V → Bool) (rows : List (K × V)) (k : K) (v : V) → map.find R k rows ≡ Some v → f v ≡ true → list_any (λ row. f row.1) rows ≡ true
  found_any f [] k v found is = absurd cc
  found_any f (row ∷ rows) k v found is =
      ⊎_elim
      (λ here. or_left (f row.1) _ (ap f (inside row.1 v (sym (cond-true _ _ _ here) ∙ found)) ∙ is))
      (λ away. or_right (f row.1) _ (found_any f rows k v (sym (cond-false _ _ _ away) ∙ found) is))
      (cases_Bool (eq_by_cmp R k row.0))

module _ {K V : Type 0} {R : K → K → Ordering} (total : IsTotalOrder R) (same : map.IsAntisymmetric R) where
  later : (row : K × V) (rows : List (K × V)) (k : K) (v : V) → T (map.is_sorted R (row ∷ rows)) → map.find R k rows ≡ Some v → map.find R k (row ∷ rows) ≡ Some v
  later row rows k v up found =
      ⊎_elim
      (λ here.
      let none = none_below R k rows (subst (λ q. T (below_all R q rows)) (sym (same k row.0 (tie (R k row.0) here))) (front _ _ up)) in
      let e = sym found ∙ none in absurd cc)
      (λ away. cond-false _ _ _ away ∙ found)
      (cases_Bool (eq_by_cmp R k row.0))

  first : (row : K × V) (rows : List (K × V)) → map.find R row.0 (row ∷ rows) ≡ Some row.1
  first row rows = cond-true _ _ _ (ap is_eq (tied_itself total row.0))

  pub any_found : (f : V → Bool) (rows : List (K × V)) → T (map.is_sorted R rows) → list_any (λ row. f row.1) rows ≡ true
      → (k : K) × (v : V) × (map.find R k rows ≡ Some v) × (f v ≡ true)
  any_found f [] up is = absurd (true≢false (sym is))
  any_found f (row ∷ rows) up is =
      ⊎_elim
      (λ here. (row.0, row.1, first row rows, here))
      (λ away.
      let more = any_found f rows (back (below_all R row.0 rows) _ up) (sym (ap (λ b. b || list_any (λ (row : K × V). f row.1) rows) away) ∙ is) in
      (more.0, more.1, later row rows more.0 more.1 up more.2, more.3))
      (cases_Bool (f row.1))

  pub each_row : (P : V → Type 0) (rows : List (K × V)) → T (map.is_sorted R rows) → ((k : K) (v : V) → map.find R k rows ≡ Some v → P v) → AllRows P rows
  each_row P [] up all = tt
  each_row P (row ∷ rows) up all =
      (all row.0 row.1 (first row rows), each_row P rows (back (below_all R row.0 rows) _ up) (λ k v found. all k v (later row rows k v up found)))
