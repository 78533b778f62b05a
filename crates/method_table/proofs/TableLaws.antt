-- The laws of the table: computed over its rows, and then of each row.
use Rattle.std.proofs.Common.{◌≡◌, ◌≢◌, ◌↔◌, ℕ, zero, suc, ◌+◌, ◌<◌, Bool, true, false, ◌&&◌, List, [], ◌∷◌, length, map, get_or, drop, cond, find, Option, None, Some, IfSome, IsSome, refl, sym, ◌∙◌, ap, arith, nat_eq}
use Rattle.std.specs.Prelude.{All, AllPairs}
use Rattle.std.specs.Cmp.Lexicographic.{pointwise, bytes_decides}
use Rattle.std.specs.List.{list_all}
use Rattle.std.specs.Option.{option_map, option_map_or}
use Rattle.std.proofs.lemmas.Bool.{eqb-true, false≢true}
use Rattle.std.proofs.lemmas.Option.{none-some}
use Rattle.std.proofs.lemmas.List.Sums.{AllPass-from_list_all}
use Rattle.method_table.specs.Laws.{numbers_from, IsRowOf}
use Rattle.method_table.specs.Rows.{has_method, has_number, facts_of, id_of, method_of, row_of}
use Rattle.method_table.specs.Table.{RowFacts, table}
use Rattle.method_table.specs.declared.row_id.RowId.{RowId}

abbrev is_id : RowId → Option RowId → Bool
is_id row None = false
is_id row (Some r) = nat_eq row.0 r.0

-- a row's method has this row
abbrev has_own : RowFacts → Bool
has_own facts = is_id (id_of facts) (row_of facts.method)

-- what stands at a row's number has the row's method
abbrev is_kept : RowFacts → Bool
is_kept facts = option_map_or (λ f. pointwise nat_eq f.method facts.method) (facts_of (id_of facts)) false

-- ---- computed over the whole table

pub in_order : map (λ facts. facts.number) table ≡ numbers_from 1 (length table)
unfolding table
in_order = refl

each_has_own : list_all has_own table ≡ true
unfolding table row_of
each_has_own = refl

each_is_kept : list_all is_kept table ≡ true
unfolding table facts_of
each_is_kept = refl

-- ---- of each row

split : (a b : Bool) → (a && b) ≡ true → (a ≡ true) × (b ≡ true)
split true b e = (refl, e)
split false b e = absurd (false≢true e)

same_id : (row : RowId) (r : Option RowId) → is_id row r ≡ true → r ≡ Some row
same_id row None e = absurd (false≢true e)
same_id row (Some r) e = let same = eqb-true row.0 r.0 e in λ i. Some (record { 0 = sym same i })

-- what is found passes, and so it does whatever each row does
module _ (p q : RowFacts → Bool) where
  chosen : (b : Bool) (x y : RowFacts) (xs : List RowFacts) → p y ≡ b → cond b (Some y) (find p xs) ≡ Some x
      → q y ≡ true → ((find p xs ≡ Some x) → (p x ≡ true) × (q x ≡ true)) → (p x ≡ true) × (q x ≡ true)
  chosen true x y xs tested e holds more = let same : y ≡ x = ap (λ r. option_map_or (λ z. z) r y) e in (ap p (sym same) ∙ tested, ap q (sym same) ∙ holds)
  chosen false x y xs tested e holds more = more e

  found_passes : (xs : List RowFacts) (x : RowFacts) → list_all q xs ≡ true → find p xs ≡ Some x → (p x ≡ true) × (q x ≡ true)
  found_passes [] x each e = absurd (none-some x e)
  found_passes (y ∷ xs) x each e =
      let parts = split _ _ each in
      chosen (p y) x y xs refl e parts.0 (found_passes xs x parts.1)

-- none is found exactly where none passes
module _ (p : RowFacts → Bool) where
  pub none_passes : (xs : List RowFacts) → find p xs ≡ None → All (λ x. p x ≡ false) xs
  none_passes [] e k d within = absurd (omega (arith, within))
  none_passes (x ∷ xs) e zero d within = first (p x) refl e where
    first : (b : Bool) → p x ≡ b → cond b (Some x) (find p xs) ≡ None → p x ≡ false
    first true tested e = absurd (none-some x (sym e))
    first false tested e = tested
  none_passes (x ∷ xs) e (suc k) d within = none_passes xs (rest (p x) refl e) k d (omega (arith, within)) where
    rest : (b : Bool) → p x ≡ b → cond b (Some x) (find p xs) ≡ None → find p xs ≡ None
    rest true tested e = absurd (none-some x (sym e))
    rest false tested e = e

  pub none_found : (xs : List RowFacts) → All (λ x. p x ≡ false) xs → find p xs ≡ None
  none_found [] none = refl
  none_found (x ∷ xs) none = rw (none zero x (omega arith)) (none_found xs (λ k d within. none (suc k) d (omega (arith, within))))

own_of : (row : RowId) (facts : Option RowFacts) → find (has_number row.0) table ≡ facts → IsSome facts → row_of (option_map_or (λ f. f.method) facts []) ≡ Some row
own_of row None e there = absurd (false≢true there)
own_of row (Some facts) e there =
    let passes = found_passes (has_number row.0) has_own table facts each_has_own e in
    let same = eqb-true facts.number row.0 passes.0 in
    same_id (id_of facts) (row_of facts.method) passes.1 ∙ (λ i. Some (record { 0 = same i }))

pub own : (row : RowId) → IsSome (facts_of row) → IsRowOf (method_of row) row
unfolding facts_of
own row there = own_of row (find (has_number row.0) table) refl there

kept_method : (method : List ℕ) (facts : RowFacts) → is_kept facts ≡ true → method_of (id_of facts) ≡ facts.method
kept_method method facts kept = at (facts_of (id_of facts)) kept where
  at : (found : Option RowFacts) → option_map_or (λ f. pointwise nat_eq f.method facts.method) found false ≡ true → option_map_or (λ f. f.method) found [] ≡ facts.method
  at None e = absurd (false≢true e)
  at (Some f) e = (bytes_decides f.method facts.method).0 e

some_of : (method : List ℕ) (found : Option RowFacts) → find (has_method method) table ≡ found → IfSome (option_map id_of found) (λ row. method_of row ≡ method)
some_of method None e = tt
some_of method (Some facts) e =
    let passes = found_passes (has_method method) is_kept table facts each_is_kept e in
    kept_method method facts passes.1 ∙ (bytes_decides facts.method method).0 passes.0

pub some : (method : List ℕ) → IfSome (row_of method) (λ row. method_of row ≡ method)
unfolding row_of
some method = some_of method (find (has_method method) table) refl

no_row : (found : Option RowFacts) → option_map id_of found ≡ None → found ≡ None
no_row None e = refl
no_row (Some facts) e = absurd (none-some (id_of facts) (sym e))

not_true : (b : Bool) → (b ≡ true → ⊥) → b ≡ false
not_true true f = absurd (f refl)
not_true false f = refl

pub none : (method : List ℕ) → (row_of method ≡ None) ↔ All (λ facts. facts.method ≢ method) table
unfolding row_of
none method = (
  (λ e k d within same. false≢true (sym (none_passes (has_method method) table (no_row _ e) k d within) ∙ (bytes_decides (get_or table k d).method method).1 same)),
  (λ apart. ap (option_map id_of) (none_found (has_method method) table (λ k d within. not_true _ (λ same. apart k d within ((bytes_decides (get_or table k d).method method).0 same))))),
)

-- the number at a place
number_at : (n : ℕ) (xs : List RowFacts) → map (λ facts. facts.number) xs ≡ numbers_from n (length xs) → (k : ℕ) (d : RowFacts) → k < length xs → (get_or xs k d).number ≡ n + k
number_at n [] e k d within = absurd (omega (arith, within))
number_at n (x ∷ xs) e zero d within = let first : x.number ≡ n = ap (λ l. get_or l 0 0) e in omega (arith, first)
number_at n (x ∷ xs) e (suc k) d within =
    let more = number_at (n + 1) xs (ap (λ l. drop 1 l) e) k d (omega (arith, within)) in
    omega (arith, more)

pub distinct : AllPairs (λ a b. a.method ≢ b.method) table
distinct i j d before within same =
    let row_i = AllPass-from_list_all has_own table each_has_own i d (omega (arith, before, within)) in
    let row_j = AllPass-from_list_all has_own table each_has_own j d within in
    let its_i = same_id (id_of (get_or table i d)) (row_of (get_or table i d).method) row_i in
    let its_j = same_id (id_of (get_or table j d)) (row_of (get_or table j d).method) row_j in
    let numbers : Some (id_of (get_or table i d)) ≡ Some (id_of (get_or table j d)) = sym its_i ∙ ap row_of same ∙ its_j in
    let as_number : (get_or table i d).number ≡ (get_or table j d).number = ap (λ r. option_map_or (λ row. row.0) r 0) numbers in
    omega (arith, before, as_number, number_at 1 table in_order i d (omega (arith, before, within)), number_at 1 table in_order j d within)
