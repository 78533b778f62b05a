-- What a take of the marks answers.
use Rattle.std.proofs.Common.{◌≡◌, ℕ, true, false, List, [], ◌∷◌, length, Some, None, sym, ap, refl, ◌∙◌}
use Rattle.std.specs.Prelude.{nat_eq, map as each}
use Rattle.std.specs.Ordering.{nat_cmp}
use Rattle.std.specs.FinMap as map
use Rattle.std.proofs.lemmas.Bool.{true≢false, eqb-true, eq-eqb}
use Rattle.std.proofs.lemmas.List.{nil_from_length}
use Rattle.op_board.specs.Marked.{Marked, files_at, if_any, taken}

pub entries_empty : {V : Type 0} → map.entries (map.empty {X = V} {R = nat_cmp}) ≡ []
entries_empty {V} = nil_from_length _ (sym (map.len-entries (map.empty {X = V} {R = nat_cmp})) ∙ map.len-empty nat_cmp V)

pub taken_of_none : (m : Marked) → nat_eq (map.len m) 0 ≡ true → None ≡ taken m
taken_of_none m is =
    sym (ap (λ es. if_any (files_at (each (λ (e : ℕ × Unit {0}). e.0) es))) (nil_from_length (map.entries m) (sym (map.len-entries m) ∙ eqb-true _ _ is)))

some_of : (es : List (ℕ × Unit {0})) → (length es ≡ 0 → ⊥) → Some (files_at (each (λ e. e.0) es)) ≡ if_any (files_at (each (λ e. e.0) es))
some_of [] some = absurd (some refl)
some_of (e ∷ es) some = refl

pub taken_of_some : (m : Marked) → nat_eq (map.len m) 0 ≡ false → Some (files_at (map.keys m)) ≡ taken m
taken_of_some m isnt = some_of (map.entries m) (λ none. true≢false (sym (eq-eqb _ _ (map.len-entries m ∙ none)) ∙ isnt))
