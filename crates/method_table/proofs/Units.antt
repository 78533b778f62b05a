-- A list without items and an object without members.
use Rattle.std.proofs.Common.{◌≡◌, List, [], ◌∷◌, length, Bool, true, false, refl, arith, ne_eqb}
use Rattle.std.specs.Prelude.{IsTrue, String, ◌==◌}
use Rattle.std.specs.declared.alloc.Global.{Global}
use Rattle.serde_json.specs.View.{items_view, members_view}
use Rattle.serde_json.specs.declared.value.Value.{Value}
use Rattle.method_table.specs.Unit.{has_no_items, has_no_members}

pub none-among : (vs : List Value) → (length vs == 0) ≡ has_no_items (items_view vs)
none-among [] = refl
none-among (v ∷ vs) = ne_eqb (length (v ∷ vs)) 0 (λ e. omega arith)

pub none-in : (r : Bool) (ms : List (String Global × Value)) → (IsTrue r → length ms ≡ 0) → (length ms ≡ 0 → IsTrue r) → r ≡ has_no_members (members_view ms)
none-in true [] f g = refl
none-in true (m ∷ ms) f g = absurd (omega (arith, f refl))
none-in false [] f g = let e = g refl in absurd cc
none-in false (m ∷ ms) f g = refl
