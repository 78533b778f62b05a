-- An object where a value was set in its place.
use Rattle.std.proofs.Common.{◌≡◌, Some, ℕ, List, [], ◌∷◌, Bool, true, false, cond, string_bytes, nat_cmp, is_eq, refl, sym, ap, ◌∙◌}
use Rattle.std.specs.Cmp.Lexicographic.{slice_cmp}
use Rattle.std.specs.Map.{set_value}
use Rattle.std.specs.BTreeMap.{is_at}
use Rattle.std.specs.Ordering.{match_ordering}
use Rattle.serde_json.specs.Find.{get_member}
use Rattle.serde_json.specs.View.{view, members_view}
use Rattle.serde_json.specs.declared.value.Value.{Value}
use Rattle.serde_json.proofs.Views.{Entry, member_later}
use Rattle.plain.proofs.MembersLemmas.{at_key}

-- the others are found as before, whichever way the test of the first key went
set_later : (b : Bool) (name q : List ℕ) (e : Entry) (es rest : List Entry) (v : Value) → is_eq (slice_cmp nat_cmp name (string_bytes e.0)) ≡ b → (q ≡ name → ⊥)
    → get_member q (members_view rest) ≡ get_member q (members_view es) → get_member q (members_view (cond b ((e.0, v) ∷ es) (e ∷ rest))) ≡ get_member q (members_view (e ∷ es))
set_later true name q e es rest v is other same =
    let elsewhere : q ≡ string_bytes e.0 → ⊥ = λ h. other (h ∙ sym (at_key name (string_bytes e.0) is)) in
    member_later q (e.0, v) es elsewhere ∙ sym (member_later q e es elsewhere)
set_later false name q e es rest v is other same = ap (λ r. match_ordering (slice_cmp nat_cmp q (string_bytes e.0)) r (Some (view e.1)) r) same

pub get_member-set_value : (name q : List ℕ) (es : List Entry) (v : Value) → (q ≡ name → ⊥)
    → get_member q (members_view (set_value (is_at (λ k. slice_cmp nat_cmp name (string_bytes k))) es v)) ≡ get_member q (members_view es)
get_member-set_value name q [] v other = refl
get_member-set_value name q (e ∷ es) v other = set_later _ name q e es _ v refl other (get_member-set_value name q es v other)
