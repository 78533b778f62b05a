-- The text that bytes are.
use Rattle.std.proofs.Common.{◌≡◌, ℕ, List, ⊎_elim}
use Rattle.std.specs.Prelude.{None, Some, if◌then◌else◌}
use Rattle.std.specs.Str.{IsUtf8, is_utf8}
use Rattle.std.proofs.lemmas.Bool.{cases_Bool, cond-true, cond-false}
use Rattle.std.proofs.lemmas.Str.{IsUtf8-from_is_utf8, is_utf8-from_IsUtf8}

pub utf8_some : (bs : List ℕ) → IsUtf8 bs → (if is_utf8 bs then Some bs else None) ≡ Some bs
utf8_some bs u = cond-true _ _ _ (is_utf8-from_IsUtf8 bs u)

pub utf8_none : (bs : List ℕ) → (IsUtf8 bs → ⊥) → (if is_utf8 bs then Some bs else None) ≡ None
utf8_none bs other = ⊎_elim (λ t. absurd (other (IsUtf8-from_is_utf8 bs t))) (λ f. cond-false _ _ _ f) (cases_Bool (is_utf8 bs))
