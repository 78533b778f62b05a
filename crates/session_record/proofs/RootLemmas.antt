-- Params that name a root.
use Rattle.std.proofs.Common.{◌≡◌, List, ℕ, true, Option, None, Some, is_some, refl}

pub some_root : (roots : Option (List (List ℕ))) → (roots ≡ None → ⊥) → is_some roots ≡ true
some_root None none = absurd (none refl)
some_root (Some x) none = refl
