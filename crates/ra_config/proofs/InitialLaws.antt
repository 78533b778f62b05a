-- A session has no settings exactly where it has no roots.
use Rattle.std.specs.Prelude.{◌≡◌, ◌↔◌, ℕ, List, [], ◌∷◌, Some, None, Ok, Err, slice_get, refl}
use Rattle.std.proofs.Common.{ap}
use Rattle.serde_json.specs.Data.{Data}
use Rattle.ra_config.specs.Initialize.{at_least_one, config_from, config_with}
use Rattle.ra_config.specs.declared.initialize.ConfigFault.TheVariants.{NoRoot}

pub paths_give_a_root : (params : Data) (threads : ℕ) (paths : List (List ℕ)) → (config_with params threads paths ≡ Err NoRoot) ↔ (at_least_one paths ≡ None)
paths_give_a_root params threads [] = (λ _. refl, λ _. refl)
paths_give_a_root params threads (root ∷ rest) = (λ h. absurd cc, λ h. absurd cc)

same_root : (x y : List ℕ) → Some x ≡ Some y → x ≡ y
same_root x y p = cc

-- the first of the roots is the root
pub first_is_root : (params : Data) (threads : ℕ) (root : List ℕ) (paths : List (List ℕ)) → slice_get paths 0 ≡ Some root
    → config_with params threads paths ≡ Ok (config_from params threads root paths)
first_is_root params threads root [] is = absurd cc
first_is_root params threads root (first ∷ rest) is = ap (λ r. Ok (config_from params threads r (first ∷ rest))) (same_root first root is)

pub ruleset roots = (paths_give_a_root, first_is_root)
