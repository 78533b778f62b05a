-- The number that a text spells.
use Rattle.std.proofs.Common.{◌≡◌, ℕ, ◌<◌, Bool, true, false, List, [], ◌∷◌, length, refl, ap, sym, ◌∙◌, ⊎_elim, Decides, ltb}
use Rattle.std.specs.Prelude.{Some, None, Result, Ok, Err, OkIff, ◌&&◌}
use Rattle.std.specs.Char.{digit_value}
use Rattle.std.specs.Result.{result_ok}
use Rattle.std.specs.Str.Parse.{IsNumeral, AllDigits, digits_value}
use Rattle.std.proofs.lemmas.Bool.{cases_Bool, cond-true, cond-false}
use Rattle.std.proofs.lemmas.Bool.Decides.{Decides-and, Decides-ltb}
use Rattle.server.specs.Words.{are_digits, number_below}

Decides-are_digits : (ds : List ℕ) → Decides (are_digits ds) (AllDigits 10 ds)
Decides-are_digits [] = (λ _. tt, λ _. refl)
Decides-are_digits (d ∷ ds) = Decides-and _ _ (Decides-ltb (digit_value d) 10) (Decides-are_digits ds)

module _ (limit : ℕ) (ds : List ℕ) where
  abbrev is_below : Bool
  is_below = (ltb 0 (length ds) && are_digits ds) && ltb (digits_value 10 ds) limit

  spells : Decides is_below (IsNumeral 10 ds × (digits_value 10 ds < limit))
  spells = Decides-and _ _ (Decides-and _ _ (Decides-ltb 0 (length ds)) (Decides-are_digits ds)) (Decides-ltb (digits_value 10 ds) limit)

  -- `parse` gives the number that is spelled
  pub number_is : {E : Type 0} (r : Result ℕ E) → OkIff r (IsNumeral 10 ds × (digits_value 10 ds < limit)) (digits_value 10 ds)
      → result_ok r ≡ number_below limit ds
  number_is (Ok x) h = ap Some h.1 ∙ sym (cond-true is_below (Some (digits_value 10 ds)) None (spells.1 h.0))
  number_is (Err e) h =
      ⊎_elim
      (λ (is : is_below ≡ true). absurd (h (spells.0 is)))
      (λ (not : is_below ≡ false). sym (cond-false is_below (Some (digits_value 10 ds)) None not))
      (cases_Bool is_below)
