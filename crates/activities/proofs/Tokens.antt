-- What stands behind a front of a text, and the number that a text spells.
use Rattle.std.proofs.Common.{◌≡◌, ℕ, ◌<◌, ◌++◌, true, false, List, [], ◌∷◌, length, drop, refl, ap, sym, ◌∙◌, ⊎_elim}
use Rattle.std.proofs.Common.{arith, Decides, ltb}
use Rattle.std.specs.Prelude.{Option, Some, None, Result, Ok, Err, MatchOption, OkIff, ◌&&◌}
use Rattle.std.specs.Borrow.{Bor}
use Rattle.std.specs.Option.{option_copied}
use Rattle.std.specs.Char.{digit_value}
use Rattle.std.specs.Result.{result_ok}
use Rattle.std.specs.Str.Parse.{IsNumeral, AllDigits, digits_value}
use Rattle.std.specs.Str.Pattern.{StripsPrefix, FindsTextPrefix}
use Rattle.std.proofs.lemmas.Bool.{cases_Bool, cond-true, cond-false}
use Rattle.std.proofs.lemmas.Bool.Decides.{nat_tests, Decides-and, Decides-ltb}
use Rattle.activities.specs.CheckNames.{behind, are_digits, is_numeral, number_below}

pub behind-append : (front rest : List ℕ) → behind front (front ++ rest) ≡ Some rest
behind-append [] rest = refl
behind-append (code ∷ front) rest = let more = behind-append front rest in grind (arith, nat_tests, more)

pub behind-Some : (front text rest : List ℕ) → behind front text ≡ Some rest → text ≡ front ++ rest
behind-Some [] text rest e = cc
behind-Some (code ∷ front) [] rest e = absurd (cc)
behind-Some (code ∷ front) (first ∷ text) rest e =
    let more = behind-Some front text rest in grind (arith, nat_tests, more)

none_behind : (front text : List ℕ) (o : Option (List ℕ)) → behind front text ≡ o
    → ((rest : List ℕ) → text ≡ front ++ rest → ⊥) → o ≡ None
none_behind front text None e lacks = refl
none_behind front text (Some rest) e lacks = absurd (lacks rest (behind-Some front text rest e))

-- `strip_prefix` gives what stands behind
pub strips : (front text : List ℕ) (r : Option (Bor (List ℕ)))
    → MatchOption r (FindsTextPrefix front text None) (λ x. StripsPrefix (FindsTextPrefix front) text x.now)
    → option_copied r ≡ behind front text
strips front text None h = sym (none_behind front text (behind front text) refl h)
strips front text (Some x) h = ap Some h.2 ∙ sym (behind-append front (drop h.0 text)) ∙ ap (behind front) (sym h.1.1)

Decides-are_digits : (ds : List ℕ) → Decides (are_digits ds) (AllDigits 10 ds)
Decides-are_digits [] = (λ _. tt, λ _. refl)
Decides-are_digits (d ∷ ds) = Decides-and _ _ (Decides-ltb (digit_value d) 10) (Decides-are_digits ds)

module _ (limit : ℕ) (ds : List ℕ) where
  pub spells : Decides (is_numeral ds && ltb (digits_value 10 ds) limit)
      (IsNumeral 10 ds × (digits_value 10 ds < limit))
  spells = Decides-and _ _ (Decides-and _ _ (Decides-ltb 0 (length ds)) (Decides-are_digits ds))
      (Decides-ltb (digits_value 10 ds) limit)

  -- `parse` gives the number that is spelled
  pub number_is : {E : Type 0} (r : Result ℕ E)
      → OkIff r (IsNumeral 10 ds × (digits_value 10 ds < limit)) (digits_value 10 ds)
      → result_ok r ≡ number_below limit ds
  number_is (Ok x) h =
      ap Some h.1 ∙ sym (cond-true (is_numeral ds && ltb (digits_value 10 ds) limit) (Some (digits_value 10 ds))
      None (spells.1 h.0))
  number_is (Err e) h =
      ⊎_elim
      (λ (is : (is_numeral ds && ltb (digits_value 10 ds) limit) ≡ true). absurd (h (spells.0 is)))
      (λ (not : (is_numeral ds && ltb (digits_value 10 ds) limit) ≡ false).
      sym (cond-false (is_numeral ds && ltb (digits_value 10 ds) limit) (Some (digits_value 10 ds)) None not))
      (cases_Bool (is_numeral ds && ltb (digits_value 10 ds) limit))
