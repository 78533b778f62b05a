-- A run at an end of a list, where all of a part at that end pass.
use Rattle.std.proofs.Common.{◌≡◌, ℕ, Bool, true, List, [], ◌∷◌, ◌++◌, ◌+◌, ◌-◌, cond, length, take, drop, reverse, ap, sym, ◌∙◌, refl, arith}
use Rattle.std.specs.List.{list_all, prefix_len, suffix_len}
use Rattle.std.proofs.lemmas.Bool.{and_parts, and_from}
use Rattle.std.proofs.lemmas.List.{reverse-append, length-reverse, take-append-drop, length-take, length-drop}
use Rattle.std.proofs.lemmas.List.Folds.{list_all-append}

module _ {X : Type 0} (p : X → Bool) where
  prefix_past : (xs ys : List X) → list_all p xs ≡ true → prefix_len p (xs ++ ys) ≡ length xs + prefix_len p ys
  prefix_past [] ys all = omega arith
  prefix_past (x ∷ xs) ys all =
      let both = and_parts (p x) (list_all p xs) all in
      ap (λ b. cond b (1 + prefix_len p (xs ++ ys)) 0) both.0 ∙ omega (arith, prefix_past xs ys both.1)

  all_reversed : (xs : List X) → list_all p xs ≡ true → list_all p (reverse xs) ≡ true
  all_reversed [] all = refl
  all_reversed (x ∷ xs) all =
      let both = and_parts (p x) (list_all p xs) all in
      ap (list_all p) (reverse-append (x ∷ []) xs) ∙ list_all-append p (reverse xs) (x ∷ []) ∙ and_from _ _ (all_reversed xs both.1) (and_from _ _ both.0 refl)

  -- the first n pass
  pub prefix_len_past : (xs : List X) (n : ℕ) → list_all p (take n xs) ≡ true → prefix_len p xs ≡ length xs - length (drop n xs) + prefix_len p (drop n xs)
  prefix_len_past xs n all =
      ap (prefix_len p) (sym (take-append-drop n xs)) ∙ prefix_past (take n xs) (drop n xs) all ∙ grind (arith, length-take n xs, length-drop n xs)

  -- those from n on pass
  pub suffix_len_before : (xs : List X) (n : ℕ) → list_all p (drop n xs) ≡ true → suffix_len p xs ≡ length xs - n + suffix_len p (take n xs)
  suffix_len_before xs n all =
      ap (suffix_len p) (sym (take-append-drop n xs))
      ∙ ap (prefix_len p) (reverse-append (take n xs) (drop n xs))
      ∙ prefix_past (reverse (drop n xs)) (reverse (take n xs)) (all_reversed (drop n xs) all)
      ∙ omega (arith, length-reverse (drop n xs), length-drop n xs)
