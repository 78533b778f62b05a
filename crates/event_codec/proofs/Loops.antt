-- The steps of loops that read items: what was read, and what is left to read.
use Rattle.std.proofs.Common.{◌≡◌, ℕ, suc, ◌+◌, ◌-◌, ◌<◌, List, [], ◌∷◌, ◌++◌, Some, None, refl, sym, ap, ◌∙◌, append_assoc, arith}
use Rattle.record_codec.specs.Front.{Found, here, via, some_is}
use Rattle.record_codec.specs.Codec.{Codec}
use Rattle.record_codec.specs.Lists.{read_items, read_marked}
use Rattle.record_codec.specs.Cases.{first_of}

first_is : (bytes : List ℕ) (b : ℕ) (rest : List ℕ) → first_of bytes ≡ here b rest → bytes ≡ b ∷ rest
first_is [] b rest e = absurd cc
first_is (x ∷ bytes) b rest e = ap (λ (y : ℕ × List ℕ). y.0 ∷ y.1) (some_is (x, bytes) (b, rest) e)

module _ {A : Type 0} where
  -- items that were read before those that are read now
  abbrev pub with_front : List A → Found (List A) → Found (List A)
  with_front front r = via (λ xs. front ++ xs) r

  regroup : (front : List A) (x : A) (r : Found (List A)) → with_front front (via (λ xs. x ∷ xs) r) ≡ with_front (front ++ x ∷ []) r
  regroup front x None = refl
  regroup front x (Some y) = ap (λ (ys : List A). here ys y.1) (sym (append_assoc front (x ∷ []) y.0))

module _ {A : Type 0} (c : Codec A) (front : List A) (count i : ℕ) (bytes : List ℕ) (x : A) (after : List ℕ) (total : Found (List A)) where
  -- one more of so many items
  pub goes_on : i < count → c.read bytes ≡ here x after → with_front front (read_items c (count - i) bytes) ≡ total
      → with_front (front ++ x ∷ []) (read_items c (count - (i + 1)) after) ≡ total
  goes_on lt h so_far =
      let k : count - i ≡ suc (count - (i + 1)) = omega arith in
      let one : with_front front (read_items c (count - i) bytes) ≡ with_front (front ++ x ∷ []) (read_items c (count - (i + 1)) after) =
      rw (k, h) (regroup front x (read_items c (count - (i + 1)) after)) in
      sym one ∙ so_far

  -- one more item behind a byte 1
  pub marked_on : (b : ℕ) (rest : List ℕ) → i < count → first_of bytes ≡ here b rest → b ≡ 1 → c.read rest ≡ here x after
      → with_front front (read_marked c (count - i) bytes) ≡ total
      → with_front (front ++ x ∷ []) (read_marked c (count - (i + 1)) after) ≡ total
  marked_on b rest lt first one_is h so_far =
      let k : count - i ≡ suc (count - (i + 1)) = omega arith in
      let begun : bytes ≡ 1 ∷ rest = first_is bytes b rest first ∙ ap (λ (y : ℕ). y ∷ rest) one_is in
      let one : with_front front (read_marked c (count - i) bytes) ≡ with_front (front ++ x ∷ []) (read_marked c (count - (i + 1)) after) =
      rw (k, begun, h) (regroup front x (read_marked c (count - (i + 1)) after)) in
      sym one ∙ so_far
