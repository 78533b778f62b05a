-- Lists behind their length.
use Rattle.std.specs.Prelude.{◌≡◌, ℕ, zero, suc, ◌^◌, List, [], ◌∷◌, ◌++◌, length, Bool, true, ◌&&◌, nat_lt, ◌<◌, None}
use Rattle.std.specs.Prelude.{Some, refl}
use Rattle.std.specs.Int.{w32, to_le_bytes}
use Rattle.std.proofs.Common.{sym, ap, subst, ◌∙◌, append_assoc, arith, length-append}
use Rattle.record_codec.specs.Front.{IsBytes, IsBytes-rest, none_is, Splits, Splits-then, Found, then_read, then_some}
use Rattle.record_codec.specs.Front.{via, via_some, some_is, and_left, and_right, and_both}
use Rattle.record_codec.specs.Codec.{Codec}
use Rattle.record_codec.specs.Numbers.{read_number, number_round_trip, number_canonical, wide32}

module _ {A : Type 0} (c : Codec A) where
  -- each item's spelling, one after another
  abbrev pub spell_items : List A → List ℕ
  spell_items [] = []
  spell_items (x ∷ xs) = c.spelling x ++ spell_items xs

  abbrev pub items_fit : List A → Bool
  items_fit [] = true
  items_fit (x ∷ xs) = c.fits x && items_fit xs

  -- so many items
  abbrev pub read_items : ℕ → List ℕ → Found (List A)
  read_items zero bytes = Some ([], bytes)
  read_items (suc n) bytes = then_read (c.read bytes) (λ x rest. via (λ xs. x ∷ xs) (read_items n rest))

  items_round_trip : (xs : List A) (rest : List ℕ) → items_fit xs ≡ true
      → read_items (length xs) (spell_items xs ++ rest) ≡ Some (xs, rest)
  items_round_trip [] rest fits = refl
  items_round_trip (x ∷ xs) rest fits =
      let first = c.round_trip x (spell_items xs ++ rest) (and_left _ _ fits) in
      let others = items_round_trip xs rest (and_right (c.fits x) (items_fit xs) fits) in
      ap (read_items (suc (length xs))) (append_assoc (c.spelling x) (spell_items xs) rest) ∙ rw (first, others) refl

  items_canonical : (n : ℕ) (bytes : List ℕ) (xs : List A) (rest : List ℕ) → IsBytes bytes
      → read_items n bytes ≡ Some (xs, rest) → Splits bytes (spell_items xs) rest
      × ((length xs ≡ n) × (items_fit xs ≡ true))
  items_canonical zero bytes xs rest fits e =
      subst (λ (y : List A × List ℕ). Splits bytes (spell_items y.0) y.1 × ((length y.0 ≡ 0) × (items_fit y.0 ≡ true)))
      (some_is ([], bytes) (xs, rest) e)
      (record { parts = refl; rest_fits = fits }, (refl, refl))
  items_canonical (suc n) bytes xs rest fits e =
      let a = then_some (c.read bytes) (λ x rest. via (λ xs. x ∷ xs) (read_items n rest)) (xs, rest) e in
      let b = via_some (λ xs. a.0.0 ∷ xs) (read_items n a.0.1) (xs, rest) a.1.1 in
      let first = c.canonical bytes a.0.0 a.0.1 fits a.1.0 in
      let others = items_canonical n a.0.1 b.0.0 b.0.1 first.0.rest_fits b.1.0 in
      subst (λ (y : List A × List ℕ). Splits bytes (spell_items y.0) y.1
      × ((length y.0 ≡ suc n) × (items_fit y.0 ≡ true))) b.1.1 (
        Splits-then bytes (c.spelling a.0.0) a.0.1 (spell_items b.0.0) b.0.1 first.0 others.0,
        (ap suc others.1.0, and_both _ _ first.1 others.1.1),
      )

  abbrev pub read_list : List ℕ → Found (List A)
  read_list bytes = then_read (read_number w32 bytes) read_items

  pub list_round_trip : (xs : List A) (rest : List ℕ) → (nat_lt (length xs) (2 ^ 32) && items_fit xs) ≡ true
      → read_list ((to_le_bytes w32 (length xs) ++ spell_items xs) ++ rest) ≡ Some (xs, rest)
  list_round_trip xs rest fits =
      ap read_list (append_assoc (to_le_bytes w32 (length xs)) (spell_items xs) rest)
      ∙ ap (λ (r : Found ℕ). then_read r read_items)
      (number_round_trip w32 (2 ^ 32) wide32 (length xs) (spell_items xs ++ rest) (and_left _ _ fits))
      ∙ items_round_trip xs rest (and_right (nat_lt (length xs) (2 ^ 32)) (items_fit xs) fits)

  pub list_canonical : (bytes : List ℕ) (xs : List A) (rest : List ℕ) → IsBytes bytes
      → read_list bytes ≡ Some (xs, rest) → Splits bytes (to_le_bytes w32 (length xs) ++ spell_items xs) rest
      × ((nat_lt (length xs) (2 ^ 32) && items_fit xs) ≡ true)
  list_canonical bytes xs rest fits e =
      let a = then_some (read_number w32 bytes) read_items (xs, rest) e in
      let t = number_canonical w32 (2 ^ 32) wide32 bytes a.0.0 a.0.1 fits a.1.0 in
      let items = items_canonical a.0.0 a.0.1 xs rest t.0.rest_fits a.1.1 in
      let both = Splits-then bytes (to_le_bytes w32 a.0.0) a.0.1 (spell_items xs) rest t.0 items.0 in
      subst (λ (k : ℕ). Splits bytes (to_le_bytes w32 k ++ spell_items xs) rest
      × ((nat_lt k (2 ^ 32) && items_fit xs) ≡ true)) (sym items.1.0)
      (both, and_both _ _ t.1 items.1.1)

  unfoldable pub list_of : Codec (List A)
  list_of = record {
    spelling = λ xs. to_le_bytes w32 (length xs) ++ spell_items xs;
    fits = λ xs. nat_lt (length xs) (2 ^ 32) && items_fit xs;
    read = read_list;
    round_trip = list_round_trip;
    canonical = list_canonical;
  }

  -- ---- each item behind a byte 1, and last a byte 0

  abbrev pub spell_marked : List A → List ℕ
  spell_marked [] = 0 ∷ []
  spell_marked (x ∷ xs) = 1 ∷ (c.spelling x ++ spell_marked xs)

  -- in at most so many steps
  abbrev pub read_marked : ℕ → List ℕ → Found (List A)
  read_marked zero bytes = None
  read_marked (suc n) [] = None
  read_marked (suc n) (zero ∷ bytes) = Some ([], bytes)
  read_marked (suc n) (suc zero ∷ bytes) = then_read (c.read bytes) (λ x rest. via (λ xs. x ∷ xs) (read_marked n rest))
  read_marked (suc n) (suc (suc b) ∷ bytes) = None

  marked_round_trip_in : (n : ℕ) (xs : List A) (rest : List ℕ) → length xs < n → items_fit xs ≡ true
      → read_marked n (spell_marked xs ++ rest) ≡ Some (xs, rest)
  marked_round_trip_in zero xs rest lt fits = absurd (omega arith)
  marked_round_trip_in (suc n) [] rest lt fits = refl
  marked_round_trip_in (suc n) (x ∷ xs) rest lt fits =
      let first = c.round_trip x (spell_marked xs ++ rest) (and_left _ _ fits) in
      let others = marked_round_trip_in n xs rest (omega arith) (and_right (c.fits x) (items_fit xs) fits) in
      ap (λ (t : List ℕ). read_marked (suc n) (1 ∷ t)) (append_assoc (c.spelling x) (spell_marked xs) rest)
      ∙ rw (first, others) refl

  marked_long : (xs : List A) → length xs < length (spell_marked xs)
  marked_long [] = omega arith
  marked_long (x ∷ xs) = omega (arith, marked_long xs, length-append (c.spelling x) (spell_marked xs))

  pub marked_round_trip : (xs : List A) (rest : List ℕ) → items_fit xs ≡ true
      → read_marked (length (spell_marked xs ++ rest)) (spell_marked xs ++ rest) ≡ Some (xs, rest)
  marked_round_trip xs rest fits = marked_round_trip_in (length (spell_marked xs ++ rest)) xs rest
      (omega (arith, marked_long xs, length-append (spell_marked xs) rest)) fits

  marked_canonical_in : (n : ℕ) (bytes : List ℕ) (xs : List A) (rest : List ℕ) → IsBytes bytes
      → read_marked n bytes ≡ Some (xs, rest) → Splits bytes (spell_marked xs) rest × (items_fit xs ≡ true)
  marked_canonical_in zero bytes xs rest fits e = absurd (none_is (xs, rest) e)
  marked_canonical_in (suc n) [] xs rest fits e = absurd (none_is (xs, rest) e)
  marked_canonical_in (suc n) (zero ∷ bytes) xs rest fits e =
      subst (λ (y : List A × List ℕ). Splits (0 ∷ bytes) (spell_marked y.0) y.1 × (items_fit y.0 ≡ true))
      (some_is ([], bytes) (xs, rest) e)
      (record { parts = refl; rest_fits = IsBytes-rest 0 bytes fits }, refl)
  marked_canonical_in (suc n) (suc zero ∷ bytes) xs rest fits e =
      let a = then_some (c.read bytes) (λ x rest. via (λ xs. x ∷ xs) (read_marked n rest)) (xs, rest) e in
      let b = via_some (λ xs. a.0.0 ∷ xs) (read_marked n a.0.1) (xs, rest) a.1.1 in
      let first = c.canonical bytes a.0.0 a.0.1 (IsBytes-rest 1 bytes fits) a.1.0 in
      let others = marked_canonical_in n a.0.1 b.0.0 b.0.1 first.0.rest_fits b.1.0 in
      let both = Splits-then bytes (c.spelling a.0.0) a.0.1 (spell_marked b.0.0) b.0.1 first.0 others.0 in
      let taken : Splits (1 ∷ bytes) (spell_marked (a.0.0 ∷ b.0.0)) b.0.1 =
      record { parts = ap (λ (t : List ℕ). 1 ∷ t) both.parts; rest_fits = both.rest_fits } in
      subst (λ (y : List A × List ℕ). Splits (1 ∷ bytes) (spell_marked y.0) y.1 × (items_fit y.0 ≡ true)) b.1.1
      (taken, and_both _ _ first.1 others.1)
  marked_canonical_in (suc n) (suc (suc b) ∷ bytes) xs rest fits e = absurd (none_is (xs, rest) e)

  pub marked_canonical : (bytes : List ℕ) (xs : List A) (rest : List ℕ) → IsBytes bytes
      → read_marked (length bytes) bytes ≡ Some (xs, rest) → Splits bytes (spell_marked xs) rest × (items_fit xs ≡ true)
  marked_canonical bytes xs rest fits e = marked_canonical_in (length bytes) bytes xs rest fits e

  abbrev pub marked : Codec (List A)
  marked = record {
    spelling = spell_marked;
    fits = items_fit;
    read = λ bytes. read_marked (length bytes) bytes;
    round_trip = marked_round_trip;
    canonical = marked_canonical;
  }
