-- Chains of ranges.
use Rattle.std.proofs.Common.{◌≡◌, ℕ, zero, suc, ◌+◌, ◌-◌, ◌<◌, ◌≤◌, true, false, ◌&&◌, List, [], ◌∷◌, length, drop, get_or, refl, ap, sym, ◌∙◌, arith, inl, inr, is_lt, nat_cmp}
use Rattle.std.specs.Prelude.{◌⊎◌}
use Rattle.std.specs.declared.cmp.Ordering.{Ordering}
use Rattle.std.specs.declared.cmp.Ordering.TheVariants.{Less, Equal, Greater}
use Rattle.std.specs.Ordering.{ordering_then}
use Rattle.std.proofs.lemmas.Bool.{cases_lt, cond-true, cond-false, lt-ltb, le-ltb, eq-eqb, false≢true}
use Rattle.std.proofs.lemmas.Bool.Decides.{nat_tests}
use Rattle.std.proofs.lemmas.List.{length-drop, drop_more}
use Rattle.text_core.specs.declared.position.Range.{Range}
use Rattle.text_core.specs.Edits.{at_most, in_order, ends_before, is_chain, is_sorted}

abbrev pub no_range : Range
no_range = record { start = record { line = 0; character = 0 }; end = record { line = 0; character = 0 } }

-- one range of a chain
pub chain_step : (xs : List Range) (i : ℕ) (d : Range) → 1 ≤ i → i < length xs → is_chain (drop (i - 1) xs) ≡ (at_most (get_or xs (i - 1) d).end (get_or xs i d).start && is_chain (drop i xs))
chain_step xs i d some here =
    let back : i - 1 + 1 ≡ i = omega arith in
    let first : drop (i - 1) xs ≡ get_or xs (i - 1) d ∷ drop i xs = drop_more xs (i - 1) d (omega arith) ∙ ap (λ n. get_or xs (i - 1) d ∷ drop n xs) back in
    ap is_chain first ∙ ap (λ b. b && is_chain (drop i xs)) (ap (ends_before (get_or xs (i - 1) d)) (drop_more xs i d here))

chain_short : (xs : List Range) → length xs ≤ 1 → is_chain xs ≡ true
chain_short [] h = refl
chain_short (a ∷ []) h = refl
chain_short (a ∷ b ∷ rest) h = absurd (omega arith)

pub chain_last : (xs : List Range) (i : ℕ) → 1 ≤ i → length xs ≤ i → is_chain (drop (i - 1) xs) ≡ true
chain_last xs (suc i) some end = chain_short (drop (suc i - 1) xs) (omega (arith, length-drop (suc i - 1) xs))
chain_last xs zero some end = absurd (omega arith)

-- what a comparison of keys says
cmp_less : (x y : ℕ) → x < y → nat_cmp x y ≡ Less
cmp_less x y h = cond-true _ _ _ (lt-ltb _ _ h)

cmp_equal : (x y : ℕ) → x ≡ y → nat_cmp x y ≡ Equal
cmp_equal x y h = cond-false _ _ _ (le-ltb x y (omega arith)) ∙ cond-true _ _ _ (eq-eqb _ _ h)

not_less : (x y : ℕ) (o : Ordering) → is_lt (ordering_then (nat_cmp x y) o) ≡ false → (y < x) ⊎ ((x ≡ y) × (is_lt o ≡ false))
not_less x y o h =
    elim (cases_lt x y) [
      | inl lt ↦ absurd (false≢true (sym h ∙ ap (λ c. is_lt (ordering_then c o)) (cmp_less x y lt)))
      | inr ge ↦
          elim (cases_lt y x) [
            | inl gt ↦ inl gt
            | inr le ↦
                let same : x ≡ y = omega arith in
                inr (same, sym (ap (λ c. is_lt (ordering_then c o)) (cmp_equal x y same)) ∙ h)
          ]
    ]

at_least : (x y : ℕ) → is_lt (nat_cmp x y) ≡ false → y ≤ x
at_least x y h =
    elim (cases_lt x y) [
      | inl lt ↦ absurd (false≢true (sym h ∙ ap is_lt (cmp_less x y lt)))
      | inr ge ↦ ge
    ]

then_assoc : (p q r : Ordering) → ordering_then (ordering_then p q) r ≡ ordering_then p (ordering_then q r)
then_assoc Less q r = refl
then_assoc Equal q r = refl
then_assoc Greater q r = refl

order_line : (a b : Range) → a.start.line < b.start.line → in_order a b ≡ true
order_line a b h = grind (arith, nat_tests)

order_character : (a b : Range) → a.start.line ≡ b.start.line → a.start.character < b.start.character → in_order a b ≡ true
order_character a b h g = grind (arith, nat_tests)

order_end : (a b : Range) → a.start.line ≡ b.start.line → a.start.character ≡ b.start.character → at_most a.end b.end ≡ true → in_order a b ≡ true
order_end a b h g e = grind (arith, nat_tests, e)

end_line : (a b : Range) → a.end.line < b.end.line → at_most a.end b.end ≡ true
end_line a b h = grind (arith, nat_tests)

end_character : (a b : Range) → a.end.line ≡ b.end.line → a.end.character ≤ b.end.character → at_most a.end b.end ≡ true
end_character a b h g = grind (arith, nat_tests)

ends_order : (a b : Range) → is_lt (ordering_then (nat_cmp b.end.line a.end.line) (nat_cmp b.end.character a.end.character)) ≡ false → at_most a.end b.end ≡ true
ends_order a b h =
    elim (not_less b.end.line a.end.line _ h) [
      | inl line ↦ end_line a b line
      | inr same ↦ end_character a b (sym same.0) (at_least b.end.character a.end.character same.1)
    ]

-- ranges that a sort leaves side by side
pub order_of : (a b : Range)
    → is_lt (ordering_then (ordering_then (nat_cmp b.start.line a.start.line) (nat_cmp b.start.character a.start.character))
    (ordering_then (nat_cmp b.end.line a.end.line) (nat_cmp b.end.character a.end.character))) ≡ false
    → in_order a b ≡ true
order_of a b h =
    let ends = ordering_then (nat_cmp b.end.line a.end.line) (nat_cmp b.end.character a.end.character) in
    let flat = sym (ap is_lt (then_assoc (nat_cmp b.start.line a.start.line) (nat_cmp b.start.character a.start.character) ends)) ∙ h in
    elim (not_less b.start.line a.start.line _ flat) [
      | inl line ↦ order_line a b line
      | inr same ↦ elim (not_less b.start.character a.start.character _ same.1) [
        | inl character ↦ order_character a b (sym same.0) character
        | inr here ↦ order_end a b (sym same.0) (sym here.0) (ends_order a b here.1)
      ]
    ]

later_order : (a : Range) (xs : List Range) (k : ℕ) (d : Range) → in_order (get_or (a ∷ xs) (suc k) d) (get_or (a ∷ xs) (suc k + 1) d) ≡ true → in_order (get_or xs k d) (get_or xs (k + 1) d) ≡ true
later_order a xs k d h =
    let next : suc (k + 1) ≡ suc k + 1 = omega arith in
    ap (λ n. in_order (get_or xs k d) (get_or (a ∷ xs) n d)) next ∙ h

pub sorted_from : (xs : List Range) → ((k : ℕ) (d : Range) → k + 1 < length xs → in_order (get_or xs k d) (get_or xs (k + 1) d) ≡ true) → is_sorted xs ≡ true
sorted_from [] h = refl
sorted_from (a ∷ []) h = refl
sorted_from (a ∷ b ∷ rest) h =
    let first : in_order a b ≡ true = h 0 a (omega arith) in
    ap (λ t. t && is_sorted (b ∷ rest)) first ∙ sorted_from (b ∷ rest) (λ k d lt. later_order a (b ∷ rest) k d (h (suc k) d (omega arith)))
