-- A tree whose sides differ by at most one level has many entries.
use Rattle.std.proofs.Common.{◌≡◌, ℕ, ◌+◌, ◌*◌, ◌^◌, ◌<◌, ◌≤◌, List, ◌∷◌, ◌++◌, length, inl, inr, arith, length-append}
use Rattle.std.specs.Prelude.{max}
use Rattle.std.proofs.Math.Nat.{mul-le-mul_left, mul-le-mul_right, add-mul, mul-add, mul_comm, pow-le-pow_right}
use Rattle.std.proofs.lemmas.Bool.{cases_lt}
use Rattle.std.proofs.lemmas.Nat.{pow-add, mul-le}
use Rattle.shared_map.specs.Trees.{IsDeep, DifferByAtMost}

square : (a b : ℕ) → (a + b) * (a + b) ≡ a * a + a * b + (a * b + b * b)
square a b = rw (add-mul a b (a + b), mul-add a a b, mul-add b a b, mul_comm b a)

low : (a b m : ℕ) → m ≤ a * a → m ≤ b * b → m ≤ a * b
low a b m p q =
    elim (cases_lt a b) [
      | inl h ↦ let e : a * a ≤ a * b = mul-le-mul_left a (omega arith) in omega arith
      | inr h ↦ let e : b * b ≤ a * b = mul-le-mul_right b h in omega arith
    ]

level : (a b m n : ℕ) → m ≤ a * a → m ≤ b * b → n ≡ m + m → n ≤ (a + b) * (a + b)
level a b m n p q e = omega (arith, square a b, low a b m p q)

lean : (a b m n : ℕ) → m + m ≤ a * a → m ≤ b * b → n ≡ m + m + (m + m) → n ≤ (a + b) * (a + b)
lean a b m n p q e = omega (arith, square a b, low a b m (omega arith) q)

twice : (h : ℕ) → 2 ^ (h + 1) ≡ 2 ^ h + 2 ^ h
twice h = let e : 2 ^ (h + 1) ≡ 2 ^ h * 2 = pow-add 2 h 1 in omega arith

by_level : (a b h : ℕ) → 2 ^ h ≤ a * a → 2 ^ h ≤ b * b → 2 ^ (h + 1) ≤ (a + b) * (a + b)
by_level a b h p q = level a b (2 ^ h) _ p q (twice h)

by_lean : (a b h : ℕ) → 2 ^ (h + 1) ≤ a * a → 2 ^ h ≤ b * b → 2 ^ (h + 1 + 1) ≤ (a + b) * (a + b)
by_lean a b h p q = lean a b (2 ^ h) _ (omega (arith, twice h)) q (omega (arith, twice h, twice (h + 1)))

turned : (a b n : ℕ) → n ≤ (b + a) * (b + a) → n ≤ (a + b) * (a + b)
turned a b n p = omega (arith, square a b, square b a, mul_comm a b)

sides : (a b g h n : ℕ) → 2 ^ g ≤ a * a → 2 ^ h ≤ b * b → g ≤ h + 1 → h ≤ g + 1 → n ≡ max g h + 1 → 2 ^ n ≤ (a + b) * (a + b)
sides a b g h n p q u v e =
    elim (cases_lt g h) [
      | inl s ↦ let is : h ≡ g + 1 = omega arith in let n_is : n ≡ g + 1 + 1 = omega arith in rw n_is (turned a b _ (by_lean b a g (rw is at q) p))
      | inr s ↦ elim (cases_lt h g) [
        | inl t ↦ let is : g ≡ h + 1 = omega arith in let n_is : n ≡ h + 1 + 1 = omega arith in rw n_is (by_lean a b h (rw is at p) q)
        | inr t ↦ let is : h ≡ g = omega arith in let n_is : n ≡ g + 1 = omega arith in rw n_is (by_level a b g p (rw is at q))
      ]
    ]

pub deep_node : {E : Type 0} (es fs : List E) (e : E) (g h n : ℕ) → IsDeep es g → IsDeep fs h → DifferByAtMost 1 g h → n ≡ max g h + 1 → IsDeep (es ++ e ∷ fs) n
deep_node es fs e g h n p q near is =
    let wide : length (es ++ e ∷ fs) + 1 ≡ length es + 1 + (length fs + 1) = omega (arith, length-append es (e ∷ fs)) in
    rw wide (sides (length es + 1) (length fs + 1) g h n p q near.0 near.1 is)

-- a map whose entries a number of 64 bits counts is not high
pub shallow : (n h : ℕ) → n < 18446744073709551615 → 2 ^ h ≤ (n + 1) * (n + 1) → h < 200
shallow n h fits deep =
    elim (cases_lt h 200) [
      | inl p ↦ p
      | inr p ↦
          let wide : 2 ^ 200 ≤ 2 ^ h = pow-le-pow_right {n = 2} (omega arith) p in
          let most : (n + 1) * (n + 1) ≤ 18446744073709551616 * 18446744073709551616 = mul-le (n + 1) (n + 1) 18446744073709551616 18446744073709551616 (omega arith) (omega arith) in
          absurd (omega arith)
    ]
