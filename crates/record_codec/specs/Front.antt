-- A front of bytes, and what stands behind it.
use Rattle.std.specs.Prelude.{◌≡◌, ℕ, suc, ◌+◌, ◌<◌, List, ◌∷◌, ◌++◌, get_or, take, drop, Bool, true, false, ◌&&◌, cond}
use Rattle.std.specs.Prelude.{Option, Some, None, ◌⊎◌, refl}
use Rattle.std.proofs.Common.{sym, ap, ◌∙◌, append_assoc, arith, inl, inr}
use Rattle.std.proofs.lemmas.Bool.{cases_lt}
use Rattle.std.proofs.lemmas.List.{length-take, get_or-drop, get_or-take, get_or_past}

-- numbers that are bytes
abbrev pub IsBytes : List ℕ → Type 0
IsBytes bytes = (i : ℕ) → get_or bytes i 0 < 256

-- bytes are a text and a rest
pub record Splits (bytes text rest : List ℕ) : Type 0 where
  pub parts : bytes ≡ text ++ rest
  pub rest_fits : IsBytes rest

pub Splits-then : (a x b y c : List ℕ) → Splits a x b → Splits b y c → Splits a (x ++ y) c
Splits-then a x b y c p q = record {
  parts = p.parts ∙ ap (λ (t : List ℕ). x ++ t) q.parts
      ∙ sym (append_assoc x y c);
  rest_fits = q.rest_fits;
}

pub IsBytes-drop : (n : ℕ) (bytes : List ℕ) → IsBytes bytes → IsBytes (drop n bytes)
IsBytes-drop n bytes h i = rw get_or-drop (h (n + i))

pub IsBytes-take : (n : ℕ) (bytes : List ℕ) → IsBytes bytes → IsBytes (take n bytes)
IsBytes-take n bytes h i =
    elim (cases_lt i n) [
      | inl lt ↦ rw (get_or-take n bytes i 0 lt) (h i)
      | inr le ↦ rw (get_or_past (take n bytes) i 0 (omega (arith, length-take n bytes))) (omega arith)
    ]

pub IsBytes-rest : (b : ℕ) (bytes : List ℕ) → IsBytes (b ∷ bytes) → IsBytes bytes
IsBytes-rest b bytes h i = h (suc i)

-- a value that was read, and the bytes behind it
abbrev pub Found : Type 0 → Type 0
Found A = Option (A × List ℕ)

-- what is read next, once there is a value
abbrev pub then_read : {A B : Type 0} → Found A → (A → List ℕ → Found B) → Found B
then_read None next = None
then_read (Some x) next = next x.0 x.1

pub then_some : {A B : Type 0} (r : Found A) (next : A → List ℕ → Found B) (y : B × List ℕ) → then_read r next ≡ Some y
    → (x : A × List ℕ) × ((r ≡ Some x) × (next x.0 x.1 ≡ Some y))
then_some None next y e = absurd cc
then_some (Some x) next y e = (x, (refl, e))

abbrev pub here : {A : Type 0} → A → List ℕ → Found A
here x rest = Some (x, rest)

-- a value that was read, by another name
abbrev pub via : {A B : Type 0} → (A → B) → Found A → Found B
via f None = None
via f (Some x) = Some (f x.0, x.1)

pub via_some : {A B : Type 0} (f : A → B) (r : Found A) (y : B × List ℕ) → via f r ≡ Some y → (x : A × List ℕ)
    × ((r ≡ Some x) × ((f x.0, x.1) ≡ y))
via_some f None y e = absurd cc
via_some f (Some x) y e = (x, (refl, cc))

pub some_is : {A : Type 0} (x y : A) → Some x ≡ Some y → x ≡ y
some_is x y e = cc

pub none_is : {A : Type 0} (x : A) → None ≡ Some x → ⊥
none_is x e = cc

pub and_left : (a b : Bool) → a && b ≡ true → a ≡ true
and_left true b e = refl
and_left false b e = absurd cc

pub and_right : (a b : Bool) → a && b ≡ true → b ≡ true
and_right true b e = e
and_right false b e = absurd cc

pub and_both : (a b : Bool) → a ≡ true → b ≡ true → a && b ≡ true
and_both true b p q = q
and_both false b p q = absurd cc

-- a test that was met
pub met : {A : Type 0} (b : Bool) (x : A) (y : A) → cond b (Some x) None ≡ Some y → (b ≡ true) × (x ≡ y)
met true x y e = (refl, cc)
met false x y e = absurd cc

-- the same of a test before a reader
pub met_by : {A : Type 0} (b : Bool) (x : Option A) (y : A) → cond b x None ≡ Some y → (b ≡ true) × (x ≡ Some y)
met_by true x y e = (refl, e)
met_by false x y e = absurd cc

-- a choice whose first arm gives nothing
pub chosen : {A : Type 0} (b : Bool) (x z : Option A) (y : A) → cond b x z ≡ Some y → ((b ≡ true) × (x ≡ Some y))
    ⊎ ((b ≡ false) × (z ≡ Some y))
chosen true x z y e = inl (refl, e)
chosen false x z y e = inr (refl, e)
