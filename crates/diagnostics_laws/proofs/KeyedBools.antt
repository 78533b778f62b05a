-- Truths of conjunctions, and choices by a truth.
use Rattle.std.proofs.Common.{◌≡◌, Bool, true, false, refl, sym}
use Rattle.std.specs.Prelude.{◌&&◌, None, Some}
use Rattle.std.proofs.lemmas.Bool.{true≢false}

pub true-false : {P : Type 0} → true ≡ false → P
true-false e = absurd (true≢false e)

pub and-left : (a b : Bool) → (a && b) ≡ true → a ≡ true
and-left true b h = refl
and-left false b h = true-false (sym h)

pub and-right : (a b : Bool) → (a && b) ≡ true → b ≡ true
and-right true b h = h
and-right false b h = true-false (sym h)

pub and-both : (a b : Bool) → a ≡ true → b ≡ true → (a && b) ≡ true
and-both true true p q = refl
and-both true false p q = q
and-both false b p q = p

pub by-cases : {P : Type 0} (b : Bool) → (b ≡ true → P) → (b ≡ false → P) → P
by-cases true here there = here refl
by-cases false here there = there refl

pub some-is : {X : Type 0} (x y : X) → Some x ≡ Some y → x ≡ y
some-is x y e = cc

pub none-some : {X P : Type 0} (x : X) → None ≡ Some x → P
none-some x e = absurd cc
