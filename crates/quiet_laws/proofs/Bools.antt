-- Truths that differ, and choices by a truth.
use Rattle.std.proofs.Common.{◌≡◌, Bool, true, false, refl, sym}
use Rattle.std.specs.Prelude.{◌||◌, if◌then◌else◌}
use Rattle.std.proofs.lemmas.Bool.{true≢false}

pub true-false : {P : Type 0} → true ≡ false → P
true-false e = absurd (true≢false e)

pub or-left : (a b : Bool) → (a || b) ≡ false → a ≡ false
or-left true b h = true-false h
or-left false b h = refl

pub then-is : {X : Type 0} (b : Bool) (x y : X) → b ≡ true → (if b then x else y) ≡ x
then-is true x y h = refl
then-is false x y h = true-false (sym h)

pub else-is : {X : Type 0} (b : Bool) (x y : X) → b ≡ false → (if b then x else y) ≡ y
else-is true x y h = true-false h
else-is false x y h = refl

pub if-same : {X Y : Type 0} (f : X → Y) (b : Bool) (x y : X) → f x ≡ f y → f (if b then x else y) ≡ f y
if-same f true x y h = h
if-same f false x y h = refl
