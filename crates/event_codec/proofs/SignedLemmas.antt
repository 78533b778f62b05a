-- Numbers of 32 bits with a sign.
use Rattle.std.proofs.Common.{◌≡◌, ℤ, true}
use Rattle.std.specs.Int.{w32}
use Rattle.std.specs.Int.RustNames.{FitsSigned}
use Rattle.std.specs.Cmp.{signed_Decides}
use Rattle.std.proofs.lemmas.Bool.{lt-ltb}
use Rattle.std.proofs.lemmas.Int.{to_z-of_z}
use Rattle.std.proofs.Math.Facts.{Fits-of_z, Fits-lt-pow}
use Rattle.record_codec.specs.Front.{and_both}
use Rattle.record_codec.specs.Numbers.{is_signed32}

pub fits_signed32 : (z : ℤ) → FitsSigned w32 z → is_signed32 z ≡ true
fits_signed32 z h = and_both _ _ (lt-ltb _ _ (Fits-lt-pow (Fits-of_z h))) ((signed_Decides _ _).1 (to_z-of_z w32 z h))
