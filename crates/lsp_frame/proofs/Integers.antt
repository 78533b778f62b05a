-- An integer is written in decimal, and such a text reads as the integer.
use Rattle.std.proofs.Common.{◌≡◌, ℤ, pos, negsuc, FitsSigned, w32, option_map, refl, ap, arith}
use Rattle.std.specs.Fmt.{signed_decimal}
use Rattle.std.proofs.lemmas.Fmt.{IsAscii-signed}
use Rattle.std.proofs.lemmas.Str.{IsUtf8-from_ascii}
use Rattle.json.proofs.Printed.Decimals.{IsNumber-signed_decimal}
use Rattle.serde_json.specs.Data.{number}
use Rattle.serde_json.specs.Find.{of_integer}
use Rattle.serde_json.specs.Written.{compact_text}
use Rattle.serde_json.proofs.Numbers.{number_of-decimal, number_of-negative}
use Rattle.lsp_frame.specs.Exact.{IsExact}

pub integer_text : (z : ℤ) → signed_decimal z ≡ compact_text (number (of_integer z))
integer_text (pos n) = refl
integer_text (negsuc n) = refl

pub integer_exact : (z : ℤ) → FitsSigned w32 z → IsExact (number (of_integer z))
integer_exact (pos n) fits = record {
  numbers = IsNumber-signed_decimal (pos n) (omega (arith, fits.sfits));
  reads = ap (option_map number) (number_of-decimal n (omega (arith, fits.sfits)));
  utf8 = IsUtf8-from_ascii (signed_decimal (pos n)) (IsAscii-signed (pos n) (omega (arith, fits.sfits)));
}
integer_exact (negsuc n) fits = record {
  numbers = IsNumber-signed_decimal (negsuc n) (omega (arith, fits.sfits));
  reads = ap (option_map number) (number_of-negative n (omega (arith, fits.sfits)));
  utf8 = IsUtf8-from_ascii (signed_decimal (negsuc n)) (IsAscii-signed (negsuc n) (omega (arith, fits.sfits)));
}
