use Rattle.std.proofs.Common.{◌≡◌, ◌-◌, ◌≤◌, length, take}
use Rattle.std.specs.Str.Parse.{AllDigits, digits_value}
use Rattle.lsp_frame.proofs.cutting.front_digits.Given as goal

abbrev pub invariant-digits : goal.invariant-digits
invariant-digits l = record {
  within : l.count ≤ length l.bytes;
  ten : l.count ≤ 10;
  all : AllDigits 10 (take l.count l.bytes);
  value : l.value ≡ digits_value 10 (take l.count l.bytes);
}

abbrev pub decreases-digits : goal.decreases-digits
decreases-digits l = length l.bytes - l.count
