-- A key is what `trim_ascii_start` and `trim_ascii_end` leave of a name.
use Rattle.std.proofs.Common.{◌≡◌, ℕ, ◌-◌, ◌∙◌, List, length, ap, arith}
use Rattle.std.specs.Char.{is_ascii_whitespace}
use Rattle.std.specs.Str.{IsTrimAsciiStart, IsTrimAsciiEnd}
use Rattle.std.proofs.lemmas.List.{length-drop}
use Rattle.std.proofs.lemmas.List.Sums.{prefix_len-le-length}
use Rattle.std.proofs.lemmas.Str.Ascii.{trim_ascii_start_is, trim_ascii_end_is}
use Rattle.ini_server.specs.Ini.{indent, trimmed, trimmed_end}

pub key_is : (name rest key : List ℕ) → IsTrimAsciiStart name rest → IsTrimAsciiEnd rest key → key ≡ trimmed name
key_is name rest key start end = trim_ascii_end_is rest key end ∙ ap trimmed_end (trim_ascii_start_is name rest start)

pub start_is : (name rest : List ℕ) → IsTrimAsciiStart name rest → length name - length rest ≡ indent name
start_is name rest start =
    omega (arith, ap length (trim_ascii_start_is name rest start), length-drop (indent name) name, prefix_len-le-length is_ascii_whitespace name)
