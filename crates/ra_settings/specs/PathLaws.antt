-- Which texts name no path, whatever stands before them.
use Rattle.std.specs.Prelude.{◌≡◌, ℕ, Bool, true, false, ◌==◌, List, [], ◌∷◌, length, None, if◌then◌else◌}
use Rattle.std.specs.List.{list_any}
use Rattle.docs_vfs.specs.Paths.{is_slash, parts}
use Rattle.ra_settings.specs.Paths.{resolve}

-- what stands between the slashes of a text, without the slash with which it begins
abbrev pub segments : List ℕ → List (List ℕ)
segments [] = [] ∷ []
segments (b ∷ rest) = if is_slash b then parts rest else parts (b ∷ rest)

abbrev pub is_empty : List ℕ → Bool
is_empty segment = length segment == 0

-- a text with an empty segment, other than `/` itself, names no path from any base
abbrev pub EmptySegmentsRefused : Type 0
EmptySegmentsRefused = (base : List ℕ) (b c : ℕ) (text : List ℕ) → list_any is_empty (segments (b ∷ c ∷ text)) ≡ true → resolve base (b ∷ c ∷ text) ≡ None

-- nor does a text without a byte
abbrev pub NothingRefused : Type 0
NothingRefused = (base : List ℕ) → resolve base [] ≡ None
