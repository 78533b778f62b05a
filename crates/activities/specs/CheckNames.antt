-- Under what a check is told: its command, its title and its token; and which check a token is of.
use Rattle.std.specs.Prelude.{ℕ, ◌+◌, ◌^◌, ◌==◌, ◌&&◌, Bool, true, ltb, List, [], ◌∷◌, ◌++◌, length, codes, Option}
use Rattle.std.specs.Prelude.{None, Some}
use Rattle.std.specs.Prelude.{if◌then◌else◌, option_and_then}
use Rattle.std.specs.Fmt.{decimal}
use Rattle.std.specs.Char.{digit_value}
use Rattle.std.specs.Str.Parse.{digits_value, without_leading_plus}
use Rattle.ra_config.specs.Config.{ConfigData}
use Rattle.activities.specs.Settings.{words_set, cargo_command}

-- ---- the command

-- the words behind a first one, each behind a space
abbrev pub spaced : List (List ℕ) → List ℕ
spaced [] = []
spaced (word ∷ words) = (32 ∷ word) ++ spaced words

-- words with a space between each two
abbrev pub joined : List (List ℕ) → List ℕ
joined [] = []
joined (word ∷ words) = word ++ spaced words

abbrev pub command_by : Option (List (List ℕ)) → List ℕ → List ℕ
command_by (Some words) command = joined words
command_by None command = codes "cargo " ++ command

-- the command that the settings give a check: the words of `check.overrideCommand`, else that of cargo
abbrev pub command_set : ConfigData → List ℕ
command_set settings = command_by (words_set settings) (cargo_command settings)

-- ---- the title

-- a command of a check, by how many checks are set: with the check's place, counted from 1, unless there is one alone
abbrev pub title_by : ℕ → ℕ → List ℕ → List ℕ
title_by count id command =
    if count == 1 then command else command ++ (codes " (#" ++ (decimal (id + 1) ++ codes ")"))

-- ---- the token

abbrev pub token_front : List ℕ
token_front = codes "rust-analyzer/flycheck/"

abbrev pub token_of : ℕ → List ℕ
token_of id = token_front ++ decimal id

-- what stands behind this front, where the text has it
abbrev pub behind : List ℕ → List ℕ → Option (List ℕ)
behind [] text = Some text
behind (code ∷ front) [] = None
behind (code ∷ front) (first ∷ text) = if code == first then behind front text else None

abbrev pub are_digits : List ℕ → Bool
are_digits [] = true
are_digits (code ∷ text) = ltb (digit_value code) 10 && are_digits text

-- one digit or more, and nothing else
abbrev pub is_numeral : List ℕ → Bool
is_numeral text = ltb 0 (length text) && are_digits text

-- the number that digits spell, where it is below a limit
abbrev pub number_below : ℕ → List ℕ → Option ℕ
number_below limit digits =
    if is_numeral digits && ltb (digits_value 10 digits) limit then Some (digits_value 10 digits) else None

-- the number of 32 bits that a text spells: digits, behind a plus or not
abbrev pub number_in : List ℕ → Option ℕ
number_in text = number_below (2 ^ 32) (without_leading_plus text)

-- the id in a token of a check
abbrev pub id_in : List ℕ → Option ℕ
id_in token = option_and_then number_in (behind token_front token)
