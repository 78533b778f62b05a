-- What a program's words ask for.
use Rattle.std.specs.Prelude.{ℕ, ◌^◌, ◌&&◌, Bool, true, false, ltb, List, [], ◌∷◌, length, codes, Option, None, Some}
use Rattle.std.specs.Prelude.{if◌then◌else◌}
use Rattle.std.specs.Char.{digit_value}
use Rattle.std.specs.Str.Parse.{digits_value, without_leading_plus}
use Rattle.session.specs.Texts.{same_text}
use Rattle.server.specs.declared.words.Asked.{Asked}
use Rattle.server.specs.declared.words.Asked.TheVariants.{Session, Lsp, Record as RecordWord, Replay as ReplayWord}
use Rattle.server.specs.declared.words.Asked.TheVariants.{Generate, Unknown}

-- what one word asks for
abbrev pub asked_by_word : List ℕ → Asked
asked_by_word word = if same_text word (codes "session") then Session else if same_text word (codes "lsp") then Lsp
    else if same_text word (codes "record") then RecordWord else if same_text word (codes "replay") then ReplayWord
    else Unknown

-- ---- a word and a number

-- how many documents a session is generated over, at most
abbrev pub most_documents : ℕ
most_documents = 20000

-- the first character is a digit other than 0
abbrev pub begins_above_zero : List ℕ → Bool
begins_above_zero [] = false
begins_above_zero (first ∷ rest) = ltb 48 first && ltb first 58

abbrev pub are_digits : List ℕ → Bool
are_digits [] = true
are_digits (digit ∷ digits) = ltb (digit_value digit) 10 && are_digits digits

-- the number that digits write, at least one, where it is below a limit
abbrev pub number_below : ℕ → List ℕ → Option ℕ
number_below limit digits =
    if (ltb 0 (length digits) && are_digits digits) && ltb (digits_value 10 digits) limit then Some (digits_value 10 digits)
    else None

-- the number of 16 bits that a text spells
abbrev pub number_in : List ℕ → Option ℕ
number_in text = number_below (2 ^ 16) (without_leading_plus text)

-- a number up to this one
abbrev pub up_to : ℕ → Option ℕ → Option ℕ
up_to most None = None
up_to most (Some number) = if ltb most number then None else Some number

-- how many documents a text asks for: a decimal number from 1 on, without a zero in front
abbrev pub count_in : List ℕ → Option ℕ
count_in text = if begins_above_zero text then up_to most_documents (number_in text) else None

abbrev pub generates : Option ℕ → Asked
generates None = Unknown
generates (Some count) = Generate count

abbrev pub asked_by_two : List ℕ → List ℕ → Asked
asked_by_two word number = if same_text word (codes "generate") then generates (count_in number) else Unknown

-- ---- all words

-- what words ask for
abbrev pub asked_by : List (List ℕ) → Asked
asked_by [] = Unknown
asked_by (word ∷ []) = asked_by_word word
asked_by (word ∷ number ∷ []) = asked_by_two word number
asked_by (word ∷ other ∷ another ∷ words) = Unknown
