-- What the words of a command line are for.
use Rattle.std.specs.Prelude.{◌≡◌, ℕ, List, [], ◌∷◌, ◌⊎◌, codes, bytes_eq, if◌then◌else◌}
use Rattle.server.specs.declared.command_line.Purpose.{Purpose}
use Rattle.server.specs.declared.command_line.Purpose.TheVariants.{Help, Version, Explain, Serve, Unreadable}
use Rattle.server.specs.declared.command_line.Words.{Words}
use Rattle.server.specs.declared.command_line.Words.TheVariants.{Texts, NotText}

-- the words, where each is a text
abbrev pub texts_of : Words → List (List ℕ)
texts_of (Texts texts) = texts
texts_of NotText = []

-- `--help` alone, `--version` alone, `--explain` alone, else what the words are to the top call
abbrev pub purpose_of_texts : List (List ℕ) → Purpose
purpose_of_texts [] = Serve
purpose_of_texts (word ∷ []) = if bytes_eq word (codes "--help") then Help else if bytes_eq word (codes "--version")
    then Version else if bytes_eq word (codes "--explain") then Explain else Serve
purpose_of_texts (first ∷ second ∷ rest) = Serve

abbrev pub purpose_of : Words → Purpose
purpose_of (Texts texts) = purpose_of_texts texts
purpose_of NotText = Unreadable
