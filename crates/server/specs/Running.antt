-- What a program leaves on its output, and the status that it ends with.
use Rattle.std.specs.Prelude.{◌≡◌, ◌⊎◌, ℕ, List, Option}
use Rattle.session_port.specs.Record.{added}

-- a text was written as one turn; or nothing was, since the sink failed, or since memory ran out
abbrev pub Prints : List ℕ → Option (List (List ℕ)) → Option (List (List ℕ)) → Type 0 → ℕ → Type 0
Prints text old new SinkFailed status =
    ((status ≡ 0) × (new ≡ added old text)) ⊎ (((status ≡ 7) × (new ≡ old) × SinkFailed) ⊎ ((status ≡ 9) × (new ≡ old)))
