-- One text is written.
use Rattle.std.proofs.Common.{◌≡◌, ℕ, List}
use Rattle.std.specs.Prelude.{⊤, Option, Result, Ok, Err, IfErr}
use Rattle.session_port.specs.Record.{added, after_ok}
use Rattle.session_replay.specs.Recording.{IsWriteError}
use Rattle.session_replay.specs.declared.error.ReplayError.{ReplayError}
use Rattle.session_explain.specs.Explaining.{WritesText}

pub writes-text : (turns turns_now : Option (List (List ℕ))) (text : List ℕ) (SinkFailed : Type 0) (res : Result ⊤ ReplayError)
    → turns_now ≡ after_ok res (λ x. added turns text) turns → IfErr res (IsWriteError SinkFailed) → WritesText turns turns_now SinkFailed res
writes-text turns turns_now text SinkFailed (Ok x) told why = (text, told)
writes-text turns turns_now text SinkFailed (Err error) told why = (why, told)
