-- What came of a reply.
use Rattle.std.proofs.Common.{◌≡◌, List, [], ◌∷◌, inl, inr}
use Rattle.std.specs.Prelude.{⊤, ℕ, IfErr, Option, Result, Ok, Err}
use Rattle.lsp_frame.specs.declared.message.Response.{Response}
use Rattle.session_port.specs.Record.{HostCall, added, after_ok, took}
use Rattle.session_laws.specs.Run.{Told, told_of}
use Rattle.session_laws.specs.SessionError.{SessionError}
use Rattle.session_laws.specs.SessionError.TheVariants.{ClientExited, BadFrame, BadMessage, HostFault, WriteFault, Exhausted, NoMemory}
use Rattle.server.specs.Opening.{IsHostError, reply_bytes}
use Rattle.server.specs.Talking.{IsReplied, IsWriteError}
use Rattle.server.proofs.Folds.{telling-handed, telling-reply}

-- it was written, and handed on or not
pub replied-written : (response : Response) (result : Result ⊤ SessionError) (calls calls_now : Option (List HostCall))
    (turns turns_now : Option (List (List ℕ)))
    → turns_now ≡ added turns (reply_bytes response) → calls_now ≡ after_ok result (λ x. added calls (took [])) calls → IfErr result IsHostError
    → IsReplied response (told_of calls turns) (told_of calls_now turns_now) result
replied-written response (Ok x) calls calls_now turns turns_now written taken err =
    telling-handed response (told_of calls turns) (told_of calls_now turns_now) taken written
replied-written response (Err HostFault) calls calls_now turns turns_now written taken err =
    telling-reply response (told_of calls turns) (told_of calls_now turns_now) taken written
replied-written response (Err NoMemory) calls calls_now turns turns_now written taken err =
    inr (telling-reply response (told_of calls turns) (told_of calls_now turns_now) taken written)
replied-written response (Err ClientExited) calls calls_now turns turns_now written taken err = absurd err
replied-written response (Err (BadFrame at)) calls calls_now turns turns_now written taken err = absurd err
replied-written response (Err (BadMessage at)) calls calls_now turns turns_now written taken err = absurd err
replied-written response (Err WriteFault) calls calls_now turns turns_now written taken err = absurd err
replied-written response (Err (Exhausted counter)) calls calls_now turns turns_now written taken err = absurd err

-- it was not written
pub replied-unwritten : (response : Response) (error : SessionError) (old new : Told) → new ≡ old → IsWriteError error
    → IsReplied {T = ⊤} response old new (Err error)
replied-unwritten response WriteFault old new same err = same
replied-unwritten response NoMemory old new same err = inl same
replied-unwritten response ClientExited old new same err = absurd err
replied-unwritten response (BadFrame at) old new same err = absurd err
replied-unwritten response (BadMessage at) old new same err = absurd err
replied-unwritten response HostFault old new same err = absurd err
replied-unwritten response (Exhausted counter) old new same err = absurd err
