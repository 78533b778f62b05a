-- The status that a session ends with, and what is said of it.
use Rattle.std.specs.Prelude.{ℕ, List, [], codes, ⊤, Result, Ok, Err, ◌==◌, if◌then◌else◌}
use Rattle.session_port.specs.declared.cause.HostError.{HostError}
use Rattle.session_port.specs.declared.cause.HostError.TheVariants.{Failed, NoMemory as NoMemoryOfHost}
use Rattle.session.specs.SessionError.{SessionError}
use Rattle.session.specs.SessionError.TheVariants.{ClientExited, BadFrame, BadMessage, HostFault, WriteFault, Exhausted}
use Rattle.session.specs.SessionError.TheVariants.{NoMemory}
use Rattle.session_replay.specs.declared.error.ReplayError.{ReplayError}
use Rattle.session_replay.specs.declared.error.ReplayError.TheVariants.{Session, BadRecord, Unrecordable, TooLong}

-- the words are none that the program knows
abbrev pub bad_words : ℕ
bad_words = 2

abbrev pub status_of : Result ⊤ SessionError → ℕ
status_of (Ok x) = 0
status_of (Err ClientExited) = 3
status_of (Err (BadFrame at)) = 4
status_of (Err (BadMessage at)) = 5
status_of (Err HostFault) = 6
status_of (Err WriteFault) = 7
status_of (Err (Exhausted counter)) = 8
status_of (Err NoMemory) = 9

abbrev pub status_of_replay : Result ⊤ ReplayError → ℕ
status_of_replay (Ok x) = 0
status_of_replay (Err (Session error)) = status_of (Err error)
status_of_replay (Err BadRecord) = 10
status_of_replay (Err Unrecordable) = 11
status_of_replay (Err TooLong) = 12

-- the same of one that is generated
abbrev pub status_of_generate : Result ⊤ HostError → ℕ
status_of_generate (Ok x) = 0
status_of_generate (Err Failed) = 7
status_of_generate (Err NoMemoryOfHost) = 9

-- what a program says of its status: nothing where all is well
abbrev pub status_text : ℕ → List ℕ
status_text status =
    if status == 0 then []
    else if status == 2 then codes "bad words"
    else if status == 3 then codes "client exited without proper shutdown sequence"
    else if status == 4 then codes "bad frame"
    else if status == 5 then codes "bad message"
    else if status == 6 then codes "the host failed"
    else if status == 7 then codes "the output failed"
    else if status == 8 then codes "counter exhausted"
    else if status == 9 then codes "out of memory"
    else codes "failed"
