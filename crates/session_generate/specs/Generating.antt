-- A session over generated messages, and what is told of it.
use Rattle.std.specs.Prelude.{◌≡◌, ℕ, ◌+◌, true, List, [], ◌∷◌, length, Option, Some, Result, Ok, Err, ⊤}
use Rattle.session_port.specs.Record.{HostCall, added}
use Rattle.session_port.specs.Written.{responses_in}
use Rattle.session_port.specs.declared.cause.HostError.{HostError}
use Rattle.session_port.specs.declared.cause.HostError.TheVariants.{Failed, NoMemory}
use Rattle.session.specs.Meaning.{Meaning}
use Rattle.session.specs.Ran.{RanSession}
use Rattle.session.specs.Run.{Turn, empty_reader, told_of}
use Rattle.message_generator.specs.Drafts.{final_texts}
use Rattle.message_generator.specs.Stream.{stream_of}
use Rattle.ordered_host.specs.InOrder.{AreInOrder, beginning, bytes_given}
use Rattle.session_generate.specs.Settings.{session_settings}
use Rattle.session_generate.specs.Summary.{summary_of}

-- how many responses turns wrote
abbrev pub response_count : List Turn → ℕ
response_count [] = 0
response_count (turn ∷ turns) = length (responses_in turn.messages) + response_count turns

-- a session was run over the messages of this many documents, up to their `exit`, and has written these turns
pub record RunsOver (meaning : Meaning) (count : ℕ) (written : List (List ℕ)) : Type 0 where
  -- what the host gave and took
  pub calls : List HostCall
  -- it gave all the bytes of the messages and no others, frame by frame and only while no job was out, and its other
  -- events are the results of the jobs and the answers to the other orders
  pub given : bytes_given calls ≡ stream_of count
  pub in_order : AreInOrder (beginning (stream_of count)) calls
  -- all that is promised of a session over an honest host: its turns are the machine's, and these are their bytes
  pub ran : RanSession meaning session_settings empty_reader (told_of (Some []) (Some []))
      (told_of (Some calls) (Some written)) true ⊥ ⊥ (Ok tt)
  -- each request was answered once
  pub answered : response_count ran.headline.turns ≡ count

-- such a session was run, and this is its summary
pub record IsSummary (meaning : Meaning) (count : ℕ) (summary : List ℕ) : Type 0 where
  pub written : List (List ℕ)
  pub ran : RunsOver meaning count written
  pub is : summary ≡ summary_of count (response_count ran.ran.headline.turns) (final_texts count) written

-- its summary was written by one turn
pub record Summarized (meaning : Meaning) (count : ℕ) (old new : Option (List (List ℕ))) : Type 0 where
  pub summary : List ℕ
  pub is : IsSummary meaning count summary
  pub told : new ≡ added old summary

-- the summary was written; or the sink failed, or memory ran out, and nothing was written
abbrev pub Generates : Meaning → ℕ → Option (List (List ℕ)) → Option (List (List ℕ)) → Type 0 → Result ⊤ HostError
    → Type 0
Generates meaning count old new SinkFailed (Ok x) = Summarized meaning count old new
Generates meaning count old new SinkFailed (Err Failed) = SinkFailed × (new ≡ old)
Generates meaning count old new SinkFailed (Err NoMemory) = new ≡ old
