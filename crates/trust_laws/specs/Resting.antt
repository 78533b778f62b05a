-- What a run shows of diagnostics wherever it rests.
use Rattle.std.specs.Prelude.{◌≡◌, ◌++◌, ◌∷◌, Bool, true, IsTrue, List, Some}
use Rattle.op_board.specs.Board.{next_generation}
use Rattle.lsp_frame.specs.Reader.{Reader}
use Rattle.ra_config.specs.Config.{ConfigData}
use Rattle.session_port.specs.Record.{HostCall, given_in}
use Rattle.desk.specs.Meaning.{Meaning}
use Rattle.session_model.specs.Diagnosing.{shows_diagnostics}
use Rattle.session_model.specs.OwnJobs.{before_quiet}
use Rattle.session_model.specs.Course.{Course, session_course}
use Rattle.session_model.specs.Run.{AllRead, Runs, Steps, Told, Turn, taking, telling_more}
use Rattle.session_model.specs.State.{State, fresh, snapshot_of}
use Rattle.quiet_laws.specs.Rest.{AsksNone, asks_batch, is_quiet}
use Rattle.diagnostics_laws.specs.Shown.{HasBytePaths}
use Rattle.trust_laws.specs.CameBack.{AllCameBack}
use Rattle.trust_laws.specs.Trusting.{IsAsAtBatch, ShowsFound}

-- behind these turns the session rests: it is quiescent, and all jobs of the last batch, which was asked for with
-- diagnostics shown, have come back with values
pub record Rests (meaning : Meaning) (settings : ConfigData) (turns : List Turn) : Type 0 where
  -- the turns before the batch's, that one, and those since, with the states of the machine between them
  pub before : List Turn
  pub turn : Turn
  pub after : List Turn
  pub split : turns ≡ before ++ turn ∷ after
  pub first : State
  pub second : State
  pub last : State
  pub ran : Runs meaning (fresh settings) before first
  pub steps : Steps meaning first turn second
  pub runs : Runs meaning second after last
  -- the batch, and none since
  pub asks : asks_batch meaning turn.input first ≡ true
  pub none : AsksNone meaning second after
  pub shown : shows_diagnostics (before_quiet meaning turn.input first).state.client.settings ≡ true
  pub next : next_generation (before_quiet meaning turn.input first).state.board ≡ Some last.board.generation
  pub came : AllCameBack last.board.generation turns
  -- at rest
  pub quiet : is_quiet last ≡ true
  pub bytes : HasBytePaths last.files.table

-- the world and the open documents are those of the batch, and each file that is shown has at its URL what the analysis
-- finds in it, on the snapshot of the batch
pub record IsPresent (meaning : Meaning) (turns : List Turn) (at last : State) : Type 0 where
  pub as_at : IsAsAtBatch at last
  pub found : ShowsFound meaning (snapshot_of at) turns last

-- so it is wherever the session rests
abbrev pub ShowsPresent : Meaning → ConfigData → List Turn → Type 0
ShowsPresent meaning settings turns = (r : Rests meaning settings turns)
    → IsPresent meaning turns (before_quiet meaning r.turn.input r.first).state r.last

-- the turns that were written are the machine's, over the inputs of the bytes held and of the events given, and of an
-- honest host they show the present wherever the session rests
pub record IsTrusted (meaning : Meaning) (config : ConfigData) (reader : Reader) (old new : Told) (honest : Bool) : Type 0 where
  pub calls : List HostCall
  pub turns : List Turn
  pub told : new ≡ telling_more calls turns old
  pub left : Course
  pub inputs : session_course reader.place reader.held (given_in calls) ≡ taking turns left
  -- each turn's bytes are frames whose bodies read as its messages
  pub read : AllRead turns
  pub last : State
  pub runs : Runs meaning (fresh config) turns last
  pub shows : IsTrue honest → (before after : List Turn) → turns ≡ before ++ after → ShowsPresent meaning config before
