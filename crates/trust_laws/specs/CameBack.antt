-- What comes back of the jobs of a batch, where all come back with values of an honest host.
use Rattle.std.specs.Prelude.{◌≡◌, ℕ, not, nat_eq, Bool, true, false, List, [], ◌∷◌, Option, None, Some}
use Rattle.std.specs.FinMap as map
use Rattle.docs_vfs.specs.declared.file_kinds.FileId.{FileId}
use Rattle.lsp_types.specs.declared.diagnostic.Diagnostic.{Diagnostic}
use Rattle.op_board.specs.declared.diagnostic.NativePass.{NativePass}
use Rattle.analysis_host.specs.Answers.{OutcomeSpec, answer, fault}
use Rattle.analysis_host.specs.SnapshotData.{SnapshotData}
use Rattle.session_port.specs.Jobs.{Jobs, final_of, fitting_job, jobs_after}
use Rattle.session_port.specs.Kinds.{pass_ask}
use Rattle.session_port.specs.Results.{list_in}
use Rattle.session_port.specs.declared.event.TaskMsg.{TaskMsg}
use Rattle.session_port.specs.declared.job.Job.{Job}
use Rattle.session_port.specs.declared.job.JobKind.{JobKind}
use Rattle.session_port.specs.declared.job.JobKind.TheVariants.{Diagnostics}
use Rattle.session_port.specs.declared.job.JobResult.{JobResult}
use Rattle.session_port.specs.declared.job.JobResult.TheVariants.{Value}
use Rattle.desk.specs.Meaning.{Meaning}
use Rattle.session_model.specs.Inputs.{batch_of}
use Rattle.session_model.specs.Run.{Turn, out_after, out_after_all}
use Rattle.session_laws.specs.Invariant.{IsNoneOut}

-- the list in what a question comes to
abbrev pub found_in : OutcomeSpec → List Diagnostic
found_in (answer value) = list_in value
found_in (fault code message) = []

-- what the analysis finds in a file, by a pass, on a snapshot
abbrev pub found : Meaning → SnapshotData → NativePass → FileId → List Diagnostic
found meaning snapshot pass file = found_in (meaning.answer snapshot (pass_ask pass file))

-- a job of this kind is of a batch of this generation
abbrev pub is_of : ℕ → JobKind → Bool
is_of generation (Diagnostics of_generation pass files) = nat_eq generation of_generation
is_of generation other = false

-- a job of the generation that ends, ends with a value
abbrev pub ends_well : ℕ → JobKind → Option JobResult → Bool
ends_well generation kind None = true
ends_well generation kind (Some (Value value)) = true
ends_well generation kind (Some other) = not (is_of generation kind)

abbrev pub fitting_ends_well : ℕ → Option Job → Option JobResult → Bool
fitting_ends_well generation None final = true
fitting_ends_well generation (Some job) final = ends_well generation job.kind final

-- so does each that these messages end, where these jobs are out
abbrev pub EndWell : ℕ → List TaskMsg → Jobs → Type 0
EndWell generation [] out = Unit {0}
EndWell generation (message ∷ messages) out =
    (fitting_ends_well generation (fitting_job message out) (final_of message.body) ≡ true)
    × EndWell generation messages (jobs_after message out)

abbrev pub AllEndWell : ℕ → List Turn → Jobs → Type 0
AllEndWell generation [] out = Unit {0}
AllEndWell generation (turn ∷ turns) out = EndWell generation (batch_of turn.input) out
    × AllEndWell generation turns (out_after turn out)

-- those of the generation that are out work on this snapshot
abbrev pub WorkOn : ℕ → SnapshotData → Jobs → Type 0
WorkOn generation snapshot out = (number : ℕ) (job : Job) → map.get out number ≡ Some job → is_of generation job.kind ≡ true
    → job.snapshot ≡ snapshot

-- none is out any more, and each has ended with a value
pub record AllCameBack (generation : ℕ) (turns : List Turn) : Type 0 where
  pub well : AllEndWell generation turns map.empty
  pub none : IsNoneOut (is_of generation) (out_after_all turns map.empty)
