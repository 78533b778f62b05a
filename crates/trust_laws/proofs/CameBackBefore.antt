-- Before a batch is asked for, nothing has come of it.
use Rattle.std.proofs.Common.{◌≡◌, ◌<◌, ◌≤◌, ◌+◌, ◌++◌, ◌⊎◌, ℕ, List, [], ◌∷◌, Bool, true, false, inl, inr, refl, sym, ap, ◌∙◌, subst, arith, eqb-true}
use Rattle.std.specs.Prelude.{◌&&◌, nat_eq, Option, None, Some, option_and_then}
use Rattle.std.specs.FinMap as map
use Rattle.std.proofs.lemmas.Bool.{false≢true}
use Rattle.docs_vfs.specs.declared.file_kinds.FileId.{FileId}
use Rattle.lsp_types.specs.declared.diagnostic.Diagnostic.{Diagnostic}
use Rattle.op_board.specs.Runs.{same_pass}
use Rattle.op_board.specs.declared.diagnostic.NativePass.{NativePass}
use Rattle.ra_config.specs.Config.{ConfigData}
use Rattle.session_port.specs.Jobs.{Jobs, final_of, fitting_job, jobs_after}
use Rattle.session_port.specs.declared.event.TaskMsg.{TaskMsg}
use Rattle.session_port.specs.declared.job.Job.{Job}
use Rattle.session_port.specs.declared.job.JobKind.{JobKind}
use Rattle.session_port.specs.declared.job.JobKind.TheVariants as kinds
use Rattle.session_port.specs.declared.job.JobResult.{JobResult}
use Rattle.session_port.specs.declared.job.JobResult.TheVariants.{Value, Fault, Cancelled, NoMemory}
use Rattle.session_port.specs.declared.job.JobValue.TheVariants as values
use Rattle.desk.specs.Meaning.{Meaning}
use Rattle.desk.specs.WorkEnds.{lists_end, work_end_of, work_ended, work_told}
use Rattle.desk_laws.proofs.Fitting.{fit-out, out-before}
use Rattle.session_model.specs.Inputs.{batch_of}
use Rattle.session_model.specs.Places.{Place}
use Rattle.session_model.specs.Run.{Runs, Turn, out_after}
use Rattle.session_model.specs.State.{State, fresh}
use Rattle.session_laws.specs.Invariant.{IsNoneOut, StepFits}
use Rattle.session_laws.proofs.Rows.{steps-fit}
use Rattle.session_laws.proofs.Stretches.{runs-append}
use Rattle.diagnostics_laws.specs.Batches.{HasGenerations, brought_by, brought_in, brought_past, list_among}
use Rattle.diagnostics_laws.proofs.Standing.{generations-known, generations-rise}
use Rattle.trust_laws.specs.CameBack.{is_of}
use Rattle.trust_laws.proofs.CameBackMessages.{OnlyLists, brought-of, kind-lists}

module _ (g : ℕ) (pass : NativePass) (file : FileId) where
  -- lists of another generation bring nothing
  abbrev BringsNone : Option (List Diagnostic) → ℕ → NativePass → List (FileId × List Diagnostic) → Type 0
  BringsNone before of_generation of_pass lists = (same_pass pass of_pass && nat_eq g of_generation) ≡ true → list_among file lists before ≡ before

  right-of : (a b : Bool) → (a && b) ≡ true → b ≡ true
  right-of true b is = is
  right-of false b is = absurd (false≢true is)

  other-lists : (before : Option (List Diagnostic)) (of_generation : ℕ) (of_pass : NativePass) (files : List FileId) (result : JobResult)
      → nat_eq g of_generation ≡ false → OnlyLists (BringsNone before) (lists_end of_generation of_pass files result)
  other-lists before of_generation of_pass files (Value (values.Json value)) other = tt
  other-lists before of_generation of_pass files (Value (values.Diagnostics lists)) other =
      λ test. absurd (false≢true (sym other ∙ right-of (same_pass pass of_pass) (nat_eq g of_generation) test))
  other-lists before of_generation of_pass files (Value (values.Tests tests)) other = tt
  other-lists before of_generation of_pass files (Value (values.Roots paths)) other = tt
  other-lists before of_generation of_pass files (Value values.Primed) other = tt
  other-lists before of_generation of_pass files (Value (values.Workspaces results)) other = tt
  other-lists before of_generation of_pass files (Value (values.BuildData results)) other = tt
  other-lists before of_generation of_pass files (Value (values.ProcMacros macros)) other = tt
  other-lists before of_generation of_pass files (Fault code message) other =
      λ test. absurd (false≢true (sym other ∙ right-of (same_pass pass of_pass) (nat_eq g of_generation) test))
  other-lists before of_generation of_pass files (Cancelled saw) other = tt
  other-lists before of_generation of_pass files NoMemory other = tt

  kind-brings : (before : Option (List Diagnostic)) (kind : JobKind) (result : JobResult) → is_of g kind ≡ false
      → brought_by (work_end_of kind result) pass g file before ≡ before
  kind-brings before kind result other =
      brought-of (λ o. o ≡ before) pass g file before (work_end_of kind result)
      (kind-lists (BringsNone before) kind result (λ of_generation of_pass files same. other-lists before of_generation of_pass files result (sym (ap (is_of g) same) ∙ other)))
      refl

  message-brings : (message : TaskMsg) (out : Jobs) (before : Option (List Diagnostic)) → IsNoneOut (is_of g) out
      → brought_by (work_ended message out) pass g file before ≡ before
  message-brings message out before none = by_job (fitting_job message out) refl
    where
      by_final : (job : Job) → fitting_job message out ≡ Some job → (f : Option JobResult)
          → brought_by (option_and_then (work_end_of job.kind) f) pass g file before ≡ before
      by_final job fits None = refl
      by_final job fits (Some result) =
          kind-brings before job.kind result (none message.job job (fit-out message.body (map.get out message.job) job fits))

      by_job : (o : Option Job) → fitting_job message out ≡ o → brought_by (work_told message o) pass g file before ≡ before
      by_job None fits = refl
      by_job (Some job) fits = by_final job fits (final_of message.body)

  none-past : (message : TaskMsg) (out : Jobs) → IsNoneOut (is_of g) out → IsNoneOut (is_of g) (jobs_after message out)
  none-past message out none number job there = none number job (out-before message out number job there)

  pub messages-bring-none : (messages : List TaskMsg) (out : Jobs) (before : Option (List Diagnostic)) → IsNoneOut (is_of g) out
      → brought_past messages out pass g file before ≡ before
  messages-bring-none [] out before none = refl
  messages-bring-none (message ∷ messages) out before none =
      messages-bring-none messages (jobs_after message out) (brought_by (work_ended message out) pass g file before) (none-past message out none)
      ∙ message-brings message out before none

-- ---- over turns

-- a job out of a generation below is of no later one
pub low-none : (g : ℕ) (s : State) → s.board.generation < g → HasGenerations s.board s.desk.jobs → IsNoneOut (is_of g) s.desk.jobs
low-none g s low known number job there = by_kind job.kind refl
  where
    by_kind : (kind : JobKind) → job.kind ≡ kind → is_of g job.kind ≡ false
    by_kind (kinds.Diagnostics of_generation pass files) is = ap (is_of g) is ∙ by_test (nat_eq g of_generation) refl
      where
        by_test : (b : Bool) → nat_eq g of_generation ≡ b → b ≡ false
        by_test true same = absurd (omega (arith, eqb-true g of_generation same, known.out number job of_generation pass files there is, low))
        by_test false other = refl
    by_kind (kinds.Tests files) is = ap (is_of g) is
    by_kind (kinds.Request ticket row params) is = ap (is_of g) is
    by_kind (kinds.Part ticket part row params files) is = ap (is_of g) is
    by_kind (kinds.Indexed file path) is = ap (is_of g) is
    by_kind (kinds.ProcMacroSources files) is = ap (is_of g) is
    by_kind (kinds.CheckScope file path) is = ap (is_of g) is
    by_kind kinds.Prime is = ap (is_of g) is
    by_kind (kinds.FetchWorkspaces projects detached path force) is = ap (is_of g) is
    by_kind (kinds.FetchBuildData version) is = ap (is_of g) is
    by_kind (kinds.LoadProcMacros paths ignored) is = ap (is_of g) is

module _ (meaning : Meaning) (settings : ConfigData) where
  -- generations don't fall
  generations-up : (before : List Turn) (s : State) (turns : List Turn) (last : State) → Runs meaning (fresh settings) before s → Runs meaning s turns last
      → s.board.generation ≤ last.board.generation
  generations-up before s [] last runs same = subst (λ (e : State). s.board.generation ≤ e.board.generation) (sym same) (omega arith)
  generations-up before s (turn ∷ turns) last runs (mid, steps, later) =
      let rest = generations-up (before ++ turn ∷ []) mid turns last (runs-append meaning (fresh settings) s mid before (turn ∷ []) runs (mid, steps, refl)) later in
      by_rise rest (generations-rise meaning settings before s turn mid runs steps)
    where
      by_rise : mid.board.generation ≤ last.board.generation
          → (mid.board.generation ≡ s.board.generation) ⊎ (mid.board.generation ≡ s.board.generation + 1) → s.board.generation ≤ last.board.generation
      by_rise rest (inl same) = omega (arith, same, rest)
      by_rise rest (inr more) = omega (arith, more, rest)

  turns-bring-none : (g : ℕ) (pass : NativePass) (file : FileId) (before : List Turn) (s : State) (turns : List Turn) (last : State)
      → Runs meaning (fresh settings) before s → Runs meaning s turns last → last.board.generation < g
      → brought_in turns s.desk.jobs pass g file None ≡ None
  turns-bring-none g pass file before s [] last runs same low = refl
  turns-bring-none g pass file before s (turn ∷ turns) last runs (mid, steps, later) low =
      let more = runs-append meaning (fresh settings) s mid before (turn ∷ []) runs (mid, steps, refl) in
      let all : Runs meaning s (turn ∷ turns) last = (mid, steps, later) in
      let at : s.board.generation < g = omega (arith, generations-up before s (turn ∷ turns) last runs all, low) in
      let fits : StepFits meaning s turn mid = steps-fit meaning s turn mid steps in
      let out : mid.desk.jobs ≡ out_after turn s.desk.jobs = ap (λ (p : Place). p.desk.jobs) fits.place in
      ap (brought_in turns (out_after turn s.desk.jobs) pass g file)
      (messages-bring-none g pass file (batch_of turn.input) s.desk.jobs None (low-none g s at (generations-known meaning settings before s runs)))
      ∙ ap (λ o. brought_in turns o pass g file None) (sym out)
      ∙ turns-bring-none g pass file (before ++ turn ∷ []) mid turns last more later low

  pub run-brings-none : (g : ℕ) (pass : NativePass) (file : FileId) (turns : List Turn) (last : State) → Runs meaning (fresh settings) turns last
      → last.board.generation < g → brought_in turns map.empty pass g file None ≡ None
  run-brings-none g pass file turns last runs low = turns-bring-none g pass file [] (fresh settings) turns last refl runs low
