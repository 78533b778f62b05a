-- Turns that ask for no batch hand over no job of one.
use Rattle.std.proofs.Common.{◌≡◌, ◌≤◌, ◌+◌, ℕ, List, [], ◌∷◌, ◌++◌, Bool, true, false, length, refl, sym, ap, subst, arith}
use Rattle.std.specs.Prelude.{Option, None, Some, is_some, Result, if◌then◌else◌}
use Rattle.std.specs.Result.{result_unwrap_or}
use Rattle.std.proofs.lemmas.Bool.{false≢true}
use Rattle.analysis_host.specs.SnapshotData.{SnapshotData}
use Rattle.session_port.specs.Kinds.{ticket_of_job}
use Rattle.session_port.specs.Record.{spawned}
use Rattle.session_port.specs.TurnState.{TurnState}
use Rattle.session_port.specs.declared.command.DeferredTask.{DeferredTask}
use Rattle.session_port.specs.declared.command.DeferredTask.TheVariants.{CheckIfIndexed, CheckProcMacroSources}
use Rattle.session_port.specs.declared.fault.Counter.{Counter}
use Rattle.session_port.specs.declared.job.Job.{Job}
use Rattle.session_port.specs.declared.job.JobKind.{JobKind}
use Rattle.session_port.specs.declared.job.JobKind.TheVariants as kinds
use Rattle.workspaces.specs.Fetches.{fetch_to_start, start_fetch}
use Rattle.workspaces.specs.declared.requests.FetchRequest.{FetchRequest}
use Rattle.desk.specs.Folds.{asked_among, is_for_request}
use Rattle.desk.specs.Meaning.{Meaning}
use Rattle.desk_laws.specs.Numbers.{AreNumbered}
use Rattle.session_model.specs.Building.{build_due}
use Rattle.session_model.specs.Fetching.{with_fetches}
use Rattle.session_model.specs.Loading.{MacroPaths, load_due, with_due_load}
use Rattle.session_model.specs.OwnJobs.{OwnJob, batch_jobs_due, batch_jobs_if, before_fetch, before_quiet, build_job, checks_among_tasks, checks_back, fetch_job}
use Rattle.session_model.specs.OwnJobs.{fetch_jobs, jobs_due, load_job, numbered_behind, own_jobs, run_jobs_behind}
use Rattle.session_model.specs.Machine.{Turning, with_workspaces}
use Rattle.session_model.specs.Places.{Place, rest_after}
use Rattle.session_model.specs.Rows.{turn_row}
use Rattle.session_model.specs.Run.{Runs, Steps, Turn, turn_start}
use Rattle.session_model.specs.State.{State, may_start}
use Rattle.session_model.specs.declared.input.Event.TheVariants.{Lsp, Task, Vfs, Deferred, News, Timer}
use Rattle.session_model.specs.declared.input.Input.{Input}
use Rattle.session_model.specs.declared.input.Input.TheVariants.{Start, Next}
use Rattle.session_laws.specs.Invariant.{StepFits, place_of_state}
use Rattle.session_laws.proofs.Handing.{turns-over}
use Rattle.session_laws.proofs.Rows.{steps-fit}
use Rattle.quiet_laws.specs.Rest.{AsksNone, asks_batch, is_due_at}
use Rattle.trust_laws.specs.CameBack.{is_of}
use Rattle.trust_laws.proofs.CameBackTurns.{OtherJobs, OtherTurns}

module _ (g : ℕ) where
  -- none of these jobs is of the batch
  abbrev pub NoneOf : List Job → Type 0
  NoneOf [] = Unit {0}
  NoneOf (job ∷ jobs) = (is_of g job.kind ≡ false) × NoneOf jobs

  abbrev pub NoneOwn : List OwnJob → Type 0
  NoneOwn [] = Unit {0}
  NoneOwn (own ∷ later) = (is_of g own.kind ≡ false) × NoneOwn later

  pub none-append : (xs ys : List Job) → NoneOf xs → NoneOf ys → NoneOf (xs ++ ys)
  none-append [] ys a b = b
  none-append (x ∷ xs) ys a b = (a.0, none-append xs ys a.1 b)

  own-append : (xs ys : List OwnJob) → NoneOwn xs → NoneOwn ys → NoneOwn (xs ++ ys)
  own-append [] ys a b = b
  own-append (x ∷ xs) ys a b = (a.0, own-append xs ys a.1 b)

  pub numbered-none : (last : ℕ) (own : List OwnJob) → NoneOwn own → NoneOf (numbered_behind last own)
  numbered-none last [] none = tt
  numbered-none last (job ∷ later) none = (none.0, numbered-none (last + 1) later none.1)

  -- ---- jobs for requests

  request-none : (kind : JobKind) → is_some (ticket_of_job kind) ≡ true → is_of g kind ≡ false
  request-none (kinds.Diagnostics of_generation pass files) is = absurd (false≢true is)
  request-none (kinds.Tests files) is = refl
  request-none (kinds.Request ticket row params) is = refl
  request-none (kinds.Part ticket part row params files) is = refl
  request-none (kinds.Indexed file path) is = refl
  request-none (kinds.ProcMacroSources files) is = refl
  request-none (kinds.CheckScope file path) is = refl
  request-none kinds.Prime is = refl
  request-none (kinds.FetchWorkspaces projects detached path force) is = refl
  request-none (kinds.FetchBuildData version) is = refl
  request-none (kinds.LoadProcMacros paths ignored) is = refl

  pub asked-none : (jobs : List Job) → NoneOf (asked_among jobs)
  asked-none [] = tt
  asked-none (job ∷ jobs) = by_test (asked-none jobs) (is_for_request job) refl
    where
      by_test : NoneOf (asked_among jobs) → (b : Bool) → is_for_request job ≡ b → NoneOf (if b then job ∷ asked_among jobs else asked_among jobs)
      by_test later true is = (request-none job.kind is, later)
      by_test later false is = later

  -- ---- the session's own

  checks-none : (s : State) (tasks : List DeferredTask) → NoneOwn (checks_among_tasks s tasks)
  checks-none s [] = tt
  checks-none s (CheckIfIndexed path ∷ tasks) = checks-none s tasks
  checks-none s (CheckProcMacroSources files ∷ tasks) = (refl, checks-none s tasks)

  pub back-none : (s : State) (input : Input) → NoneOwn (checks_back s input)
  back-none s Start = tt
  back-none s (Next (Lsp message)) = tt
  back-none s (Next (Task batch)) = tt
  back-none s (Next (Vfs messages)) = tt
  back-none s (Next (Deferred tasks)) = checks-none s tasks
  back-none s (Next (News news)) = tt
  back-none s (Next (Timer ticket)) = tt

  fetch-none : (s : State) (request : Option (List ℕ × FetchRequest)) → NoneOwn (fetch_job s request)
  fetch-none s None = tt
  fetch-none s (Some request) = (refl, tt)

  build-none : (s : State) (version : Option ℕ) → NoneOwn (build_job s version)
  build-none s None = tt
  build-none s (Some version) = (refl, tt)

  load-none : (s : State) (paths : Option MacroPaths) → NoneOwn (load_job s paths)
  load-none s None = tt
  load-none s (Some paths) = (refl, tt)

  behind-none : (input : Input) (s : State) → NoneOwn (run_jobs_behind input s)
  behind-none Start s = tt
  behind-none (Next event) s =
      let build = build_due s.workspaces in
      let later = with_workspaces (with_due_load build s.workspaces) s in
      own-append (build_job s build) (load_job later (load_due build s.workspaces)) (build-none s build) (load-none later (load_due build s.workspaces))

  pub due-none : (input : Input) (s : State) → NoneOwn (jobs_due input s)
  due-none input s =
      let may = may_start input s.client.settings in
      let later = with_workspaces (with_fetches (start_fetch may) s.workspaces) s in
      own-append (fetch_jobs input s) (run_jobs_behind input later) (fetch-none s (fetch_to_start may s.workspaces.fetches)) (behind-none input later)

  batch-none : (input : Input) (t : Turning) → is_due_at input t ≡ false → NoneOwn (batch_jobs_due input t)
  batch-none Start t none = tt
  batch-none (Next event) t none = subst (λ b. NoneOwn (batch_jobs_if b t.state)) (sym none) tt

  pub own-none : (meaning : Meaning) (input : Input) (s : State) → asks_batch meaning input s ≡ false → NoneOwn (own_jobs meaning input s)
  own-none meaning input s none =
      own-append (checks_back s input ++ batch_jobs_due input (before_quiet meaning input s)) (jobs_due input (before_fetch meaning input s))
      (own-append (checks_back s input) (batch_jobs_due input (before_quiet meaning input s)) (back-none s input) (batch-none input (before_quiet meaning input s) none))
      (due-none input (before_fetch meaning input s))

  spawned-none : (meaning : Meaning) (old : State) (turn : Turn) (new : State) → Steps meaning old turn new → asks_batch meaning turn.input old ≡ false
      → NoneOf (spawned turn.commands)
  spawned-none meaning old turn new steps none =
      let row = turn_row meaning turn.input (place_of_state old) in
      let fits : StepFits meaning old turn new = steps-fit meaning old turn new steps in
      subst NoneOf (sym (turns-over meaning old turn new steps))
      (none-append row.jobs (numbered_behind (old.desk.last_job + length row.jobs) (own_jobs meaning turn.input old))
      (subst NoneOf fits.does.jobs (asked-none (spawned turn.commands)))
      (numbered-none (old.desk.last_job + length row.jobs) (own_jobs meaning turn.input old) (own-none meaning turn.input old none)))

  -- ---- and their numbers are above those that were given

  module _ (snapshot : SnapshotData) (given : ℕ) where
    others-from : (last : ℕ) (jobs : List Job) → given ≤ last → NoneOf jobs → AreNumbered last jobs → OtherJobs g snapshot given jobs
    others-from last [] low none numbered = tt
    others-from last (job ∷ jobs) low none numbered =
        ((none.0, omega (arith, low, numbered.0)), others-from (last + 1) jobs (omega (arith, low)) none.1 numbered.1)

    pub others-none : (meaning : Meaning) (s : State) (turns : List Turn) (last : State) → Runs meaning s turns last → AsksNone meaning s turns
        → given ≤ s.desk.last_job → OtherTurns g snapshot given turns
    others-none meaning s [] last runs none low = tt
    others-none meaning s (turn ∷ turns) last (mid, steps, later) none low = (
      others-from s.desk.last_job (spawned turn.commands) low (spawned-none meaning s turn mid steps none.0) fits.numbered,
      others-none meaning mid turns last later (subst (λ e. AsksNone meaning e turns) rests none.1) more,
    )
      where
        fits : StepFits meaning s turn mid
        fits = steps-fit meaning s turn mid steps

        rests : rest_after meaning turn.input s ≡ mid
        rests = ap (λ (r : Result (TurnState State) Counter). (result_unwrap_or r (turn_start s)).state) steps

        last_job : mid.desk.last_job ≡ s.desk.last_job + length (spawned turn.commands)
        last_job = ap (λ (p : Place). p.desk.last_job) fits.place

        more : given ≤ mid.desk.last_job
        more = omega (arith, low, last_job)
