-- The jobs of a batch are out behind the turn that asks for it, on the snapshot of there.
use Rattle.std.proofs.Common.{◌≡◌, ◌≤◌, ◌+◌, ◌++◌, ℕ, List, [], ◌∷◌, Bool, true, false, cond, length, inl, inr, refl, sym, ap, ◌∙◌, subst, arith, eq-eqb}
use Rattle.std.specs.Prelude.{◌==◌, map as each, Some, is_some}
use Rattle.std.specs.List.{list_any}
use Rattle.std.specs.FinMap as map
use Rattle.std.specs.Cmp.{nat_cmp_total, unsigned_tied}
use Rattle.std.proofs.lemmas.Bool.{false≢true, ne_eqb}
use Rattle.docs_vfs.specs.declared.file_kinds.FileId.{FileId}
use Rattle.op_board.specs.Board.{next_generation}
use Rattle.op_board.specs.Runs.{same_file}
use Rattle.op_board.specs.declared.diagnostic.NativePass.{NativePass}
use Rattle.analysis_host.specs.SnapshotData.{SnapshotData}
use Rattle.session_port.specs.Jobs.{Jobs, after_batch}
use Rattle.session_port.specs.Record.{spawned, with_jobs}
use Rattle.session_port.specs.declared.job.Job.{Job}
use Rattle.session_port.specs.declared.job.JobKind.{JobKind}
use Rattle.desk.specs.Meaning.{Meaning}
use Rattle.desk_laws.specs.Numbers.{AreNumbered}
use Rattle.session_model.specs.Diagnosing.{batch_kinds, shows_diagnostics, subscribed}
use Rattle.session_model.specs.Inputs.{batch_of}
use Rattle.session_model.specs.Machine.{Turning}
use Rattle.session_model.specs.OwnJobs.{OwnJob, awaited_job, batch_jobs, batch_jobs_due, batch_jobs_if, before_fetch, before_quiet, checks_back, jobs_due, numbered_behind, own_jobs}
use Rattle.session_model.specs.Places.{Place}
use Rattle.session_model.specs.Rows.{turn_row}
use Rattle.session_model.specs.Run.{Steps, Turn, out_after}
use Rattle.session_model.specs.State.{State, snapshot_of}
use Rattle.session_model.specs.declared.input.Input.{Input}
use Rattle.session_model.specs.declared.input.Input.TheVariants.{Start, Next}
use Rattle.session_laws.specs.Invariant.{IsNoneOut, StepFits, place_of_state}
use Rattle.session_laws.proofs.Handing.{turns-over}
use Rattle.session_laws.proofs.Rows.{steps-fit}
use Rattle.quiet_laws.specs.Rest.{asks_batch, is_due_at}
use Rattle.trust_laws.specs.CameBack.{WorkOn, is_of}
use Rattle.trust_laws.proofs.CameBackAsked.{AnyJob, AnyOwn, Asked, IsAsked, batch-asks, job-right, numbered-any, own-left, own-right}
use Rattle.trust_laws.proofs.CameBackOthers.{NoneOf, NoneOwn, asked-none, back-none, due-none}
use Rattle.trust_laws.proofs.CameBackTurns.{work-past-all}

inserted : (out : Jobs) (job : Job) (number : ℕ)
    → map.get (map.insert out job.number job) number ≡ cond (number == job.number) (Some job) (map.get out number)
inserted out job number =
    map.get-insert nat_cmp_total out job.number job number ∙ ap (λ b. cond b (Some job) (map.get out number)) (unsigned_tied number job.number)

-- a job stays out where others get later numbers
numbered-there : (last : ℕ) (jobs : List Job) (out : Jobs) (number : ℕ) (job : Job) → AreNumbered last jobs → number ≤ last → map.get out number ≡ Some job
    → map.get (with_jobs jobs out) number ≡ Some job
numbered-there last [] out number job numbered low there = there
numbered-there last (other ∷ jobs) out number job numbered low there =
    numbered-there (last + 1) jobs (map.insert out other.number other) number job numbered.1 (omega (arith, low))
    (inserted out other number ∙ ap (λ b. cond b (Some other) (map.get out number)) (ne_eqb number other.number (λ e. absurd (omega (arith, e, low, numbered.0)))) ∙ there)

some-same : (job other : Job) → Some job ≡ Some other → job ≡ other
some-same job other e = cc

module _ (g : ℕ) (snapshot : SnapshotData) where
  -- those of the generation work on the snapshot
  abbrev AllOn : List Job → Type 0
  AllOn [] = Unit {0}
  AllOn (job ∷ later) = (is_of g job.kind ≡ true → job.snapshot ≡ snapshot) × AllOn later

  abbrev AllOwnOn : List OwnJob → Type 0
  AllOwnOn [] = Unit {0}
  AllOwnOn (own ∷ later) = (is_of g own.kind ≡ true → own.snapshot ≡ snapshot) × AllOwnOn later

  on-append : (xs ys : List Job) → AllOn xs → AllOn ys → AllOn (xs ++ ys)
  on-append [] ys a b = b
  on-append (x ∷ xs) ys a b = (a.0, on-append xs ys a.1 b)

  own-on-append : (xs ys : List OwnJob) → AllOwnOn xs → AllOwnOn ys → AllOwnOn (xs ++ ys)
  own-on-append [] ys a b = b
  own-on-append (x ∷ xs) ys a b = (a.0, own-on-append xs ys a.1 b)

  none-on : (jobs : List Job) → NoneOf g jobs → AllOn jobs
  none-on [] none = tt
  none-on (job ∷ later) none = (λ its. absurd (false≢true (sym none.0 ∙ its)), none-on later none.1)

  own-none-on : (own : List OwnJob) → NoneOwn g own → AllOwnOn own
  own-none-on [] none = tt
  own-none-on (own ∷ later) none = (λ its. absurd (false≢true (sym none.0 ∙ its)), own-none-on later none.1)

  numbered-on : (last : ℕ) (own : List OwnJob) → AllOwnOn own → AllOn (numbered_behind last own)
  numbered-on last [] on = tt
  numbered-on last (job ∷ later) on = (on.0, numbered-on (last + 1) later on.1)

  awaited-on : (st : State) (kinds : List JobKind) → snapshot_of st ≡ snapshot → AllOwnOn (each (awaited_job st) kinds)
  awaited-on st [] its = tt
  awaited-on st (kind ∷ later) its = (λ is. its, awaited-on st later its)

  work-of : (jobs : List Job) (out : Jobs) → AllOn jobs → WorkOn g snapshot out → WorkOn g snapshot (with_jobs jobs out)
  work-of [] out on work = work
  work-of (job ∷ jobs) out on work = work-of jobs (map.insert out job.number job) on.1 more
    where
      more : WorkOn g snapshot (map.insert out job.number job)
      more number other there its = by_number (number == job.number) (sym (inserted out job number) ∙ there)
        where
          by_number : (b : Bool) → cond b (Some job) (map.get out number) ≡ Some other → other.snapshot ≡ snapshot
          by_number true same =
              let is = some-same job other same in
              sym (ap (λ (j : Job). j.snapshot) is) ∙ on.0 (ap (λ (j : Job). is_of g j.kind) is ∙ its)
          by_number false old = work number other old its

-- a job out has the file, and one of the first numbers
pub record HoldsFile (g : ℕ) (pass : NativePass) (file : FileId) (snapshot : SnapshotData) (out : Jobs) (most : ℕ) : Type 0 where
  pub number : ℕ
  pub job : Job
  pub asked : Asked g pass file snapshot job.kind
  pub there : map.get out number ≡ Some job
  pub low : number ≤ most

module _ (g : ℕ) (pass : NativePass) (file : FileId) (snapshot : SnapshotData) where
  held : (last : ℕ) (jobs : List Job) (out : Jobs) → AreNumbered last jobs → AnyJob g pass file snapshot jobs
      → HoldsFile g pass file snapshot (with_jobs jobs out) (last + length jobs)
  held last [] out numbered any = absurd any
  held last (job ∷ later) out numbered (inl here) = record {
    number = job.number;
    job = job;
    asked = here.0;
    there =
        numbered-there (last + 1) later (map.insert out job.number job) job.number job numbered.1 (omega (arith, numbered.0))
        (inserted out job job.number ∙ ap (λ b. cond b (Some job) (map.get out job.number)) (eq-eqb job.number job.number refl));
    low = omega (arith, numbered.0);
  }
  held last (job ∷ later) out numbered (inr any) =
      let rest = held (last + 1) later (map.insert out job.number job) numbered.1 any in
      record { number = rest.number; job = rest.job; asked = rest.asked; there = rest.there; low = omega (arith, rest.low) }

  due-any : (input : Input) (t : Turning) → is_due_at input t ≡ true → AnyOwn g pass file snapshot (batch_jobs t.state)
      → AnyOwn g pass file snapshot (batch_jobs_due input t)
  due-any Start t due any = absurd (false≢true due)
  due-any (Next event) t due any = subst (λ b. AnyOwn g pass file snapshot (batch_jobs_if b t.state)) (sym due) any

-- what a batch hands over works on the snapshot of where it is due, and so does nothing else of its generation
due-on : (g : ℕ) (snapshot : SnapshotData) (input : Input) (t : Turning) → snapshot_of t.state ≡ snapshot → AllOwnOn g snapshot (batch_jobs_due input t)
due-on g snapshot Start t its = tt
due-on g snapshot (Next event) t its = by_due _
  where
    by_due : (b : Bool) → AllOwnOn g snapshot (batch_jobs_if b t.state)
    by_due true = awaited-on g snapshot t.state (batch_kinds t.state) its
    by_due false = tt

module _ (meaning : Meaning) (g : ℕ) (s : State) (turn : Turn) (mid : State) (steps : Steps meaning s turn mid) where
  abbrev At : State
  At = (before_quiet meaning turn.input s).state

  abbrev Row : List Job
  Row = (turn_row meaning turn.input (place_of_state s)).jobs

  fits : StepFits meaning s turn mid
  fits = steps-fit meaning s turn mid steps

  row-none : NoneOf g Row
  row-none = subst (NoneOf g) fits.does.jobs (asked-none g (spawned turn.commands))

  spawned-on : AllOn g (snapshot_of At) (spawned turn.commands)
  spawned-on =
      let back = checks_back s turn.input in
      let batch = batch_jobs_due turn.input (before_quiet meaning turn.input s) in
      let due = jobs_due turn.input (before_fetch meaning turn.input s) in
      subst (AllOn g (snapshot_of At)) (sym (turns-over meaning s turn mid steps))
      (on-append g (snapshot_of At) Row (numbered_behind (s.desk.last_job + length Row) (own_jobs meaning turn.input s))
      (none-on g (snapshot_of At) Row row-none)
      (numbered-on g (snapshot_of At) (s.desk.last_job + length Row) (own_jobs meaning turn.input s)
      (own-on-append g (snapshot_of At) (back ++ batch) due
      (own-on-append g (snapshot_of At) back batch (own-none-on g (snapshot_of At) back (back-none g s turn.input))
      (due-on g (snapshot_of At) turn.input (before_quiet meaning turn.input s) refl))
      (own-none-on g (snapshot_of At) due (due-none g turn.input (before_fetch meaning turn.input s))))))

  jobs-are : mid.desk.jobs ≡ out_after turn s.desk.jobs
  jobs-are = ap (λ (p : Place). p.desk.jobs) fits.place

  last-is : mid.desk.last_job ≡ s.desk.last_job + length (spawned turn.commands)
  last-is = ap (λ (p : Place). p.desk.last_job) fits.place

  none-work : (out : Jobs) → IsNoneOut (is_of g) out → WorkOn g (snapshot_of At) out
  none-work out none number job there its = absurd (false≢true (sym (none number job there) ∙ its))

  -- where none was out before
  pub batch-works : IsNoneOut (is_of g) s.desk.jobs → WorkOn g (snapshot_of At) mid.desk.jobs
  batch-works none =
      subst (WorkOn g (snapshot_of At)) (sym jobs-are)
      (work-of g (snapshot_of At) (spawned turn.commands) (after_batch (batch_of turn.input) s.desk.jobs) spawned-on
      (work-past-all g (snapshot_of At) (batch_of turn.input) s.desk.jobs (none-work s.desk.jobs none)))

  pub batch-holds : (pass : NativePass) (file : FileId) → asks_batch meaning turn.input s ≡ true → shows_diagnostics At.client.settings ≡ true
      → next_generation At.board ≡ Some g → IsAsked g pass file (snapshot_of At) (is_some At.workspaces.fetches.queue.last) pass
      → list_any (same_file file) (subscribed At.files) ≡ true → HoldsFile g pass file (snapshot_of At) mid.desk.jobs mid.desk.last_job
  batch-holds pass file asks shows next asked shown =
      let back = checks_back s turn.input in
      let batch = batch_jobs_due turn.input (before_quiet meaning turn.input s) in
      let due = jobs_due turn.input (before_fetch meaning turn.input s) in
      let any : AnyJob g pass file (snapshot_of At) (spawned turn.commands) =
      subst (AnyJob g pass file (snapshot_of At)) (sym (turns-over meaning s turn mid steps))
      (job-right g pass file (snapshot_of At) Row (numbered_behind (s.desk.last_job + length Row) (own_jobs meaning turn.input s))
      (numbered-any g pass file (snapshot_of At) (s.desk.last_job + length Row) (own_jobs meaning turn.input s)
      (own-left g pass file (snapshot_of At) (back ++ batch) due
      (own-right g pass file (snapshot_of At) back batch
      (due-any g pass file (snapshot_of At) turn.input (before_quiet meaning turn.input s) asks
      (batch-asks g pass file (snapshot_of At) At shows next asked shown refl)))))) in
      let holds = held g pass file (snapshot_of At) s.desk.last_job (spawned turn.commands) (after_batch (batch_of turn.input) s.desk.jobs) fits.numbered any in
      record {
        number = holds.number;
        job = holds.job;
        asked = holds.asked;
        there = ap (λ o. map.get o holds.number) jobs-are ∙ holds.there;
        low = omega (arith, holds.low, last-is);
      }
