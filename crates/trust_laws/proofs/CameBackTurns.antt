-- What turns bring of a batch that was handed over before them, where all of it comes back with values.
use Rattle.std.proofs.Common.{◌≡◌, ◌<◌, ◌≤◌, ℕ, List, [], ◌∷◌, Bool, true, false, cond, inl, inr, refl, sym, ap, ◌∙◌, arith, eq-eqb}
use Rattle.std.specs.Prelude.{◌⊎◌, ◌==◌, Option, None, Some, is_some}
use Rattle.std.specs.FinMap as map
use Rattle.std.specs.Cmp.{nat_cmp_total, unsigned_tied}
use Rattle.std.proofs.lemmas.Bool.{false≢true, ne_eqb}
use Rattle.docs_vfs.specs.declared.file_kinds.FileId.{FileId}
use Rattle.lsp_types.specs.declared.diagnostic.Diagnostic.{Diagnostic}
use Rattle.op_board.specs.declared.diagnostic.NativePass.{NativePass}
use Rattle.analysis_host.specs.SnapshotData.{SnapshotData}
use Rattle.session_port.specs.Honest.{AreHonest}
use Rattle.session_port.specs.Jobs.{Jobs, after_batch, jobs_after}
use Rattle.session_port.specs.Record.{spawned, with_jobs}
use Rattle.session_port.specs.declared.event.TaskMsg.{TaskMsg}
use Rattle.session_port.specs.declared.job.Job.{Job}
use Rattle.session_port.specs.declared.job.JobKind.TheVariants as kinds
use Rattle.desk.specs.Meaning.{Meaning}
use Rattle.desk.specs.WorkEnds.{work_ended}
use Rattle.desk_laws.proofs.Fitting.{out-before}
use Rattle.session_model.specs.Inputs.{batch_of}
use Rattle.session_model.specs.Run.{AreHonestTurns, Turn, out_after, out_after_all}
use Rattle.session_laws.specs.Invariant.{IsNoneOut}
use Rattle.diagnostics_laws.specs.Batches.{brought_by, brought_in, brought_past}
use Rattle.trust_laws.specs.CameBack.{AllEndWell, EndWell, WorkOn, found, is_of}
use Rattle.trust_laws.proofs.CameBack.{IsSaid, is_among}
use Rattle.trust_laws.proofs.CameBackMessages.{brought-some, message-covers, message-said}

none-is : {X : Type 0} (x : X) → None ≡ Some x → ⊥
none-is x e = cc

some-same : (job other : Job) → Some job ≡ Some other → job ≡ other
some-same job other e = cc

module _ (g : ℕ) (snapshot : SnapshotData) where
  work-past : (message : TaskMsg) (out : Jobs) → WorkOn g snapshot out → WorkOn g snapshot (jobs_after message out)
  work-past message out on number job there its = on number job (out-before message out number job there) its

  pub work-past-all : (messages : List TaskMsg) (out : Jobs) → WorkOn g snapshot out → WorkOn g snapshot (after_batch messages out)
  work-past-all [] out on = on
  work-past-all (message ∷ messages) out on = work-past-all messages (jobs_after message out) (work-past message out on)

  -- jobs that are of no such batch, with numbers above this one
  abbrev pub OtherJobs : ℕ → List Job → Type 0
  OtherJobs given [] = Unit {0}
  OtherJobs given (job ∷ jobs) = ((is_of g job.kind ≡ false) × (given < job.number)) × OtherJobs given jobs

  abbrev pub OtherTurns : ℕ → List Turn → Type 0
  OtherTurns given [] = Unit {0}
  OtherTurns given (turn ∷ turns) = OtherJobs given (spawned turn.commands) × OtherTurns given turns

  inserted : (out : Jobs) (job : Job) (number : ℕ)
      → map.get (map.insert out job.number job) number ≡ cond (number == job.number) (Some job) (map.get out number)
  inserted out job number =
      map.get-insert nat_cmp_total out job.number job number ∙ ap (λ b. cond b (Some job) (map.get out number)) (unsigned_tied number job.number)

  work-beside : (given : ℕ) (jobs : List Job) (out : Jobs) → OtherJobs given jobs → WorkOn g snapshot out → WorkOn g snapshot (with_jobs jobs out)
  work-beside given [] out others on = on
  work-beside given (job ∷ jobs) out others on = work-beside given jobs (map.insert out job.number job) others.1 more
    where
      more : WorkOn g snapshot (map.insert out job.number job)
      more number other there its = by_number (number == job.number) (sym (inserted out job number) ∙ there)
        where
          by_number : (b : Bool) → cond b (Some job) (map.get out number) ≡ Some other → other.snapshot ≡ snapshot
          by_number true same =
              absurd (false≢true (sym others.0.0 ∙ ap (λ (j : Job). is_of g j.kind) (some-same job other same) ∙ its))
          by_number false old = on number other old its

  there-beside : (given : ℕ) (jobs : List Job) (out : Jobs) (number : ℕ) (job : Job) → number ≤ given → OtherJobs given jobs → map.get out number ≡ Some job
      → map.get (with_jobs jobs out) number ≡ Some job
  there-beside given [] out number job low others there = there
  there-beside given (other ∷ jobs) out number job low others there =
      there-beside given jobs (map.insert out other.number other) number job low others.1
      (inserted out other number ∙ ap (λ b. cond b (Some other) (map.get out number)) (ne_eqb number other.number (λ e. absurd (omega (arith, e, low, others.0.1)))) ∙ there)

module _ (meaning : Meaning) (g : ℕ) (snapshot : SnapshotData) (pass : NativePass) (file : FileId) where
  abbrev Said : FileId → List Diagnostic
  Said = found meaning snapshot pass

  messages-said : (messages : List TaskMsg) (out : Jobs) (before : Option (List Diagnostic)) → WorkOn g snapshot out → AreHonest meaning.answer out messages
      → EndWell g messages out → IsSaid Said file before → IsSaid Said file (brought_past messages out pass g file before)
  messages-said [] out before on honest well h = h
  messages-said (message ∷ messages) out before on honest well h =
      messages-said messages (jobs_after message out) (brought_by (work_ended message out) pass g file before) (work-past g snapshot message out on) honest.1 well.1
      (message-said meaning g snapshot pass file message out on honest.0 well.0 before h)

  module _ (number : ℕ) (job : Job) (files : List FileId) (kind : job.kind ≡ kinds.Diagnostics g pass files) (has : is_among Said file files ≡ true) where
    -- a list has come for the file, or the job that has it is out
    abbrev pub Covers : Option (List Diagnostic) → Jobs → Type 0
    Covers before out = (is_some before ≡ true) ⊎ (map.get out number ≡ Some job)

    messages-cover : (messages : List TaskMsg) (out : Jobs) (before : Option (List Diagnostic)) → WorkOn g snapshot out → AreHonest meaning.answer out messages
        → EndWell g messages out → Covers before out → Covers (brought_past messages out pass g file before) (after_batch messages out)
    messages-cover [] out before on honest well h = h
    messages-cover (message ∷ messages) out before on honest well h =
        messages-cover messages (jobs_after message out) (brought_by (work_ended message out) pass g file before) (work-past g snapshot message out on) honest.1 well.1 (by_cover h)
      where
        by_cover : Covers before out → Covers (brought_by (work_ended message out) pass g file before) (jobs_after message out)
        by_cover (inl some) = inl (brought-some (work_ended message out) pass g file before some)
        by_cover (inr there) = message-covers meaning g snapshot pass file message out on honest.0 well.0 before number job files there kind has

    turns-cover : (given : ℕ) (turns : List Turn) (out : Jobs) (before : Option (List Diagnostic)) → number ≤ given → WorkOn g snapshot out
        → AreHonestTurns meaning out turns → AllEndWell g turns out → OtherTurns g snapshot given turns → Covers before out
        → Covers (brought_in turns out pass g file before) (out_after_all turns out)
    turns-cover given [] out before low on honest well others h = h
    turns-cover given (turn ∷ turns) out before low on honest well others h =
        turns-cover given turns (out_after turn out) (brought_past (batch_of turn.input) out pass g file before) low
        (work-beside g snapshot given (spawned turn.commands) (after_batch (batch_of turn.input) out) others.0 (work-past-all g snapshot (batch_of turn.input) out on))
        honest.1 well.1 others.1 (by_cover (messages-cover (batch_of turn.input) out before on honest.0 well.0 h))
      where
        by_cover : Covers (brought_past (batch_of turn.input) out pass g file before) (after_batch (batch_of turn.input) out)
            → Covers (brought_past (batch_of turn.input) out pass g file before) (out_after turn out)
        by_cover (inl some) = inl some
        by_cover (inr there) =
            inr (there-beside g snapshot given (spawned turn.commands) (after_batch (batch_of turn.input) out) number job low others.0 there)

  turns-said : (given : ℕ) (turns : List Turn) (out : Jobs) (before : Option (List Diagnostic)) → WorkOn g snapshot out
      → AreHonestTurns meaning out turns → AllEndWell g turns out → OtherTurns g snapshot given turns → IsSaid Said file before
      → IsSaid Said file (brought_in turns out pass g file before)
  turns-said given [] out before on honest well others h = h
  turns-said given (turn ∷ turns) out before on honest well others h =
      turns-said given turns (out_after turn out) (brought_past (batch_of turn.input) out pass g file before)
      (work-beside g snapshot given (spawned turn.commands) (after_batch (batch_of turn.input) out) others.0 (work-past-all g snapshot (batch_of turn.input) out on))
      honest.1 well.1 others.1 (messages-said (batch_of turn.input) out before on honest.0 well.0 h)

  some-said : (o : Option (List Diagnostic)) → is_some o ≡ true → IsSaid Said file o → o ≡ Some (Said file)
  some-said None some said = absurd (false≢true some)
  some-said (Some list) some said = ap Some (said list refl)

  -- where none is out any more, what the turns bring of the file is what is found in it
  pub turns-bring : (number : ℕ) (job : Job) (files : List FileId) (given : ℕ) (turns : List Turn) (out : Jobs) (before : Option (List Diagnostic))
      → job.kind ≡ kinds.Diagnostics g pass files → is_among Said file files ≡ true → map.get out number ≡ Some job → number ≤ given
      → WorkOn g snapshot out → AreHonestTurns meaning out turns → AllEndWell g turns out → OtherTurns g snapshot given turns → IsSaid Said file before
      → IsNoneOut (is_of g) (out_after_all turns out) → brought_in turns out pass g file before ≡ Some (Said file)
  turns-bring number job files given turns out before kind has there low on honest well others said none =
      some-said (brought_in turns out pass g file before)
      (by_cover (turns-cover number job files kind has given turns out before low on honest well others (inr there)))
      (turns-said given turns out before on honest well others said)
    where
      its : is_of g job.kind ≡ true
      its = ap (is_of g) kind ∙ eq-eqb g g refl

      by_cover : Covers number job files kind has (brought_in turns out pass g file before) (out_after_all turns out)
          → is_some (brought_in turns out pass g file before) ≡ true
      by_cover (inl some) = some
      by_cover (inr still) = absurd (false≢true (sym (none number job still) ∙ its))
