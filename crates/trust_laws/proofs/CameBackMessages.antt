-- What the messages of honest jobs bring, where those of a batch end with values.
use Rattle.std.proofs.Common.{◌≡◌, ℕ, List, [], ◌∷◌, Bool, true, false, cond, inl, inr, refl, sym, ap, ◌∙◌, subst, eq-eqb}
use Rattle.std.specs.Prelude.{◌⊎◌, ◌&&◌, ◌==◌, nat_eq, not, map as each, Option, None, Some, IfSome, is_some, option_and_then, Result, Ok, Err, if◌then◌else◌}
use Rattle.std.specs.FinMap as map
use Rattle.std.specs.Cmp.{nat_cmp_total, unsigned_tied}
use Rattle.std.proofs.lemmas.Bool.{eqb-true, false≢true}
use Rattle.docs_vfs.specs.declared.file_kinds.FileId.{FileId}
use Rattle.lsp_types.specs.declared.diagnostic.Diagnostic.{Diagnostic}
use Rattle.op_board.specs.Runs.{same_pass}
use Rattle.op_board.specs.declared.diagnostic.NativePass.{NativePass}
use Rattle.op_board.specs.declared.diagnostic.NativePass.TheVariants.{Syntax, Semantic}
use Rattle.analysis_host.specs.Answers.{OutcomeSpec}
use Rattle.analysis_host.specs.SnapshotData.{SnapshotData}
use Rattle.session_port.specs.Honest.{IsEndOf, IsHonestEnd, IsHonestMessage, IsResultOf}
use Rattle.session_port.specs.Jobs.{Jobs, final_of, fitting_job, jobs_after}
use Rattle.session_port.specs.Kinds.{asks_of, pass_ask}
use Rattle.session_port.specs.Results.{answers_in, joined, lists_of, or_fault, result_of}
use Rattle.session_port.specs.declared.event.TaskMsg.{TaskMsg}
use Rattle.session_port.specs.declared.job.Job.{Job}
use Rattle.session_port.specs.declared.job.JobKind.{JobKind}
use Rattle.session_port.specs.declared.job.JobKind.TheVariants as kinds
use Rattle.session_port.specs.declared.job.JobResult.{JobResult}
use Rattle.session_port.specs.declared.job.JobResult.TheVariants.{Value, Fault, Cancelled, NoMemory}
use Rattle.session_port.specs.declared.job.JobValue.{JobValue}
use Rattle.session_port.specs.declared.job.JobValue.TheVariants as values
use Rattle.desk.specs.Meaning.{Meaning}
use Rattle.desk.specs.WorkEnds.{build_end, check_end, fetch_end, lists_end, load_end, tests_end, value_or_reason, work_end_of, work_ended, work_told}
use Rattle.desk.specs.declared.state.ends.WorkEnd.{WorkEnd}
use Rattle.desk.specs.declared.state.ends.WorkEnd.TheVariants.{Fetched, Built, Checked, Loaded, Diagnosed, Tested}
use Rattle.desk_laws.proofs.Fitting.{after_message-going, after_message-none, after_message-some}
use Rattle.diagnostics_laws.specs.Batches.{brought_by, list_among}
use Rattle.trust_laws.specs.CameBack.{WorkOn, ends_well, fitting_ends_well, found, is_of}
use Rattle.trust_laws.proofs.CameBack.{IsSaid, among-has, among-said, among-some, is_among, lists-found, or_fault-value}
use Rattle.diagnostics_laws.proofs.KeyedBools.{and-left, and-right, true-false}

abbrev Lists : Type 0
Lists = List (FileId × List Diagnostic)

-- ---- what a job ends that is no batch's

-- lists, if it ends some
abbrev pub OnlyLists : (ℕ → NativePass → Lists → Type 0) → Option WorkEnd → Type 0
OnlyLists P (Some (Diagnosed generation pass lists)) = P generation pass lists
OnlyLists P other = Unit {0}

module _ (P : ℕ → NativePass → Lists → Type 0) where
  fetch-lists : (came : Result JobValue (List ℕ)) → OnlyLists P (fetch_end came)
  fetch-lists (Ok (values.Json value)) = tt
  fetch-lists (Ok (values.Diagnostics lists)) = tt
  fetch-lists (Ok (values.Tests tests)) = tt
  fetch-lists (Ok (values.Roots paths)) = tt
  fetch-lists (Ok values.Primed) = tt
  fetch-lists (Ok (values.Workspaces results)) = tt
  fetch-lists (Ok (values.BuildData results)) = tt
  fetch-lists (Ok (values.ProcMacros macros)) = tt
  fetch-lists (Err reason) = tt

  build-lists : (came : Result JobValue (List ℕ)) → OnlyLists P (build_end came)
  build-lists (Ok (values.Json value)) = tt
  build-lists (Ok (values.Diagnostics lists)) = tt
  build-lists (Ok (values.Tests tests)) = tt
  build-lists (Ok (values.Roots paths)) = tt
  build-lists (Ok values.Primed) = tt
  build-lists (Ok (values.Workspaces results)) = tt
  build-lists (Ok (values.BuildData results)) = tt
  build-lists (Ok (values.ProcMacros macros)) = tt
  build-lists (Err reason) = tt

  load-lists : (came : Result JobValue (List ℕ)) → OnlyLists P (load_end came)
  load-lists (Ok (values.Json value)) = tt
  load-lists (Ok (values.Diagnostics lists)) = tt
  load-lists (Ok (values.Tests tests)) = tt
  load-lists (Ok (values.Roots paths)) = tt
  load-lists (Ok values.Primed) = tt
  load-lists (Ok (values.Workspaces results)) = tt
  load-lists (Ok (values.BuildData results)) = tt
  load-lists (Ok (values.ProcMacros macros)) = tt
  load-lists (Err reason) = tt

  check-lists : (came : Result JobValue (List ℕ)) → OnlyLists P (check_end came)
  check-lists (Ok (values.Json value)) = tt
  check-lists (Ok (values.Diagnostics lists)) = tt
  check-lists (Ok (values.Tests tests)) = tt
  check-lists (Ok (values.Roots paths)) = tt
  check-lists (Ok values.Primed) = tt
  check-lists (Ok (values.Workspaces results)) = tt
  check-lists (Ok (values.BuildData results)) = tt
  check-lists (Ok (values.ProcMacros macros)) = tt
  check-lists (Err reason) = tt

  tests-lists : (files : List FileId) (result : JobResult) → OnlyLists P (tests_end files result)
  tests-lists files (Value (values.Json value)) = tt
  tests-lists files (Value (values.Diagnostics lists)) = tt
  tests-lists files (Value (values.Tests tests)) = tt
  tests-lists files (Value (values.Roots paths)) = tt
  tests-lists files (Value values.Primed) = tt
  tests-lists files (Value (values.Workspaces results)) = tt
  tests-lists files (Value (values.BuildData results)) = tt
  tests-lists files (Value (values.ProcMacros macros)) = tt
  tests-lists files (Fault code message) = tt
  tests-lists files (Cancelled saw) = tt
  tests-lists files NoMemory = tt

  pub kind-lists : (kind : JobKind) (result : JobResult)
      → ((generation : ℕ) (pass : NativePass) (files : List FileId) → kind ≡ kinds.Diagnostics generation pass files → OnlyLists P (lists_end generation pass files result))
      → OnlyLists P (work_end_of kind result)
  kind-lists (kinds.Diagnostics g pass files) result h = h g pass files refl
  kind-lists (kinds.Tests files) result h = tests-lists files result
  kind-lists (kinds.Request ticket row params) result h = tt
  kind-lists (kinds.Part ticket part row params files) result h = tt
  kind-lists (kinds.Indexed file path) result h = tt
  kind-lists (kinds.ProcMacroSources files) result h = check-lists (value_or_reason result)
  kind-lists (kinds.CheckScope file path) result h = tt
  kind-lists kinds.Prime result h = tt
  kind-lists (kinds.FetchWorkspaces projects detached path force) result h = fetch-lists (value_or_reason result)
  kind-lists (kinds.FetchBuildData version) result h = build-lists (value_or_reason result)
  kind-lists (kinds.LoadProcMacros paths ignored) result h = load-lists (value_or_reason result)

-- ---- what an end brings

module _ (Q : Option (List Diagnostic) → Type 0) (pass : NativePass) (g : ℕ) (file : FileId) (before : Option (List Diagnostic)) where
  pub brought-of : (end : Option WorkEnd)
      → OnlyLists (λ of_generation of_pass lists. (same_pass pass of_pass && nat_eq g of_generation) ≡ true → Q (list_among file lists before)) end
      → Q before → Q (brought_by end pass g file before)
  brought-of None h q = q
  brought-of (Some (Fetched found)) h q = q
  brought-of (Some (Built made)) h q = q
  brought-of (Some (Checked paths)) h q = q
  brought-of (Some (Loaded told)) h q = q
  brought-of (Some (Tested files tests)) h q = q
  brought-of (Some (Diagnosed of_generation of_pass lists)) h q = by_test (same_pass pass of_pass && nat_eq g of_generation) refl
    where
      by_test : (b : Bool) → (same_pass pass of_pass && nat_eq g of_generation) ≡ b → Q (if b then list_among file lists before else before)
      by_test true is = h is
      by_test false is = q

-- what was brought stays so, whatever ends
pub brought-some : (end : Option WorkEnd) (pass : NativePass) (g : ℕ) (file : FileId) (before : Option (List Diagnostic)) → is_some before ≡ true
    → is_some (brought_by end pass g file before) ≡ true
brought-some end pass g file before some = brought-of (λ o. is_some o ≡ true) pass g file before end (any end) some
  where
    any : (end : Option WorkEnd) → OnlyLists (λ of_generation of_pass lists. (same_pass pass of_pass && nat_eq g of_generation) ≡ true
        → is_some (list_among file lists before) ≡ true) end
    any None = tt
    any (Some (Fetched found)) = tt
    any (Some (Built made)) = tt
    any (Some (Checked paths)) = tt
    any (Some (Loaded told)) = tt
    any (Some (Tested files tests)) = tt
    any (Some (Diagnosed of_generation of_pass lists)) = λ is. among-some (λ f. []) file lists before some

-- ---- what an honest job ends with

value-is : (value other : JobValue) → Value value ≡ Value other → value ≡ other
value-is value other e = cc

each-each : {X Y Z : Type 0} (f : Y → Z) (g : X → Y) (xs : List X) → each f (each g xs) ≡ each (λ x. f (g x)) xs
each-each f g [] = refl
each-each f g (x ∷ xs) = ap (λ l. f (g x) ∷ l) (each-each f g xs)

pub value-lists : (meaning : Meaning) (job : Job) (g : ℕ) (pass : NativePass) (files : List FileId) (value : JobValue) → job.kind ≡ kinds.Diagnostics g pass files
    → IsResultOf meaning.answer job (Value value) → value ≡ values.Diagnostics (each (λ f. (f, found meaning job.snapshot pass f)) files)
value-lists meaning job g pass files value kind is =
    let ask = λ (f : FileId). meaning.answer job.snapshot (pass_ask pass f) in
    let findings = each (meaning.answer job.snapshot) (each (pass_ask pass) files) in
    let its : Value value ≡ result_of (kinds.Diagnostics g pass files) findings =
    subst (λ (k : JobKind). IsEndOf k (each (meaning.answer job.snapshot) (asks_of k)) (Value value)) kind is in
    let same = each-each (meaning.answer job.snapshot) (pass_ask pass) files in
    let value_is = or_fault-value findings (Value (joined (kinds.Diagnostics g pass files) (answers_in findings))) value (sym its) in
    sym (value-is _ _ value_is)
    ∙ ap (λ (l : List OutcomeSpec). values.Diagnostics (lists_of files (answers_in l))) same
    ∙ ap values.Diagnostics (lists-found ask files (Value (joined (kinds.Diagnostics g pass files) (answers_in findings))) value
    (ap (λ (l : List OutcomeSpec). or_fault l (Value (joined (kinds.Diagnostics g pass files) (answers_in findings)))) (sym same) ∙ sym its))

same_pass-is : (pass other : NativePass) → same_pass pass other ≡ true → pass ≡ other
same_pass-is Syntax Syntax is = refl
same_pass-is Syntax Semantic is = true-false (sym is)
same_pass-is Semantic Syntax is = true-false (sym is)
same_pass-is Semantic Semantic is = refl

same_pass-refl : (pass : NativePass) → same_pass pass pass ≡ true
same_pass-refl Syntax = refl
same_pass-refl Semantic = refl

not-true : (b : Bool) → not b ≡ true → b ≡ true → ⊥
not-true true is here = false≢true is
not-true false is here = false≢true here

module _ (meaning : Meaning) (g : ℕ) (snapshot : SnapshotData) (pass : NativePass) (file : FileId) where
  abbrev Said : FileId → List Diagnostic
  Said = found meaning snapshot pass

  -- what a job of the batch brings is what the analysis finds
  module _ (Q : Option (List Diagnostic) → Type 0) (before : Option (List Diagnostic)) (given : (files : List FileId) → Q (list_among file (each (λ f. (f, Said f)) files) before))
      (job : Job) (on : is_of g job.kind ≡ true → job.snapshot ≡ snapshot) (of_generation : ℕ) (of_pass : NativePass) (files : List FileId)
      (kind : job.kind ≡ kinds.Diagnostics of_generation of_pass files) where
    abbrev Brings : Option WorkEnd → Type 0
    Brings end = OnlyLists (λ of_generation of_pass lists. (same_pass pass of_pass && nat_eq g of_generation) ≡ true → Q (list_among file lists before)) end

    is-of : nat_eq g of_generation ≡ true → is_of g job.kind ≡ true
    is-of same = ap (is_of g) kind ∙ same

    its-lists : (same_pass pass of_pass && nat_eq g of_generation) ≡ true
        → Q (list_among file (each (λ f. (f, found meaning job.snapshot of_pass f)) files) before)
    its-lists test =
        subst (λ p. Q (list_among file (each (λ f. (f, found meaning job.snapshot p f)) files) before)) (same_pass-is pass of_pass (and-left (same_pass pass of_pass) (nat_eq g of_generation) test))
        (subst (λ s. Q (list_among file (each (λ f. (f, found meaning s pass f)) files) before)) (sym (on (is-of (and-right (same_pass pass of_pass) (nat_eq g of_generation) test))))
        (given files))

    result-brings : (result : JobResult) → IsResultOf meaning.answer job result → ends_well g job.kind (Some result) ≡ true
        → Brings (lists_end of_generation of_pass files result)
    result-brings (Value value) is well =
        subst (λ v. Brings (lists_end of_generation of_pass files (Value v))) (sym (value-lists meaning job of_generation of_pass files value kind is)) its-lists
    result-brings (Fault code message) is well =
        λ test. absurd (not-true (is_of g job.kind) well (is-of (and-right (same_pass pass of_pass) (nat_eq g of_generation) test)))
    result-brings (Cancelled saw) is well = tt
    result-brings NoMemory is well = tt

  job-brings : (Q : Option (List Diagnostic) → Type 0) (before : Option (List Diagnostic)) (job : Job) (result : JobResult)
      → ((files : List FileId) → Q (list_among file (each (λ f. (f, Said f)) files) before)) → Q before
      → (is_of g job.kind ≡ true → job.snapshot ≡ snapshot) → IsResultOf meaning.answer job result → ends_well g job.kind (Some result) ≡ true
      → Q (brought_by (work_end_of job.kind result) pass g file before)
  job-brings Q before job result given q on is well =
      brought-of Q pass g file before (work_end_of job.kind result)
      (kind-lists _ job.kind result (λ of_generation of_pass files kind. result-brings Q before given job on of_generation of_pass files kind result is well)) q

  -- of a message
  module _ (message : TaskMsg) (out : Jobs) (on : WorkOn g snapshot out) (honest : IsHonestMessage meaning.answer out message)
      (well : fitting_ends_well g (fitting_job message out) (final_of message.body) ≡ true) where
    same-job : (job other : Job) (result : JobResult) → final_of message.body ≡ Some result → fitting_job message out ≡ Some job → map.get out message.job ≡ Some other → other ≡ job
    same-job job other result final fits there =
        let its = (after_message-some message out job result final fits).1 in
        let same : Some other ≡ Some job = sym there ∙ its in cc

    honest-end : (job : Job) (result : JobResult) → final_of message.body ≡ Some result → fitting_job message out ≡ Some job → IsResultOf meaning.answer job result
    honest-end job result final fits =
        let end : IsHonestEnd meaning.answer out message.job result = subst (λ (f : Option JobResult). IfSome f (IsHonestEnd meaning.answer out message.job)) final honest in
        subst (λ j. IsResultOf meaning.answer j result) (same-job job end.job result final fits end.is_out) end.is_result

    well-end : (job : Job) (result : JobResult) → final_of message.body ≡ Some result → fitting_job message out ≡ Some job → ends_well g job.kind (Some result) ≡ true
    well-end job result final fits =
        subst (λ (f : Option JobResult). ends_well g job.kind f ≡ true) final (subst (λ (o : Option Job). fitting_ends_well g o (final_of message.body) ≡ true) fits well)

    pub message-said : (before : Option (List Diagnostic)) → IsSaid Said file before → IsSaid Said file (brought_by (work_ended message out) pass g file before)
    message-said before h = by_job (fitting_job message out) refl
      where
        by_final : (job : Job) → fitting_job message out ≡ Some job → (f : Option JobResult) → final_of message.body ≡ f
            → IsSaid Said file (brought_by (option_and_then (work_end_of job.kind) f) pass g file before)
        by_final job fits None final = h
        by_final job fits (Some result) final =
            job-brings (IsSaid Said file) before job result (λ files. among-said Said file files before h) h
            (on message.job job (after_message-some message out job result final fits).1) (honest-end job result final fits) (well-end job result final fits)

        by_job : (o : Option Job) → fitting_job message out ≡ o → IsSaid Said file (brought_by (work_told message o) pass g file before)
        by_job None fits = h
        by_job (Some job) fits = by_final job fits (final_of message.body) refl

    -- a job of the batch that has this file is out still, or it has brought a list
    module _ (before : Option (List Diagnostic)) (number : ℕ) (job : Job) (files : List FileId) (there : map.get out number ≡ Some job)
        (kind : job.kind ≡ kinds.Diagnostics g pass files) (has : is_among Said file files ≡ true) where
      abbrev Comes : Option WorkEnd → Type 0
      Comes end = (is_some (brought_by end pass g file before) ≡ true) ⊎ (map.get (jobs_after message out) number ≡ Some job)

      stays : jobs_after message out ≡ out → map.get (jobs_after message out) number ≡ Some job
      stays same = ap (λ o. map.get o number) same ∙ there

      removed : map.get (map.remove out message.job) number ≡ cond (number == message.job) None (map.get out number)
      removed = map.get-remove nat_cmp_total out message.job number ∙ ap (λ b. cond b None (map.get out number)) (unsigned_tied number message.job)

      same-test : (same_pass pass pass && nat_eq g g) ≡ true
      same-test = ap (λ b. b && nat_eq g g) (same_pass-refl pass) ∙ eq-eqb g g refl

      brings-it : (value : JobValue) → IsResultOf meaning.answer job (Value value) → is_some (brought_by (work_end_of job.kind (Value value)) pass g file before) ≡ true
      brings-it value is =
          ap (λ k. is_some (brought_by (work_end_of k (Value value)) pass g file before)) kind
          ∙ ap (λ v. is_some (brought_by (lists_end g pass files (Value v)) pass g file before)) (value-lists meaning job g pass files value kind is)
          ∙ ap (λ b. is_some (if b then list_among file (each (λ f. (f, found meaning job.snapshot pass f)) files) before else before)) same-test
          ∙ among-has (found meaning job.snapshot pass) file files before has

      is-its : is_of g job.kind ≡ true
      is-its = ap (is_of g) kind ∙ eq-eqb g g refl

      by-result : (result : JobResult) → IsResultOf meaning.answer job result → ends_well g job.kind (Some result) ≡ true → Comes (work_end_of job.kind result)
      by-result (Value value) is well = inl (brings-it value is)
      by-result (Fault code message) is well = absurd (not-true (is_of g job.kind) well is-its)
      by-result (Cancelled saw) is well = absurd (not-true (is_of g job.kind) well is-its)
      by-result NoMemory is well = absurd (not-true (is_of g job.kind) well is-its)

      by-number : (ended : Job) (result : JobResult) → final_of message.body ≡ Some result → fitting_job message out ≡ Some ended → (b : Bool) → (number == message.job) ≡ b
          → Comes (work_end_of ended.kind result)
      by-number ended result final fits false other =
          inr (ap (λ o. map.get o number) (after_message-some message out ended result final fits).0 ∙ removed ∙ ap (λ b. cond b None (map.get out number)) other ∙ there)
      by-number ended result final fits true same =
          let its : job ≡ ended = same-job ended job result final fits (ap (map.get out) (sym (eqb-true number message.job same)) ∙ there) in
          subst (λ (j : Job). Comes (work_end_of j.kind result)) its
          (by-result result (subst (λ j. IsResultOf meaning.answer j result) (sym its) (honest-end ended result final fits))
          (subst (λ (j : Job). ends_well g j.kind (Some result) ≡ true) (sym its) (well-end ended result final fits)))

      by-final : (ended : Job) → fitting_job message out ≡ Some ended → (f : Option JobResult) → final_of message.body ≡ f
          → Comes (option_and_then (work_end_of ended.kind) f)
      by-final ended fits None final = inr (stays (after_message-going message out final))
      by-final ended fits (Some result) final = by-number ended result final fits (number == message.job) refl

      by-job : (o : Option Job) → fitting_job message out ≡ o → Comes (work_told message o)
      by-job None fits = inr (stays (after_message-none message out fits))
      by-job (Some ended) fits = by-final ended fits (final_of message.body) refl

      pub message-covers : Comes (work_ended message out)
      message-covers = by-job (fitting_job message out) refl
