-- A turn that asks for a batch hands over a job that has each file which is shown, in each pass.
use Rattle.std.proofs.Common.{◌≡◌, ◌+◌, ◌++◌, ◌⊎◌, ℕ, suc, zero, List, [], ◌∷◌, Bool, true, false, inl, inr, refl, sym, ap, ◌∙◌, subst, arith}
use Rattle.std.specs.Prelude.{◌||◌, max, map as each, Some, is_some, if◌then◌else◌}
use Rattle.std.specs.List.{flat_map, list_any}
use Rattle.std.proofs.lemmas.Bool.{false≢true}
use Rattle.docs_vfs.specs.declared.file_kinds.FileId.{FileId}
use Rattle.op_board.specs.Board.{next_generation}
use Rattle.op_board.specs.Runs.{same_file}
use Rattle.op_board.specs.declared.diagnostic.NativePass.{NativePass}
use Rattle.op_board.specs.declared.diagnostic.NativePass.TheVariants.{Syntax, Semantic}
use Rattle.analysis_host.specs.SnapshotData.{SnapshotData}
use Rattle.session_port.specs.declared.job.Job.{Job}
use Rattle.session_port.specs.declared.job.JobKind.{JobKind}
use Rattle.session_port.specs.declared.job.JobKind.TheVariants as kinds
use Rattle.session_model.specs.Diagnosing.{batch_kinds, list_kinds, lists_asked, shows_diagnostics, slice_count, slice_kinds, slices, subscribed, tests_asked}
use Rattle.session_model.specs.OwnJobs.{OwnJob, awaited_job, batch_jobs, numbered_behind}
use Rattle.session_model.specs.State.{State, snapshot_of}
use Rattle.session_laws.proofs.Slicing.{slices-join}

module _ (g : ℕ) (pass : NativePass) (file : FileId) (snapshot : SnapshotData) where
  -- lists of the file are asked for, in the pass and the generation
  pub record Asked (kind : JobKind) : Type 0 where
    pub files : List FileId
    pub is : kind ≡ kinds.Diagnostics g pass files
    pub has : list_any (same_file file) files ≡ true

  abbrev AnyKind : List JobKind → Type 0
  AnyKind [] = ⊥
  AnyKind (kind ∷ later) = Asked kind ⊎ AnyKind later

  abbrev pub AnyOwn : List OwnJob → Type 0
  AnyOwn [] = ⊥
  AnyOwn (own ∷ later) = (Asked own.kind × (own.snapshot ≡ snapshot)) ⊎ AnyOwn later

  abbrev pub AnyJob : List Job → Type 0
  AnyJob [] = ⊥
  AnyJob (job ∷ later) = (Asked job.kind × (job.snapshot ≡ snapshot)) ⊎ AnyJob later

  kind-left : (xs ys : List JobKind) → AnyKind xs → AnyKind (xs ++ ys)
  kind-left [] ys any = absurd any
  kind-left (x ∷ xs) ys (inl here) = inl here
  kind-left (x ∷ xs) ys (inr later) = inr (kind-left xs ys later)

  kind-right : (xs ys : List JobKind) → AnyKind ys → AnyKind (xs ++ ys)
  kind-right [] ys any = any
  kind-right (x ∷ xs) ys any = inr (kind-right xs ys any)

  pub own-left : (xs ys : List OwnJob) → AnyOwn xs → AnyOwn (xs ++ ys)
  own-left [] ys any = absurd any
  own-left (x ∷ xs) ys (inl here) = inl here
  own-left (x ∷ xs) ys (inr later) = inr (own-left xs ys later)

  pub own-right : (xs ys : List OwnJob) → AnyOwn ys → AnyOwn (xs ++ ys)
  own-right [] ys any = any
  own-right (x ∷ xs) ys any = inr (own-right xs ys any)

  pub job-right : (xs ys : List Job) → AnyJob ys → AnyJob (xs ++ ys)
  job-right [] ys any = any
  job-right (x ∷ xs) ys any = inr (job-right xs ys any)

  pub numbered-any : (last : ℕ) (own : List OwnJob) → AnyOwn own → AnyJob (numbered_behind last own)
  numbered-any last [] any = absurd any
  numbered-any last (job ∷ later) (inl here) = inl here
  numbered-any last (job ∷ later) (inr any) = inr (numbered-any (last + 1) later any)

  -- ---- in a slice

  among-append : (xs ys : List FileId) → list_any (same_file file) (xs ++ ys) ≡ (list_any (same_file file) xs || list_any (same_file file) ys)
  among-append [] ys = refl
  among-append (x ∷ xs) ys = by_test (among-append xs ys) (same_file file x)
    where
      by_test : list_any (same_file file) (xs ++ ys) ≡ (list_any (same_file file) xs || list_any (same_file file) ys) → (b : Bool)
          → (b || list_any (same_file file) (xs ++ ys)) ≡ ((b || list_any (same_file file) xs) || list_any (same_file file) ys)
      by_test later true = refl
      by_test later false = later

  -- the pass is asked for, where a fetch has ended or not
  abbrev pub IsAsked : Bool → NativePass → Type 0
  IsAsked fetched Syntax = Unit {0}
  IsAsked fetched Semantic = fetched ≡ true

  slice-asks : (fetched : Bool) (slice : List FileId) → IsAsked fetched pass → list_any (same_file file) slice ≡ true → AnyKind (slice_kinds g fetched slice)
  slice-asks fetched slice asked has = by_pass pass refl asked
    where
      by_pass : (p : NativePass) → pass ≡ p → IsAsked fetched p → AnyKind (slice_kinds g fetched slice)
      by_pass Syntax same its = inl (record { files = slice; is = ap (λ p. kinds.Diagnostics g p slice) (sym same); has = has })
      by_pass Semantic same its =
          inr (subst (λ b. AnyKind (if b then kinds.Diagnostics g Semantic slice ∷ [] else [])) (sym its)
          (inl (record { files = slice; is = ap (λ p. kinds.Diagnostics g p slice) (sym same); has = has })))

  slices-ask : (fetched : Bool) (parts : List (List FileId)) → IsAsked fetched pass → list_any (same_file file) (flat_map (λ slice. slice) parts) ≡ true
      → AnyKind (list_kinds g fetched parts)
  slices-ask fetched [] asked has = absurd (false≢true has)
  slices-ask fetched (slice ∷ parts) asked has =
      by_slice (slices-ask fetched parts asked) (list_any (same_file file) slice) refl (sym (among-append slice (flat_map (λ slice. slice) parts)) ∙ has)
    where
      by_slice : (list_any (same_file file) (flat_map (λ slice. slice) parts) ≡ true → AnyKind (list_kinds g fetched parts)) → (b : Bool)
          → list_any (same_file file) slice ≡ b → (b || list_any (same_file file) (flat_map (λ slice. slice) parts)) ≡ true
          → AnyKind (slice_kinds g fetched slice ++ list_kinds g fetched parts)
      by_slice later true is some = kind-left (slice_kinds g fetched slice) (list_kinds g fetched parts) (slice-asks fetched slice asked is)
      by_slice later false is some = kind-right (slice_kinds g fetched slice) (list_kinds g fetched parts) (later some)

  at-least-one : (n : ℕ) → (m : ℕ) × (max n 1 ≡ suc m)
  at-least-one zero = (zero, refl)
  at-least-one (suc n) = (n, omega arith)

  -- ---- in a batch

  module _ (st : State) (shows : shows_diagnostics st.client.settings ≡ true) (next : next_generation st.board ≡ Some g)
      (asked : IsAsked (is_some st.workspaces.fetches.queue.last) pass) (shown : list_any (same_file file) (subscribed st.files) ≡ true)
      (its : snapshot_of st ≡ snapshot) where
    abbrev Fetched : Bool
    Fetched = is_some st.workspaces.fetches.queue.last

    slices-have : list_any (same_file file) (flat_map (λ slice. slice) (slices (slice_count st.client.settings) (subscribed st.files))) ≡ true
    slices-have = by_count (slice_count st.client.settings) (at-least-one _)
      where
        by_count : (count : ℕ) → (m : ℕ) × (count ≡ suc m) → list_any (same_file file) (flat_map (λ slice. slice) (slices count (subscribed st.files))) ≡ true
        by_count count (m, same) =
            ap (λ n. list_any (same_file file) (flat_map (λ slice. slice) (slices n (subscribed st.files)))) same
            ∙ ap (list_any (same_file file)) (slices-join m (subscribed st.files)) ∙ shown

    kinds-ask : AnyKind (batch_kinds st)
    unfolding batch_kinds
    kinds-ask =
        kind-left (if shows_diagnostics st.client.settings then lists_asked (next_generation st.board) st else [])
        (if st.client.settings.capabilities.test_explorer then tests_asked (subscribed st.files) else [])
        (subst (λ b. AnyKind (if b then lists_asked (next_generation st.board) st else [])) (sym shows)
        (subst (λ o. AnyKind (lists_asked o st)) (sym next) (slices-ask Fetched (slices (slice_count st.client.settings) (subscribed st.files)) asked slices-have)))

    own-ask : (kinds : List JobKind) → AnyKind kinds → AnyOwn (each (awaited_job st) kinds)
    own-ask [] any = absurd any
    own-ask (kind ∷ later) (inl here) = inl (here, its)
    own-ask (kind ∷ later) (inr any) = inr (own-ask later any)

    pub batch-asks : AnyOwn (batch_jobs st)
    batch-asks = own-ask (batch_kinds st) kinds-ask
