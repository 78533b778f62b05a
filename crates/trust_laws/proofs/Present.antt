-- A quiescent session shows what the analysis finds on the present world.
use Rattle.std.proofs.Common.{◌≡◌, ◌<◌, ◌+◌, ◌++◌, ℕ, List, [], ◌∷◌, Bool, true, false, refl, sym, ap, ◌∙◌, subst, arith}
use Rattle.std.specs.Prelude.{Option, None, Some, is_some, nat_lt, if◌then◌else◌}
use Rattle.std.specs.List.{list_any}
use Rattle.std.specs.FinMap as map
use Rattle.std.proofs.lemmas.Bool.{false≢true}
use Rattle.std.proofs.lemmas.Result.{IfOk-at_ok}
use Rattle.docs_vfs.specs.FileUrls.{url_of}
use Rattle.docs_vfs.specs.declared.file_kinds.FileId.{FileId}
use Rattle.lsp_types.specs.declared.diagnostic.Diagnostic.{Diagnostic}
use Rattle.op_board.specs.Board.{Board, list_of, most_generations, next_generation}
use Rattle.op_board.specs.Checks.{checks_of}
use Rattle.op_board.specs.Diagnostics.{in_order}
use Rattle.op_board.specs.Runs.{same_file}
use Rattle.op_board.specs.declared.diagnostic.NativePass.{NativePass}
use Rattle.op_board.specs.declared.diagnostic.NativePass.TheVariants.{Syntax, Semantic}
use Rattle.ra_config.specs.Config.{ConfigData}
use Rattle.session_port.specs.Jobs.{Jobs}
use Rattle.desk.specs.Meaning.{Meaning}
use Rattle.session_model.specs.Diagnosing.{shows_diagnostics}
use Rattle.session_model.specs.Inputs.{batch_of}
use Rattle.session_model.specs.Machine.{Turning, step}
use Rattle.session_model.specs.OwnJobs.{before_quiet}
use Rattle.session_model.specs.Places.{Place}
use Rattle.session_model.specs.Run.{AreHonestTurns, Runs, Steps, Turn, out_after, out_after_all, turn_start}
use Rattle.session_model.specs.State.{State, fresh, snapshot_of}
use Rattle.session_model.specs.declared.input.Input.{Input}
use Rattle.session_model.specs.declared.input.Input.TheVariants.{Next, Start}
use Rattle.session_laws.specs.Invariant.{IsNoneOut, StepFits}
use Rattle.session_laws.proofs.Rows.{steps-fit}
use Rattle.quiet_laws.specs.Rest.{AsksNone, asks_batch, is_quiet}
use Rattle.diagnostics_laws.specs.Batches.{brought_in, brought_past}
use Rattle.diagnostics_laws.specs.Shown.{HasBytePaths, shown_at, told_list}
use Rattle.diagnostics_laws.proofs.Publishing.{Took, step-took}
use Rattle.diagnostics_laws.proofs.Standing.{Based, first-based, generations-known, runs-reach}
use Rattle.diagnostics_laws.proofs.StandingShown.{UrlsDiffer}
use Rattle.diagnostics_laws.proofs.StoringGenerations.{steps-generation}
use Rattle.trust_laws.specs.CameBack.{AllCameBack, AllEndWell, found, is_of}
use Rattle.trust_laws.specs.Trusting.{IsAsAtBatch, ShowsFound, is_shown}
use Rattle.trust_laws.proofs.CameBackAsked.{IsAsked}
use Rattle.trust_laws.proofs.CameBackBefore.{low-none, messages-bring-none, run-brings-none}
use Rattle.trust_laws.proofs.CameBackHanded.{HoldsFile, batch-holds, batch-works}
use Rattle.trust_laws.proofs.CameBackOthers.{others-none}
use Rattle.trust_laws.proofs.CameBackTurns.{turns-bring}
use Rattle.trust_laws.proofs.Ending.{shows-brought, shows-syntax}
use Rattle.trust_laws.proofs.Since.{as-at-batch}

-- ---- turns, cut in two

out-append : (xs ys : List Turn) (out : Jobs) → out_after_all (xs ++ ys) out ≡ out_after_all ys (out_after_all xs out)
out-append [] ys out = refl
out-append (x ∷ xs) ys out = out-append xs ys (out_after x out)

brought-append : (xs ys : List Turn) (out : Jobs) (pass : NativePass) (g : ℕ) (file : FileId) (before : Option (List Diagnostic))
    → brought_in (xs ++ ys) out pass g file before ≡ brought_in ys (out_after_all xs out) pass g file (brought_in xs out pass g file before)
brought-append [] ys out pass g file before = refl
brought-append (x ∷ xs) ys out pass g file before = brought-append xs ys (out_after x out) pass g file (brought_past (batch_of x.input) out pass g file before)

honest-append : (meaning : Meaning) (xs ys : List Turn) (out : Jobs) → AreHonestTurns meaning out (xs ++ ys) → AreHonestTurns meaning (out_after_all xs out) ys
honest-append meaning [] ys out honest = honest
honest-append meaning (x ∷ xs) ys out honest = honest-append meaning xs ys (out_after x out) honest.1

well-append : (g : ℕ) (xs ys : List Turn) (out : Jobs) → AllEndWell g (xs ++ ys) out → AllEndWell g ys (out_after_all xs out)
well-append g [] ys out well = well
well-append g (x ∷ xs) ys out well = well-append g xs ys (out_after x out) well.1

turn-out : (meaning : Meaning) (s : State) (turn : Turn) (mid : State) → Steps meaning s turn mid → mid.desk.jobs ≡ out_after turn s.desk.jobs
turn-out meaning s turn mid steps = let fits : StepFits meaning s turn mid = steps-fit meaning s turn mid steps in ap (λ (p : Place). p.desk.jobs) fits.place

runs-out : (meaning : Meaning) (s : State) (turns : List Turn) (last : State) → Runs meaning s turns last → last.desk.jobs ≡ out_after_all turns s.desk.jobs
runs-out meaning s [] last runs = ap (λ (e : State). e.desk.jobs) runs
runs-out meaning s (turn ∷ turns) last (mid, steps, later) =
    runs-out meaning mid turns last later ∙ ap (out_after_all turns) (turn-out meaning s turn mid steps)

-- ---- the batch's generation

next-is : (board : Board) (g : ℕ) → next_generation board ≡ Some g → g ≡ board.generation + 1
next-is board g is = by_test (nat_lt board.generation most_generations) is
  where
    by_test : (b : Bool) → (if b then Some (board.generation + 1) else None) ≡ Some g → g ≡ board.generation + 1
    by_test true same = let e : Some (board.generation + 1) ≡ Some g = same in cc
    by_test false none = let e : None ≡ Some g = none in absurd cc

generation-at : (meaning : Meaning) (s : State) (turn : Turn) (mid : State) (input : Input) → Based s → turn.input ≡ input → Steps meaning s turn mid
    → asks_batch meaning turn.input s ≡ true → (before_quiet meaning turn.input s).state.board.generation ≡ s.board.generation
generation-at meaning s turn mid Start base input steps asks = absurd (false≢true (sym (ap (λ i. asks_batch meaning i s) input) ∙ asks))
generation-at meaning s turn mid (Next event) base input steps asks =
    let took : Took meaning s event (record { state = mid; out = record { messages = turn.messages; commands = turn.commands } }) =
    IfOk-at_ok (Took meaning s event) (ap (λ i. step meaning i (turn_start s)) (sym input) ∙ steps) (step-took meaning s event base.seen.sound base.fit) in
    ap (λ (i : Input). (before_quiet meaning i s).state.board.generation) input
    ∙ ap (λ (t : Turning). t.state.board.generation) took.before
    ∙ ap (λ (b : Board). b.generation) took.goes.board
    ∙ steps-generation took.t.state.state.files.table s.board.generation took.goes.acts s.board took.goes.fits

module _ (meaning : Meaning) (settings : ConfigData) (before : List Turn) (s : State) (turn : Turn) (mid : State) (after : List Turn) (last : State)
    (ran : Runs meaning (fresh settings) before s) (steps : Steps meaning s turn mid) (runs : Runs meaning mid after last)
    (asks : asks_batch meaning turn.input s ≡ true) (none : AsksNone meaning mid after) (quiet : is_quiet last ≡ true) where
  abbrev At : State
  At = (before_quiet meaning turn.input s).state

  abbrev All : List Turn
  All = before ++ turn ∷ after

  abbrev Last : ℕ
  Last = last.board.generation

  module _ (shows : shows_diagnostics At.client.settings ≡ true) (next : next_generation At.board ≡ Some Last)
      (honest : AreHonestTurns meaning map.empty All) (came : AllCameBack Last All) where
    as-at : IsAsAtBatch At last
    as-at = as-at-batch meaning settings before s turn mid after last ran steps runs asks none quiet

    base : Based s
    base = (runs-reach meaning (fresh settings) before s (first-based meaning settings) ran).based

    low : s.board.generation < Last
    low = omega (arith, generation-at meaning s turn mid turn.input base refl steps asks, next-is At.board Last next)

    none-before : IsNoneOut (is_of Last) s.desk.jobs
    none-before = low-none Last s low (generations-known meaning settings before s ran)

    out-is : out_after_all before map.empty ≡ s.desk.jobs
    out-is = sym (runs-out meaning (fresh settings) before s ran)

    mid-is : out_after turn (out_after_all before map.empty) ≡ mid.desk.jobs
    mid-is = ap (out_after turn) out-is ∙ sym (turn-out meaning s turn mid steps)

    brings : (pass : NativePass) (file : FileId) → IsAsked Last pass file (snapshot_of At) (is_some At.workspaces.fetches.queue.last) pass
        → is_shown last file ≡ true
        → brought_in All map.empty pass Last file None ≡ Some (found meaning (snapshot_of At) pass file)
    brings pass file asked shown =
        let holds : HoldsFile Last pass file (snapshot_of At) mid.desk.jobs mid.desk.last_job =
        batch-holds meaning Last s turn mid steps pass file asks shows next asked (ap (list_any (same_file file)) (sym as-at.files) ∙ shown) in
        brought-append before (turn ∷ after) map.empty pass Last file None
        ∙ ap (brought_in (turn ∷ after) (out_after_all before map.empty) pass Last file) (run-brings-none meaning settings Last pass file before s ran low)
        ∙ ap (brought_in after (out_after turn (out_after_all before map.empty)) pass Last file)
        (ap (λ o. brought_past (batch_of turn.input) o pass Last file None) out-is
        ∙ messages-bring-none Last pass file (batch_of turn.input) s.desk.jobs None none-before)
        ∙ ap (λ o. brought_in after o pass Last file None) mid-is
        ∙ turns-bring meaning Last (snapshot_of At) pass file holds.number holds.job holds.asked.files mid.desk.last_job after mid.desk.jobs None
        holds.asked.is holds.asked.has holds.there holds.low
        (batch-works meaning Last s turn mid steps none-before)
        (subst (λ o. AreHonestTurns meaning o after) mid-is (honest-append meaning before (turn ∷ after) map.empty honest).1)
        (subst (λ o. AllEndWell Last after o) mid-is (well-append Last before (turn ∷ after) map.empty came.well).1)
        (others-none Last (snapshot_of At) mid.desk.last_job meaning mid after last runs none (omega arith))
        (λ list is. absurd (let e : None ≡ Some list = is in cc))
        (subst (λ o. IsNoneOut (is_of Last) o) (out-append before (turn ∷ after) map.empty ∙ ap (out_after_all after) mid-is) came.none)

    pub shows-found : UrlsDiffer → HasBytePaths last.files.table → ShowsFound meaning (snapshot_of At) All last
    shows-found differ bytes file path is shown = by_fetched (is_some last.workspaces.fetches.queue.last) refl
      where
        by_fetched : (b : Bool) → is_some last.workspaces.fetches.queue.last ≡ b
            → shown_at (url_of path) All
            ≡ told_list (in_order (found meaning (snapshot_of At) Syntax file)
            ++ (if b then in_order (found meaning (snapshot_of At) Semantic file) else list_of (map.get last.board.semantic file.0))
            ++ checks_of file last.board.checks)
        by_fetched true fetched =
            shows-brought differ meaning settings before s turn mid after last ran steps runs asks none quiet (next-is At.board Last next) bytes
            file path (found meaning (snapshot_of At) Syntax file) (found meaning (snapshot_of At) Semantic file) is (brings Syntax file tt shown)
            (brings Semantic file (sym as-at.fetched ∙ fetched) shown)
        by_fetched false unfetched =
            shows-syntax differ meaning settings before s turn mid after last ran steps runs asks none quiet (next-is At.board Last next) bytes
            file path (found meaning (snapshot_of At) Syntax file) is (brings Syntax file tt shown)
