-- A quiescent session is as it was at its last batch.
use Rattle.std.proofs.Common.{◌≡◌, ℕ, ◌+◌, ◌≤◌, List, [], ◌∷◌, ◌++◌, true, refl, sym, ap, ◌∙◌, subst, arith}
use Rattle.std.specs.Prelude.{Option, None, Some}
use Rattle.std.specs.Result.{result_unwrap_or}
use Rattle.std.specs.Ordering.{nat_cmp}
use Rattle.std.specs.FinMap as map
use Rattle.std.proofs.lemmas.Bool.{lt-ltb}
use Rattle.std.proofs.lemmas.Result.{IfOk-at_ok}
use Rattle.op_board.specs.Board.{is_above}
use Rattle.ra_config.specs.Config.{ConfigData}
use Rattle.desk.specs.Meaning.{Meaning}
use Rattle.session_files.specs.SessionFiles.{SessionFiles}
use Rattle.session_model.specs.Diagnosing.{subscribed}
use Rattle.session_model.specs.Machine.{Turning, step}
use Rattle.session_model.specs.OwnJobs.{before_quiet}
use Rattle.session_model.specs.Places.{rest_after}
use Rattle.session_model.specs.Run.{Runs, Steps, Turn, turn_start}
use Rattle.session_model.specs.State.{State, fresh}
use Rattle.session_model.specs.declared.input.Event.{Event}
use Rattle.session_model.specs.declared.input.Input.{Input}
use Rattle.session_model.specs.declared.input.Input.TheVariants.{Next, Start}
use Rattle.quiet_laws.specs.Rest.{AsksNone, IsCalm, Lasts, asks_batch, is_quiet}
use Rattle.trust_laws.specs.Trusting.{IsAsAtBatch}
use Rattle.quiet_laws.proofs.Calm.{turns-calm}
use Rattle.diagnostics_laws.proofs.KeyedBools.{true-false}
use Rattle.diagnostics_laws.proofs.Publishing.{Took, step-took}
use Rattle.quiet_laws.proofs.RestingBehind.{turn-lasts}
use Rattle.diagnostics_laws.proofs.Standing.{Based, first-based, runs-reach}
use Rattle.diagnostics_laws.proofs.StoringGenerations.{IsTimely, steps-timely}

-- ---- runs

runs-snoc : (meaning : Meaning) (s : State) (before : List Turn) (mid : State) (turn : Turn) (new : State) → Runs meaning s before mid
    → Steps meaning mid turn new → Runs meaning s (before ++ turn ∷ []) new
runs-snoc meaning s [] mid turn new runs steps_are = (new, subst (λ (t : State). Steps meaning t turn new) runs steps_are, refl)
runs-snoc meaning s (first ∷ before) mid turn new (next, steps_first, runs) steps_are =
    (next, steps_first, runs-snoc meaning next before mid turn new runs steps_are)

calm-on : (a b c : State) → IsCalm a b → IsCalm b c → IsCalm a c
calm-on a b c p q = record {
  quiet = p.quiet;
  world = q.world ∙ p.world;
  documents = q.documents ∙ p.documents;
  files = q.files ∙ p.files;
  fetched = q.fetched ∙ p.fetched;
  cleared = q.cleared ∙ p.cleared;
}

self-calm : (s : State) → is_quiet s ≡ true → IsCalm s s
self-calm s quiet = record { quiet = quiet; world = refl; documents = refl; files = refl; fetched = refl; cleared = refl }

-- turns without a batch that leave the session quiescent
turns-calm-all : (meaning : Meaning) (settings : ConfigData) (before : List Turn) (s : State) (turns : List Turn) (last : State)
    → Runs meaning (fresh settings) before s → Runs meaning s turns last → is_quiet last ≡ true → AsksNone meaning s turns → IsCalm s last
turns-calm-all meaning settings before s [] last ran runs quiet none =
    subst (IsCalm s) (sym runs) (self-calm s (subst (λ (t : State). is_quiet t ≡ true) runs quiet))
turns-calm-all meaning settings before s (turn ∷ turns) last ran (mid, steps_are, runs) quiet none =
    let mid_is : rest_after meaning turn.input s ≡ mid = ap (λ r. (result_unwrap_or r (turn_start s)).state) steps_are in
    let later : IsCalm mid last =
    turns-calm-all meaning settings (before ++ turn ∷ []) mid turns last (runs-snoc meaning (fresh settings) before s turn mid ran steps_are) runs
    quiet
    (subst (λ (t : State). AsksNone meaning t turns) mid_is none.1) in
    calm-on s mid last (turns-calm meaning settings before s turn mid ran steps_are later.quiet none.0) later

-- ---- the batch

timely-at : (meaning : Meaning) (s : State) (turn : Turn) (event : Event) (mid : State) → Based s → turn.input ≡ Next event → Steps meaning s turn mid
    → IsTimely (before_quiet meaning turn.input s).state.board
timely-at meaning s turn event mid base input steps_are =
    let took : Took meaning s event (record { state = mid; out = record { messages = turn.messages; commands = turn.commands } }) =
    IfOk-at_ok (Took meaning s event) (ap (λ i. step meaning i (turn_start s)) (sym input) ∙ steps_are)
    (step-took meaning s event base.seen.sound base.fit) in
    let timely : IsTimely took.t.state.state.board =
    subst IsTimely (sym took.goes.board) (steps-timely took.t.state.state.files.table took.goes.acts s.board took.goes.fits base.timely) in
    subst (λ (i : Input). IsTimely (before_quiet meaning i s).state.board) (sym input)
    (subst (λ (t : Turning). IsTimely t.state.board) (sym took.before) timely)

above-by : (o : Option ℕ) (g : ℕ) → ((mark : ℕ) → o ≡ Some mark → mark ≤ g) → is_above o (g + 1) ≡ true
above-by None g low = refl
above-by (Some mark) g low = let least = low mark refl in lt-ltb mark (g + 1) (omega (arith, least))

at-by : (meaning : Meaning) (s : State) (turn : Turn) (mid : State) (input : Input) → Based s → turn.input ≡ input → Steps meaning s turn mid
    → asks_batch meaning turn.input s ≡ true → IsTimely (before_quiet meaning turn.input s).state.board
at-by meaning s turn mid Start base input steps_are asks = true-false (sym asks ∙ ap (λ i. asks_batch meaning i s) input)
at-by meaning s turn mid (Next event) base input steps_are asks = timely-at meaning s turn event mid base input steps_are

pub as-at-batch : (meaning : Meaning) (settings : ConfigData) (before : List Turn) (s : State) (turn : Turn) (mid : State) (after : List Turn)
    (last : State)
    → Runs meaning (fresh settings) before s → Steps meaning s turn mid → Runs meaning mid after last
    → asks_batch meaning turn.input s ≡ true → AsksNone meaning mid after → is_quiet last ≡ true
    → IsAsAtBatch (before_quiet meaning turn.input s).state last
as-at-batch meaning settings before s turn mid after last ran steps_are runs asks none quiet =
    let at : State = (before_quiet meaning turn.input s).state in
    let base : Based s = (runs-reach meaning (fresh settings) before s (first-based meaning settings) ran).based in
    let lasts : Lasts at mid = turn-lasts meaning s turn mid steps_are in
    let calm : IsCalm mid last =
    turns-calm-all meaning settings (before ++ turn ∷ []) mid after last (runs-snoc meaning (fresh settings) before s turn mid ran steps_are) runs
    quiet none in
    let timely : IsTimely at.board = at-by meaning s turn mid turn.input base refl steps_are asks in
    let cleared : last.board.cleared ≡ at.board.cleared = calm.cleared ∙ lasts.cleared in
    record {
      world = calm.world ∙ ap (λ (f : SessionFiles). f.host.world) lasts.files;
      documents = calm.documents ∙ ap (λ (f : SessionFiles). map.keys f.versions) lasts.files;
      files = calm.files ∙ ap subscribed lasts.files;
      fetched = calm.fetched ∙ lasts.fetched;
      uncleared = λ file.
          ap (λ (m : map.FinMap nat_cmp ℕ). is_above (map.get m file) (at.board.generation + 1)) cleared
          ∙ above-by (map.get at.board.cleared file) at.board.generation (λ mark is. timely.cleared file mark is);
    }
