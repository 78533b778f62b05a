-- Turns that ask for no batch, up to one that leaves the session quiescent, change nothing that a batch goes by but the
-- settings.
use Rattle.std.proofs.Common.{◌≡◌, List, [], ◌∷◌, ◌++◌, true, refl, sym, ap, ◌∙◌, subst}
use Rattle.std.specs.Prelude.{Result}
use Rattle.std.specs.Result.{result_unwrap_or}
use Rattle.std.specs.FinMap as map
use Rattle.ra_config.specs.Config.{ConfigData}
use Rattle.session_port.specs.TurnState.{TurnState}
use Rattle.session_port.specs.declared.fault.Counter.{Counter}
use Rattle.desk.specs.Meaning.{Meaning}
use Rattle.session_files.specs.SessionFiles.{SessionFiles}
use Rattle.session_model.specs.Diagnosing.{subscribed}
use Rattle.session_model.specs.OwnJobs.{before_quiet}
use Rattle.session_model.specs.Places.{rest_after}
use Rattle.session_model.specs.Run.{Runs, Steps, Turn, turn_start}
use Rattle.session_model.specs.State.{State, fresh}
use Rattle.session_laws.proofs.Stretches.{runs-append}
use Rattle.quiet_laws.specs.Rest.{AsksNone, IsCalm, Lasts, is_quiet}
use Rattle.quiet_laws.proofs.Calm.{turns-calm}
use Rattle.quiet_laws.proofs.RestingBehind.{turn-lasts}

-- where the machine stands behind a turn
step-rests : (meaning : Meaning) (s : State) (turn : Turn) (new : State) → Steps meaning s turn new → rest_after meaning turn.input s ≡ new
step-rests meaning s turn new steps = ap (λ (r : Result (TurnState State) Counter). (result_unwrap_or r (turn_start s)).state) steps

calm-same : (s : State) → is_quiet s ≡ true → IsCalm s s
calm-same s quiet = record { quiet = quiet; world = refl; documents = refl; files = refl; fetched = refl; cleared = refl }

calm-trans : (a b c : State) → IsCalm a b → IsCalm b c → IsCalm a c
calm-trans a b c x y = record {
  quiet = x.quiet;
  world = y.world ∙ x.world;
  documents = y.documents ∙ x.documents;
  files = y.files ∙ x.files;
  fetched = y.fetched ∙ x.fetched;
  cleared = y.cleared ∙ x.cleared;
}

calm-since : (meaning : Meaning) (settings : ConfigData) (before : List Turn) (s : State) (after : List Turn) (last : State)
    → Runs meaning (fresh settings) before s → Runs meaning s after last → AsksNone meaning s after → is_quiet last ≡ true → IsCalm s last
calm-since meaning settings before s [] last runs same none quiet = subst (λ e. IsCalm s e) (sym same) (calm-same s (subst (λ e. is_quiet e ≡ true) same quiet))
calm-since meaning settings before s (turn ∷ after) last runs (mid, steps, later) none quiet =
    let more : Runs meaning (fresh settings) (before ++ turn ∷ []) mid = runs-append meaning (fresh settings) s mid before (turn ∷ []) runs (mid, steps, refl) in
    let rest = calm-since meaning settings (before ++ turn ∷ []) mid after last more later
    (subst (λ e. AsksNone meaning e after) (step-rests meaning s turn mid steps) none.1) quiet in
    calm-trans s mid last (turns-calm meaning settings before s turn mid runs steps rest.quiet none.0) rest

lasts-calm : (a b c : State) → Lasts a b → IsCalm b c → IsCalm a c
lasts-calm a b c x y = record {
  quiet = x.quiet y.quiet;
  world = y.world ∙ ap (λ (f : SessionFiles). f.host.world) x.files;
  documents = y.documents ∙ ap (λ (f : SessionFiles). map.keys f.versions) x.files;
  files = y.files ∙ ap subscribed x.files;
  fetched = y.fetched ∙ x.fetched;
  cleared = y.cleared ∙ x.cleared;
}

pub batch-calm : (meaning : Meaning) (settings : ConfigData) (before : List Turn) (mid : State) (turn : Turn) (next : State) (after : List Turn) (last : State)
    → Runs meaning (fresh settings) before mid → Steps meaning mid turn next → Runs meaning next after last → AsksNone meaning next after
    → is_quiet last ≡ true → IsCalm (before_quiet meaning turn.input mid).state last
batch-calm meaning settings before mid turn next after last runs steps later none quiet =
    let more : Runs meaning (fresh settings) (before ++ turn ∷ []) next = runs-append meaning (fresh settings) mid next before (turn ∷ []) runs (next, steps, refl) in
    lasts-calm (before_quiet meaning turn.input mid).state next last (turn-lasts meaning mid turn next steps)
    (calm-since meaning settings (before ++ turn ∷ []) next after last more later none quiet)
