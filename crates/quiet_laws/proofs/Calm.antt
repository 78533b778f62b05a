-- A turn that leaves the session quiescent and asks for no batch changes nothing that a batch goes by but the settings.
use Rattle.std.proofs.Common.{◌≡◌, List, [], ◌∷◌, Bool, true, false, refl, sym, ap, ◌∙◌, subst}
use Rattle.std.proofs.lemmas.Result.{IfOk-at_ok}
use Rattle.std.specs.Prelude.{◌&&◌, ◌||◌, is_some, not, Result, Ok, IfOk, if◌then◌else◌}
use Rattle.std.specs.FinMap as map
use Rattle.docs_vfs.specs.declared.file_kinds.ChangedFile.{ChangedFile}
use Rattle.docs_vfs.specs.declared.source_roots.Root.{Root}
use Rattle.analysis_host.specs.HostData.{HostData}
use Rattle.ra_config.specs.Config.{ConfigData}
use Rattle.session_port.specs.declared.fault.Counter.{Counter}
use Rattle.session_port.specs.TurnState.{TurnState}
use Rattle.desk.specs.Meaning.{Meaning}
use Rattle.desk_laws.proofs.Results.{IfOk-and_then, IfOk-weaker, IfOk-within}
use Rattle.session_files.specs.Current.{IsSound}
use Rattle.session_files.specs.Folds.{after_processing, are_some, changed_files, has_changed, taken_up, with_changes}
use Rattle.session_files.specs.SessionFiles.{SessionFiles}
use Rattle.session_files.specs.Steps.{become, processed}
use Rattle.session_model.specs.Diagnosing.{is_batch_due, subscribed}
use Rattle.session_model.specs.Machine.{at_files, came_or_went, event_taken, files_done, files_followed, files_in, files_processed, happened, some_processed}
use Rattle.session_model.specs.Machine.{step, turn_counted, with_files}
use Rattle.session_model.specs.OwnJobs.{before_quiet}
use Rattle.session_model.specs.Rows.{turn_begun}
use Rattle.session_model.specs.Run.{Runs, Steps, Turn, turn_start}
use Rattle.session_model.specs.State.{State, fresh}
use Rattle.session_model.specs.declared.input.Event.{Event}
use Rattle.session_model.specs.declared.input.Input.{Input}
use Rattle.session_model.specs.declared.input.Input.TheVariants.{Start, Next}
use Rattle.session_laws.specs.Invariant.{Stands}
use Rattle.session_laws.proofs.Answered.{runs-stand}
use Rattle.session_laws.proofs.Rows.{FilesDone, files-done}
use Rattle.quiet_laws.specs.Rest.{IsCalm, Lasts, asks_batch, is_due_at, is_quiet}
use Rattle.quiet_laws.proofs.Bools.{true-false}
use Rattle.quiet_laws.proofs.CalmEvents.{Calm, calm-none, event-calm}
use Rattle.quiet_laws.proofs.CalmFiles.{Brings, brings-on, brings-same, same-subscribed}
use Rattle.quiet_laws.proofs.CalmKnown.{OpenAreNumbered, runs-numbered}
use Rattle.quiet_laws.proofs.HearingRuns.{runs-settled}
use Rattle.quiet_laws.proofs.HearingSwitch.{no-switch}
use Rattle.quiet_laws.proofs.HearingTurns.{counted-is}
use Rattle.quiet_laws.proofs.PartsOfTurns.{Split, StartSplit, start-splits, step-splits}
use Rattle.quiet_laws.proofs.Resting.{IsIdle, quiet-parts}
use Rattle.quiet_laws.proofs.RestingBehind.{behind-lasts, start-lasts}

calm-on : (a b c : State) → Calm a b → Calm b c → Calm a c
calm-on a b c x y = record {
  files = brings-on a.files b.files c.files x.files y.files;
  cleared = y.cleared ∙ x.cleared;
  last = y.last ∙ x.last;
  switch = y.switch ∙ x.switch;
}

-- ---- files of which none has changed

none-changed : {X : Type 0} (xs : List X) → are_some xs ≡ false → xs ≡ []
none-changed [] none = refl
none-changed (x ∷ xs) none = true-false none

taken-brings : (files : SessionFiles) → Brings files (taken_up files)
taken-brings files = brings-same files (taken_up files) refl refl refl

none-processed : (roots : List Root) (changes : List ChangedFile) (w : TurnState SessionFiles) → changes ≡ []
    → IfOk (become (with_changes roots changes (taken_up w.state)) w) (λ v. Brings w.state v.state)
none-processed roots [] w none = taken-brings w.state
none-processed roots (change ∷ changes) w none = true-false (ap are_some none)

none-followed : (changes : List ChangedFile) (w : TurnState State) → changes ≡ [] → files_followed changes w ≡ w
unfolding files_followed
none-followed [] w none = refl
none-followed (change ∷ changes) w none = true-false (ap are_some none)

processed-calm : (w : TurnState State) → changed_files w.state.files ≡ [] → IfOk (files_processed w) (λ v. Calm w.state v.state)
unfolding files_processed processed after_processing
processed-calm w none =
    let files : TurnState SessionFiles = record { state = w.state.files; out = w.out } in
    IfOk-and_then (at_files (processed w.state.sources.roots) w) _ (λ v. Calm w.state v.state) (λ v. Calm w.state v.state)
    (IfOk-within files_in with_files (processed w.state.sources.roots) w (λ v. Calm w.state v.state)
    (IfOk-weaker _ (λ (v : TurnState SessionFiles). Brings w.state.files v.state) _
    (none-processed w.state.sources.roots (changed_files w.state.files) files none)
    (λ v x. record { files = x; cleared = refl; last = refl; switch = refl })))
    (λ v x. subst (λ (u : TurnState State). Calm w.state u.state) (sym (none-followed (changed_files w.state.files) v none)) x)

done-calm : (w : TurnState State) → changed_files w.state.files ≡ [] → IfOk (files_done w) (λ v. Calm w.state v.state)
unfolding files_done
done-calm w none = by w.state.files.loading
  where
    by : (b : Bool) → IfOk (if b then Ok w else files_processed w) (λ v. Calm w.state v.state)
    by true = calm-none w.state
    by false = processed-calm w none

-- ---- the event

event-taken-calm : (meaning : Meaning) (s : State) (event : Event) → came_or_went (Next event) ≡ false → IsIdle s.workspaces → IsSound s.files
    → OpenAreNumbered s.files → IfOk (event_taken meaning event (turn_start s)) (λ v. Calm s v.state)
unfolding event_taken
event-taken-calm meaning s event none idle sound numbered =
    IfOk-and_then (turn_counted (turn_start s)) (happened meaning event) (λ v. v ≡ turn_begun s) (λ v. Calm s v.state) (counted-is s)
    (λ v is. subst (λ w. IfOk (happened meaning event w) (λ v. Calm s v.state)) (sym is)
    (IfOk-weaker (happened meaning event (turn_begun s)) (λ v. Calm (turn_begun s).state v.state) (λ v. Calm s v.state)
    (event-calm meaning event (turn_begun s) none idle sound numbered)
    (λ v x. record { files = x.files; cleared = x.cleared; last = x.last; switch = x.switch })))

-- ---- where no batch is due

-- what is known of a turn in which none is, though the session is quiescent
record NoneDue (was some came : Bool) : Type 0 where
  quiescent : was ≡ true
  processed : some ≡ false
  came_not : came ≡ false

none-due : (was now processed came : Bool) → now ≡ true → is_batch_due was now processed came ≡ false → NoneDue was processed came
none-due was true true came is none = true-false (rest was none)
  where
    rest : (b : Bool) → (not b || true) ≡ false → true ≡ false
    rest true h = h
    rest false h = h
none-due false true false came is none = true-false none
none-due true true false came is none = record { quiescent = refl; processed = refl; came_not = none }
none-due was false processed came is none = true-false (sym is)

ok-same : (a b : TurnState State) → (let r : Result (TurnState State) Counter = Ok a in r) ≡ Ok b → a ≡ b
ok-same a b is = cc

-- ---- a turn

-- behind the files
record CalmBehind (s c : State) : Type 0 where
  quiet : is_quiet s ≡ true
  calm : Calm s c

and-false : (a b : Bool) → a ≡ true → (a && b) ≡ false → b ≡ false
and-false true b is none = none
and-false false b is none = true-false (sym is)

behind-calm : (meaning : Meaning) (s : State) (event : Event) (v : TurnState State) → (is_quiet s ≡ true → s.workspaces.switch_wanted ≡ false)
    → IsSound s.files → OpenAreNumbered s.files → (split : Split meaning s event v) → is_quiet split.processed.state ≡ true
    → is_due_at (Next event) (before_quiet meaning (Next event) s) ≡ false → CalmBehind s split.processed.state
behind-calm meaning s event v settled sound numbered split quiet none =
    let a : TurnState State = split.happened in
    let b : TurnState State = split.switched in
    let c : TurnState State = split.processed in
    let due : NoneDue (is_quiet s) (some_processed b.state.files) (came_or_went (Next event)) =
    none-due (is_quiet s) (is_quiet c.state) (some_processed b.state.files) (came_or_went (Next event)) quiet
    (sym (ap (is_due_at (Next event)) split.before) ∙ none) in
    let idle : IsIdle s.workspaces = (quiet-parts s.files s.workspaces due.quiescent).idle in
    let event : Calm s a.state = IfOk-at_ok (λ (v : TurnState State). Calm s v.state)
    split.takes (event-taken-calm meaning s event due.came_not idle sound numbered) in
    let same : b ≡ a = ok-same b a (sym split.switches ∙ no-switch a (event.switch ∙ settled due.quiescent)) in
    let done : FilesDone b c = IfOk-at_ok (FilesDone b) split.processes (files-done b) in
    let still : b.state.files.loading ≡ false = sym done.aside.files.loading ∙ (quiet-parts c.state.files c.state.workspaces quiet).loading in
    let unchanged : changed_files b.state.files ≡ [] =
    none-changed (changed_files b.state.files) (and-false (not b.state.files.loading) (has_changed b.state.files) (ap not still) due.processed) in
    let files : Calm b.state c.state = IfOk-at_ok (λ (v : TurnState State). Calm b.state v.state) split.processes (done-calm b unchanged) in
    record { quiet = due.quiescent; calm = calm-on s b.state c.state (subst (λ (w : TurnState State). Calm s w.state) (sym same) event) files }

calm-lasts : (s c e : State) → is_quiet s ≡ true → Calm s c → Lasts c e → IsCalm s e
calm-lasts s c e quiet calm lasts = record {
  quiet = quiet;
  world = ap (λ (f : SessionFiles). f.host.world) lasts.files ∙ ap (λ (h : HostData). h.world) calm.files.host;
  documents = ap (λ (f : SessionFiles). map.keys f.versions) lasts.files ∙ calm.files.keys;
  files = ap subscribed lasts.files ∙ same-subscribed s.files c.files calm.files;
  fetched = lasts.fetched ∙ ap is_some calm.last;
  cleared = lasts.cleared ∙ calm.cleared;
}

step-calm : (meaning : Meaning) (s : State) (turn : Turn) (new : State) → (is_quiet s ≡ true → s.workspaces.switch_wanted ≡ false) → IsSound s.files
    → OpenAreNumbered s.files → Steps meaning s turn new → is_quiet new ≡ true → asks_batch meaning turn.input s ≡ false → IsCalm s new
step-calm meaning s turn new settled sound numbered steps quiet none = by turn.input steps none
  where
    out : TurnState State
    out = record { state = new; out = record { messages = turn.messages; commands = turn.commands } }

    by : (input : Input) → step meaning input (turn_start s) ≡ Ok out → asks_batch meaning input s ≡ false → IsCalm s new
    by Start is none =
        let lasts : Lasts s new = start-lasts s out (IfOk-at_ok (StartSplit s) is (start-splits meaning s)) in
        calm-lasts s s new (lasts.quiet quiet) (calm-none s) lasts
    by (Next event) is none =
        let split : Split meaning s event out = IfOk-at_ok (Split meaning s event) is (step-splits meaning s event) in
        let lasts : Lasts split.processed.state new = behind-lasts split.processed out split.behind in
        let calm : CalmBehind s split.processed.state = behind-calm meaning s event out settled sound numbered split (lasts.quiet quiet) none in
        calm-lasts s split.processed.state new calm.quiet calm.calm lasts

pub turns-calm : (meaning : Meaning) (settings : ConfigData) (turns : List Turn) (last : State) (turn : Turn) (new : State)
    → Runs meaning (fresh settings) turns last → Steps meaning last turn new → is_quiet new ≡ true → asks_batch meaning turn.input last ≡ false
    → IsCalm last new
turns-calm meaning settings turns last turn new runs steps quiet none =
    let stands : Stands meaning settings turns last = runs-stand meaning settings turns last runs in
    step-calm meaning last turn new (λ still. (runs-settled meaning settings turns last runs still).no_switch) stands.seen.sound
    (runs-numbered meaning settings turns last runs) steps quiet none
