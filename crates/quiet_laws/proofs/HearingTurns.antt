-- Over turns the machine stands where the lists say, nothing is left to do where nothing is in progress.
use Rattle.std.proofs.Common.{◌≡◌, ◌+◌, ℕ, List, [], ◌∷◌, ◌++◌, Bool, true, false, refl, sym, ap, ◌∙◌, subst, inl, inr, eqb-true}
use Rattle.std.proofs.lemmas.Bool.{eq-eqb}
use Rattle.std.proofs.lemmas.Result.{IfOk-at_ok}
use Rattle.std.specs.Prelude.{◌==◌, option_map, Option, None, Some, Ok, IfOk, if◌then◌else◌}
use Rattle.ra_config.specs.Config.{ConfigData}
use Rattle.session_port.specs.TurnState.{TurnState}
use Rattle.desk.specs.Desk.{Desk}
use Rattle.desk.specs.Meaning.{Meaning}
use Rattle.desk.specs.Steps.{counted as counted_at_desk}
use Rattle.desk_laws.proofs.Results.{IfOk-and_then, IfOk-next, IfOk-within}
use Rattle.session_files.specs.SessionFiles.{SessionFiles}
use Rattle.workspaces.specs.Fetches.{fires}
use Rattle.workspaces.specs.Workspaces.{Fetches, Workspaces}
use Rattle.workspaces.specs.declared.requests.WaitingFetch.{WaitingFetch}
use Rattle.session_model.specs.Machine.{desk_in, event_taken, happened, step, turn_counted, with_desk}
use Rattle.session_model.specs.Rows.{turn_begun}
use Rattle.session_model.specs.Run.{Runs, Steps, Turn, turn_start}
use Rattle.session_model.specs.State.{State, fresh}
use Rattle.session_model.specs.declared.input.Event.{Event}
use Rattle.session_model.specs.declared.input.Input.{Input}
use Rattle.session_model.specs.declared.input.Input.TheVariants.{Start, Next}
use Rattle.session_laws.proofs.Rows.{FilesDone, files-done}
use Rattle.session_laws.proofs.Running.{versions_of}
use Rattle.session_laws.proofs.Same.{none-some, some-same}
use Rattle.session_laws.proofs.Switching.{SwitchDone, switch-does}
use Rattle.quiet_laws.specs.Heard.{Heard, heard_after, heard_after_all, newest, nothing_heard, progress_after, timer_left}
use Rattle.quiet_laws.proofs.Bools.{true-false}
use Rattle.quiet_laws.proofs.HearingEvents.{Happened, happened-is}
use Rattle.quiet_laws.proofs.HearingFiles.{Follows, done-follows}
use Rattle.quiet_laws.proofs.HearingSwitch.{HasBegun, SwitchHears, switch-hears}
use Rattle.quiet_laws.proofs.HearingWork.{MayWait, ticket, ticket_in, wait-on}
use Rattle.quiet_laws.proofs.Parts.{passes-timers, timers_in}
use Rattle.quiet_laws.proofs.PartsOfTurns.{Later, Split, StartSplit, begun_behind, start-splits, step-splits}
use Rattle.quiet_laws.proofs.Resting.{AsksNoLoad, HoldsNone, MayStart, behind-asks, behind-may, begun_at_start, start-asks, start-may}

-- ---- between turns

-- the machine stands where the lists say
pub record Agrees (heard : Heard) (s : State) : Type 0 where
  pub progress : s.files.progress_version ≡ heard.progress_version
  pub timer : ticket s.workspaces ≡ heard.timer

-- and what is in progress is all that is left to do
pub record AtRest (s : State) : Type 0 where
  pub begun : HasBegun s.workspaces
  pub holds : HoldsNone s.workspaces
  pub asks : AsksNoLoad s.workspaces
  pub switch : s.files.loading ≡ false → s.workspaces.switch_wanted ≡ false

begun-same : (before after : Workspaces) → versions_of after ≡ versions_of before → HasBegun before → HasBegun after
begun-same before after same begun none =
    ap (λ (versions : ℕ × ℕ). versions.1) same ∙ begun (sym (ap (λ (versions : ℕ × ℕ). versions.0) same) ∙ none)

-- ---- the timer that a turn orders

fired-heard : (b : Bool) (number turn : ℕ) (before : Option ℕ) → (number == turn) ≡ b → MayWait turn before (Some number)
    → Some number ≡ newest (if b then turn ∷ [] else []) before
fired-heard true number turn before is may = ap Some (eqb-true number turn is)
fired-heard false number turn before is (inl same) = same
fired-heard false number turn before is (inr now) = true-false (sym (eq-eqb number turn (some-same number turn now)) ∙ is)

due-heard : (turn : ℕ) (waiting : Option WaitingFetch) (before : Option ℕ) → MayWait turn before (option_map ticket_in waiting)
    → option_map ticket_in waiting ≡ newest (if fires turn waiting then turn ∷ [] else []) before
due-heard turn None before (inl same) = same
due-heard turn None before (inr now) = none-some turn now
due-heard turn (Some fetch) before may = fired-heard (fetch.ticket == turn) fetch.ticket turn before refl may

-- ---- behind the files

-- what stands behind the files stands behind the turn, but for what starts
record Rested (w v : TurnState State) : Type 0 where
  progress : v.state.files.progress_version ≡ w.state.files.progress_version
  waits : v.state.workspaces.fetches.waiting ≡ w.state.workspaces.fetches.waiting
  timers : timers_in v ≡ timers_in w ++ (if fires w.state.desk.turns v.state.workspaces.fetches.waiting then w.state.desk.turns ∷ [] else [])

later-rested : (workspaces : Workspaces) (w v : TurnState State) → Later workspaces w v → MayStart w.state.workspaces workspaces → Rested w v
later-rested workspaces w v later may =
    let closing : TurnState State = later.closing in
    let now : v.state.workspaces ≡ workspaces = later.closes.workspaces ∙ later.leaves.workspaces in
    record {
      progress = ap (λ (f : SessionFiles). f.progress_version) (later.closes.files ∙ later.leaves.files);
      waits = ap (λ (ws : Workspaces). ws.fetches.waiting) now ∙ waits may;
      timers = later.closes.timers
          ∙ (λ i. later.leaves.out _ passes-timers i
          ++ (if fires (later.leaves.turns i) (sym later.closes.workspaces i).fetches.waiting then later.leaves.turns i ∷ [] else []));
    }
  where
    waits : MayStart w.state.workspaces workspaces → workspaces.fetches.waiting ≡ w.state.workspaces.fetches.waiting
    waits may = may.timer

-- the timer that is heard of behind such a turn
heard-timer : (heard : Option ℕ) (w v : TurnState State) → Rested w v → timers_in w ≡ [] → MayWait w.state.desk.turns heard (ticket w.state.workspaces)
    → ticket v.state.workspaces ≡ newest (timers_in v) heard
heard-timer heard w v rested none may =
    due-heard w.state.desk.turns v.state.workspaces.fetches.waiting heard
    (subst (λ (o : Option WaitingFetch). MayWait w.state.desk.turns heard (option_map ticket_in o)) (sym rested.waits) may)
    ∙ ap (λ ns. newest ns heard)
    (sym (rested.timers ∙ ap (λ ns. ns ++ (if fires w.state.desk.turns v.state.workspaces.fetches.waiting then w.state.desk.turns ∷ [] else [])) none))

-- ---- the event

pub counted-is : (s : State) → IfOk (turn_counted (turn_start s)) (λ v. v ≡ turn_begun s)
unfolding turn_counted counted_at_desk
counted-is s = IfOk-within desk_in with_desk counted_at_desk (turn_start s) (λ v. v ≡ turn_begun s)
    (IfOk-next s.desk.turns _ _ (λ (v : TurnState Desk). record { state = with_desk v.state s; out = v.out } ≡ turn_begun s) refl)

event-happened : (meaning : Meaning) (s : State) (event : Event) → IfOk (event_taken meaning event (turn_start s)) (Happened event (turn_begun s))
unfolding event_taken
event-happened meaning s event =
    IfOk-and_then (turn_counted (turn_start s)) (happened meaning event) (λ v. v ≡ turn_begun s) (Happened event (turn_begun s)) (counted-is s)
    (λ v is. subst (λ w. IfOk (happened meaning event w) (Happened event (turn_begun s))) (sym is) (happened-is meaning event (turn_begun s)))

-- ---- a turn

abbrev ended : Turn → State → TurnState State
ended turn new = record { state = new; out = record { messages = turn.messages; commands = turn.commands } }

record Stands (heard : Heard) (input : Input) (v : TurnState State) : Type 0 where
  progress : v.state.files.progress_version ≡ progress_after input heard.progress_version
  timer : ticket v.state.workspaces ≡ newest (timers_in v) (timer_left input heard.timer)
  rest : AtRest v.state

-- what stands where no fetch has started
record Before (heard : Heard) (s : State) : Type 0 where
  agrees : Agrees heard s
  rest : AtRest s

later-rest : (workspaces : Workspaces) (w v : TurnState State) → Later workspaces w v → MayStart w.state.workspaces workspaces → AsksNoLoad workspaces
    → HasBegun w.state.workspaces → HoldsNone w.state.workspaces → (w.state.files.loading ≡ false → w.state.workspaces.switch_wanted ≡ false) → AtRest v.state
later-rest workspaces w v later may asks begun holds switch =
    let files : v.state.files ≡ w.state.files = later.closes.files ∙ later.leaves.files in
    let now : v.state.workspaces ≡ workspaces = later.closes.workspaces ∙ later.leaves.workspaces in
    record {
      begun = begun-same w.state.workspaces v.state.workspaces (ap versions_of now ∙ may.versions) begun;
      holds = subst HoldsNone (sym now) (may.holds holds);
      asks = subst AsksNoLoad (sym now) asks;
      switch = λ idle. ap (λ (ws : Workspaces). ws.switch_wanted) now ∙ may.switch ∙ switch (sym (ap (λ (f : SessionFiles). f.loading) files) ∙ idle);
    }

start-stands : (heard : Heard) (s : State) (v : TurnState State) → Before heard s → StartSplit s v → Stands heard Start v
start-stands heard s v before split =
    let may : MayStart s.workspaces (begun_at_start split.discover split.may s.workspaces) = start-may split.discover split.may s.workspaces in
    let rested = later-rested (begun_at_start split.discover split.may s.workspaces) (turn_start s) v split.later may in
    record {
      progress = rested.progress ∙ before.agrees.progress;
      timer = heard-timer heard.timer (turn_start s) v rested refl (inl before.agrees.timer);
      rest = later-rest (begun_at_start split.discover split.may s.workspaces) (turn_start s) v split.later may
          (start-asks split.discover split.may s.workspaces before.rest.asks) before.rest.begun before.rest.holds before.rest.switch;
    }

turn-stands : (meaning : Meaning) (heard : Heard) (s : State) (event : Event) (v : TurnState State) → Before heard s → Split meaning s event v
    → Stands heard (Next event) v
turn-stands meaning heard s event v before split =
    let a : TurnState State = split.happened in
    let b : TurnState State = split.switched in
    let c : TurnState State = split.processed in
    let h : Happened event (turn_begun s) a = IfOk-at_ok (Happened event (turn_begun s)) split.takes (event-happened meaning s event) in
    let w : SwitchHears a b = IfOk-at_ok (SwitchHears a) split.switches (switch-hears a) in
    let f : Follows b c = IfOk-at_ok (Follows b) split.processes (done-follows b) in
    let may : MayStart c.state.workspaces (begun_behind split.behind.may c.state.workspaces) = behind-may split.behind.may c.state.workspaces in
    let rested = later-rested (begun_behind split.behind.may c.state.workspaces) c v split.behind.later may in
    let turns : c.state.desk.turns ≡ s.desk.turns + 1 = f.happens.turns ∙ w.turns ∙ h.turns in
    let left : Option ℕ = timer_left (Next event) (ticket s.workspaces) in
    let moved : MayWait (s.desk.turns + 1) left (ticket b.state.workspaces) =
    subst (λ (fetches : Fetches). MayWait (s.desk.turns + 1) left (option_map ticket_in fetches.waiting)) (sym w.work.fetches) h.timer in
    let planned : MayWait (s.desk.turns + 1) (ticket b.state.workspaces) (ticket c.state.workspaces) =
    subst (λ n. MayWait n (ticket b.state.workspaces) (ticket c.state.workspaces)) (w.turns ∙ h.turns) f.happens.timer in
    let waits : MayWait c.state.desk.turns left (ticket c.state.workspaces) =
    subst (λ n. MayWait n left (ticket c.state.workspaces)) (sym turns)
    (wait-on (s.desk.turns + 1) left (ticket b.state.workspaces) (ticket c.state.workspaces) moved planned) in
    let switched : SwitchDone a b = IfOk-at_ok (SwitchDone a) split.switches (switch-does a) in
    let done : FilesDone b c = IfOk-at_ok (FilesDone b) split.processes (files-done b) in
    record {
      progress = rested.progress ∙ f.happens.progress ∙ w.progress ∙ h.progress ∙ ap (progress_after (Next event)) before.agrees.progress;
      timer = heard-timer (timer_left (Next event) heard.timer) c v rested (f.happens.timers ∙ w.timers ∙ h.timers)
          (subst (λ o. MayWait c.state.desk.turns (timer_left (Next event) o) (ticket c.state.workspaces)) before.agrees.timer waits);
      rest = later-rest (begun_behind split.behind.may c.state.workspaces) c v split.behind.later may
          (behind-asks split.behind.may c.state.workspaces)
          (begun-same b.state.workspaces c.state.workspaces f.happens.versions
          (w.work.begun (begun-same s.workspaces a.state.workspaces h.versions before.rest.begun)))
          (f.happens.holds (w.work.holds (h.holds before.rest.holds)))
          (λ idle. f.work.switch ∙ w.work.done (sym switched.aside.files.loading ∙ sym done.aside.files.loading ∙ idle));
    }

step-stands : (meaning : Meaning) (heard : Heard) (s : State) (turn : Turn) (new : State) → Steps meaning s turn new → Before heard s
    → Before (heard_after turn heard) new
step-stands meaning heard s turn new steps before =
    let stands : Stands heard turn.input (ended turn new) = by turn.input steps in
    record { agrees = record { progress = stands.progress; timer = stands.timer }; rest = stands.rest }
  where
    by : (input : Input) → step meaning input (turn_start s) ≡ Ok (ended turn new) → Stands heard input (ended turn new)
    by Start is = start-stands heard s (ended turn new) before (IfOk-at_ok (StartSplit s) is (start-splits meaning s))
    by (Next event) is = turn-stands meaning heard s event (ended turn new) before (IfOk-at_ok (Split meaning s event) is (step-splits meaning s event))

all-stand : (meaning : Meaning) (heard : Heard) (s : State) (turns : List Turn) (last : State) → Runs meaning s turns last → Before heard s
    → Before (heard_after_all turns heard) last
all-stand meaning heard s [] last runs before = subst (Before heard) (sym runs) before
all-stand meaning heard s (turn ∷ turns) last (mid, steps, runs) before =
    all-stand meaning (heard_after turn heard) mid turns last runs (step-stands meaning heard s turn mid steps before)

fresh-before : (settings : ConfigData) → Before nothing_heard (fresh settings)
fresh-before settings = record {
  agrees = record { progress = refl; timer = refl };
  rest = record { begun = λ none. refl; holds = λ rests. refl; asks = λ idle. refl; switch = λ idle. refl };
}

pub runs-agree : (meaning : Meaning) (settings : ConfigData) (turns : List Turn) (last : State) → Runs meaning (fresh settings) turns last
    → Agrees (heard_after_all turns nothing_heard) last
runs-agree meaning settings turns last runs = (all-stand meaning nothing_heard (fresh settings) turns last runs (fresh-before settings)).agrees

pub runs-rest : (meaning : Meaning) (settings : ConfigData) (turns : List Turn) (last : State) → Runs meaning (fresh settings) turns last → AtRest last
runs-rest meaning settings turns last runs = (all-stand meaning nothing_heard (fresh settings) turns last runs (fresh-before settings)).rest
