-- What a switch leaves of the workspaces, and of what is heard.
use Rattle.std.proofs.Common.{◌≡◌, ◌+◌, ℕ, List, [], ◌∷◌, Bool, true, false, refl, sym, ap, ◌∙◌, subst, arith, append-nil}
use Rattle.std.specs.Prelude.{◌&&◌, not, Option, None, Some, option_map, Result, Ok, Err, IfOk, if◌then◌else◌}
use Rattle.std.proofs.lemmas.List.Elements.{filter_map-append}
use Rattle.project_model.specs.declared.workspace.ProjectWorkspace.{ProjectWorkspace}
use Rattle.ra_config.specs.Config.{ConfigData}
use Rattle.reload.specs.Switch.{is_empty}
use Rattle.reload.specs.declared.switch.Switch.{Switch}
use Rattle.reload.specs.declared.switch.Switch.TheVariants as switch
use Rattle.session_port.specs.declared.fault.Counter.{Counter}
use Rattle.session_port.specs.TurnState.{TurnState, ordered, written}
use Rattle.notify.specs.declared.outgo.MessageKind.TheVariants.{Warning}
use Rattle.notify.specs.declared.outgo.Outgo.TheVariants.{ShowMessage}
use Rattle.client.specs.Steps.{notification_of}
use Rattle.desk_laws.proofs.Results.{IfOk-and_then, IfOk-weaker}
use Rattle.session_files.specs.SessionFiles.{SessionFiles}
use Rattle.workspaces.specs.Switching.{asks_build, decided, going_on as workspaces_followed, next_version, presents, switch_to, switched}
use Rattle.workspaces.specs.Workspaces.{Workspaces}
use Rattle.workspaces.specs.declared.follows.Follows.{Follows}
use Rattle.workspaces.specs.declared.follows.Follows.TheVariants.{Nothing, CrateData, Wait, GoOn}
use Rattle.session_model.specs.Crates.{Numbers, builds_crates, crate_data, crates_sought, followed_by, waits, with_crates}
use Rattle.session_model.specs.Machine.{at_workspaces, crates_built, loader_set, roots_renewed, switch_done, switch_followed, switch_taken, warned}
use Rattle.session_model.specs.Machine.{tellings_told, watchers_registered}
use Rattle.activities.specs.Work.{graph_told}
use Rattle.session_model.specs.State.{State, builds_scripts, discovers}
use Rattle.session_model.specs.Switching.{is_switch_due, switch_by, switch_made, unless_exhausted}
use Rattle.quiet_laws.specs.Heard.{timer_of}
use Rattle.quiet_laws.proofs.Bools.{else-is, true-false}
use Rattle.quiet_laws.proofs.HearingFiles.{Hears, crates-hear}
use Rattle.quiet_laws.proofs.Parts.{LeavesAll, asked_if-leaves, leaves-none, notified-leaves, passes-timers, timers_in, told-leave}
use Rattle.quiet_laws.proofs.Resting.{HoldsNone}

-- ---- the workspaces

-- the loader's settings have no version before the workspaces have one
abbrev pub HasBegun : Workspaces → Type 0
HasBegun w = w.version ≡ 0 → w.loader_version ≡ 0

record Makes (before after : Workspaces) : Type 0 where
  fetches : after.fetches ≡ before.fetches
  holds : HoldsNone before → HoldsNone after
  begun : HasBegun before → HasBegun after
  switch : after.switch_wanted ≡ false

abbrev MayMake : Workspaces → Option (Follows × Workspaces) → Type 0
MayMake before None = Unit {0}
MayMake before (Some made) = Makes before made.1

more-none : {P : Type 0} (n : ℕ) → n + 1 ≡ 0 → P
more-none n none = absurd (omega (arith, none))

presents-makes : (asks : Bool) (new : List ProjectWorkspace) (before : Workspaces) → Makes before (asks_build asks (presents new before))
presents-makes true new before = record { fetches = refl; holds = λ holds. holds; begun = λ begun none. more-none before.version none; switch = refl }
presents-makes false new before = record { fetches = refl; holds = λ holds. holds; begun = λ begun none. more-none before.version none; switch = refl }

-- with the loader's next version
goes-makes : (msrv : List (List ℕ)) (initial asks : Bool) (new : List ProjectWorkspace) (before : Workspaces) (version : Option (Option ℕ))
    → MayMake before (option_map (workspaces_followed msrv initial (asks_build asks (presents new before))) version)
goes-makes msrv initial asks new before None = tt
goes-makes msrv initial asks new before (Some None) = presents-makes asks new before
goes-makes msrv initial true new before (Some (Some version)) =
    record { fetches = refl; holds = λ holds. holds; begun = λ begun none. more-none before.version none; switch = refl }
goes-makes msrv initial false new before (Some (Some version)) =
    record { fetches = refl; holds = λ holds. holds; begun = λ begun none. more-none before.version none; switch = refl }

to-makes : (to : Switch) (before : Workspaces) → MayMake before (switch_to to before)
to-makes switch.End before = record { fetches = refl; holds = λ holds. holds; begun = λ begun. begun; switch = refl }
to-makes switch.CrateData before = record { fetches = refl; holds = λ holds. holds; begun = λ begun. begun; switch = refl }
to-makes (switch.Join made) before = goes-makes [] (is_empty before.present) false made before (next_version true before.loader_version)
to-makes (switch.Replace new msrv asks goes_on) before =
    goes-makes msrv (is_empty before.present) asks new before (next_version goes_on before.loader_version)

by-makes : (settings : ConfigData) (before : Workspaces) (b : Bool)
    → MayMake before (if b then switched (discovers settings) (builds_scripts settings) before else None)
by-makes settings before true = to-makes (decided (discovers settings) (builds_scripts settings) before) before
by-makes settings before false = tt

sought-makes : (wait : Bool) (settings : ConfigData) (numbers : Numbers) (before after : Workspaces) → Makes before after
    → Makes before (crates_sought wait settings numbers after)
sought-makes true settings numbers before after m = record { fetches = m.fetches; holds = m.holds; begun = m.begun; switch = m.switch }
sought-makes false settings numbers before after m = record { fetches = m.fetches; holds = m.holds; begun = m.begun; switch = m.switch }

followed-makes : (settings : ConfigData) (numbers : Numbers) (follows : Follows) (before after : Workspaces) → Makes before after
    → Makes before (followed_by settings numbers follows after)
followed-makes settings numbers Nothing before after m = m
followed-makes settings numbers CrateData before after m = sought-makes (waits settings false) settings numbers before after m
followed-makes settings numbers (Wait msrv) before after m = m
followed-makes settings numbers (GoOn msrv version initial) before after m = sought-makes (waits settings initial) settings numbers before after m

-- what a switch comes to
pub record Switches (files : SessionFiles) (before after : Workspaces) : Type 0 where
  pub fetches : after.fetches ≡ before.fetches
  pub holds : HoldsNone before → HoldsNone after
  pub begun : HasBegun before → HasBegun after
  -- none is wanted any more, unless files are loading
  pub done : files.loading ≡ false → after.switch_wanted ≡ false

abbrev Comes : SessionFiles → Workspaces → Result (Follows × Workspaces) Counter → Type 0
Comes files before (Ok made) = Switches files before made.1
Comes files before (Err counter) = Unit {0}

crates-come : (settings : ConfigData) (files : SessionFiles) (made : Option (Follows × Workspaces)) (before : Workspaces) → MayMake before made
    → Comes files before (with_crates settings files (unless_exhausted made))
crates-come settings files None before m = tt
crates-come settings files (Some made) before m =
    let all = followed-makes settings files.ids made.0 before made.1 m in
    record { fetches = all.fetches; holds = all.holds; begun = all.begun; done = λ idle. all.switch }

switch-comes : (settings : ConfigData) (files : SessionFiles) (before : Workspaces) → Comes files before (switch_made settings files before)
switch-comes settings files before = by before.switch_wanted files.loading refl refl
  where
    by : (wanted loading : Bool) → before.switch_wanted ≡ wanted → files.loading ≡ loading → Comes files before
        (if wanted && not loading then with_crates settings files (unless_exhausted (switch_by settings before)) else Ok (Nothing, before))
    by true false is busy = crates-come settings files (switch_by settings before) before (by-makes settings before _)
    by true true is busy = record { fetches = refl; holds = λ holds. holds; begun = λ begun. begun; done = λ idle. true-false (sym busy ∙ idle) }
    by false loading is busy = record { fetches = refl; holds = λ holds. holds; begun = λ begun. begun; done = λ idle. is }

-- ---- what follows it

-- the files and the workspaces stay, and no timer is ordered
record Tells (w v : TurnState State) : Type 0 where
  files : v.state.files ≡ w.state.files
  turns : v.state.desk.turns ≡ w.state.desk.turns
  timers : timers_in v ≡ timers_in w
  workspaces : v.state.workspaces ≡ w.state.workspaces

tells-on : (w v u : TurnState State) → Tells w v → Tells v u → Tells w u
tells-on w v u x y = record { files = y.files ∙ x.files; turns = y.turns ∙ x.turns; timers = y.timers ∙ x.timers; workspaces = y.workspaces ∙ x.workspaces }

tells-leaves : (w v : TurnState State) → LeavesAll w v → Tells w v
tells-leaves w v leaves = record { files = leaves.files; turns = leaves.turns; timers = leaves.out _ passes-timers; workspaces = leaves.workspaces }

warned-tells : (texts : List (List ℕ)) (w : TurnState State) → Tells w (warned texts w)
unfolding warned
warned-tells [] w = tells-leaves w w (leaves-none w)
warned-tells (text ∷ texts) w =
    let v : TurnState State = written (notification_of (ShowMessage text Warning)) w in
    tells-on w v _ (tells-leaves w v (notified-leaves (ShowMessage text Warning) w)) (warned-tells texts v)

renewed-tells : (version : ℕ) (w : TurnState State) → Tells w (roots_renewed (loader_set version w))
unfolding roots_renewed loader_set ordered
renewed-tells version w = record {
  files = refl;
  turns = refl;
  timers = filter_map-append timer_of w.out.commands _ ∙ append-nil _;
  workspaces = refl;
}

follows-tell : (follows : Follows) (w : TurnState State) → IfOk (switch_followed follows w) (Tells w)
unfolding switch_followed watchers_registered
follows-tell Nothing w = tells-leaves w w (leaves-none w)
follows-tell CrateData w = IfOk-weaker (tellings_told graph_told w) (LeavesAll w) (Tells w) (told-leave graph_told w) (tells-leaves w)
follows-tell (Wait msrv) w = warned-tells msrv w
follows-tell (GoOn msrv version initial) w =
    let v : TurnState State = warned msrv w in
    IfOk-and_then (watchers_registered v) (λ u. tellings_told graph_told (roots_renewed (loader_set version u))) (LeavesAll v) (Tells w)
    (asked_if-leaves _ _ v)
    (λ u leaves. let r : TurnState State = roots_renewed (loader_set version u) in
    IfOk-weaker (tellings_told graph_told r) (LeavesAll r) (Tells w) (told-leave graph_told r)
    (λ x all. tells-on w v x (warned-tells msrv w) (tells-on v u x (tells-leaves v u leaves)
    (tells-on u r x (renewed-tells version u) (tells-leaves r x all)))))

built-hears : (built : Bool) (w : TurnState State) → IfOk (crates_built built w) (Hears w.state.files.progress_version w)
unfolding crates_built
built-hears false w = record { progress = refl; turns = refl; timers = refl; workspaces = refl }
built-hears true w = crates-hear w.state.sources.roots (crate_data w.state.client.settings w.state.files.ids w.state.workspaces.present) w

-- ---- all of it

pub record SwitchHears (w v : TurnState State) : Type 0 where
  pub progress : v.state.files.progress_version ≡ w.state.files.progress_version
  pub turns : v.state.desk.turns ≡ w.state.desk.turns
  pub timers : timers_in v ≡ timers_in w
  pub work : Switches w.state.files w.state.workspaces v.state.workspaces

taken-hears : (made : Result (Follows × Workspaces) Counter) (w : TurnState State) → Comes w.state.files w.state.workspaces made
    → IfOk (switch_taken made w) (SwitchHears w)
unfolding switch_taken
taken-hears (Err counter) w comes = tt
taken-hears (Ok made) w comes =
    let now : TurnState State = at_workspaces (λ before. made.1) w in
    let builds : Bool = builds_crates w.state.client.settings made.0 in
    IfOk-and_then (switch_followed made.0 now) (crates_built builds) (Tells now) (SwitchHears w) (follows-tell made.0 now)
    (λ v tells. IfOk-weaker (crates_built builds v) (Hears v.state.files.progress_version v) (SwitchHears w) (built-hears builds v)
    (λ u hears. record {
      progress = hears.progress ∙ ap (λ (f : SessionFiles). f.progress_version) tells.files;
      turns = hears.turns ∙ tells.turns;
      timers = hears.timers ∙ tells.timers;
      work = subst (Switches w.state.files w.state.workspaces) (sym (hears.workspaces ∙ tells.workspaces)) comes;
    }))

pub switch-hears : (w : TurnState State) → IfOk (switch_done w) (SwitchHears w)
unfolding switch_done
switch-hears w = taken-hears (switch_made w.state.client.settings w.state.files w.state.workspaces) w
    (switch-comes w.state.client.settings w.state.files w.state.workspaces)

-- without a switch that is wanted nothing is done
pub no-switch : (w : TurnState State) → w.state.workspaces.switch_wanted ≡ false → switch_done w ≡ Ok w
unfolding switch_done switch_taken switch_followed crates_built
no-switch w none = ap (λ r. switch_taken r w)
    (else-is (is_switch_due w.state.files w.state.workspaces) _ (Ok (Nothing, w.state.workspaces)) (ap (λ b. b && not w.state.files.loading) none))
