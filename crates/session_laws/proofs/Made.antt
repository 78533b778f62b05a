-- What a switch makes of the workspaces, and where it is refused.
use Rattle.std.proofs.Common.{◌≡◌, ◌≤◌, ◌+◌, ◌-◌, ◌^◌, ℕ, List, [], Bool, true, false, refl, inl, inr, arith, eqb-true}
use Rattle.std.proofs.lemmas.Bool.{ltb-false}
use Rattle.std.specs.Prelude.{◌⊎◌, ◌==◌, ltb, Option, None, Some, option_map, Result, Ok, Err, if◌then◌else◌}
use Rattle.project_model.specs.declared.workspace.ProjectWorkspace.{ProjectWorkspace}
use Rattle.ra_config.specs.Config.{ConfigData}
use Rattle.reload.specs.Switch.{is_empty}
use Rattle.reload.specs.declared.switch.Switch.{Switch}
use Rattle.reload.specs.declared.switch.Switch.TheVariants as switch
use Rattle.session_port.specs.declared.fault.Counter.{Counter}
use Rattle.session_port.specs.declared.fault.Counter.TheVariants.{LoaderSettings}
use Rattle.session_files.specs.SessionFiles.{SessionFiles}
use Rattle.workspaces.specs.Switching.{last_loader_version, asks_build, decided, going_on as workspaces_followed, presents, renewed_by, switch_to, switched}
use Rattle.workspaces.specs.Workspaces.{Workspaces}
use Rattle.workspaces.specs.declared.follows.Follows.{Follows}
use Rattle.workspaces.specs.declared.follows.Follows.TheVariants.{Nothing, CrateData, Wait, GoOn}
use Rattle.session_model.specs.Crates.{Numbers, crates_sought, followed_by, waits, with_crates}
use Rattle.session_model.specs.State.{builds_scripts, discovers}
use Rattle.session_model.specs.Switching.{is_switch_due, switch_by, switch_made, unless_exhausted}

-- where a switch goes on, the loader's settings have the next version from then on
abbrev pub IsNext : ℕ → Follows → ℕ → Type 0
IsNext before Nothing after = after ≡ before
IsNext before CrateData after = after ≡ before
IsNext before (Wait msrv) after = after ≡ before
IsNext before (GoOn msrv version initial) after = (version ≡ before + 1) × (after ≡ before + 1)

pub next-most : (before after : ℕ) (follows : Follows) → IsNext before follows after → after ≤ before + 1
next-most before after Nothing next = omega (arith, next)
next-most before after CrateData next = omega (arith, next)
next-most before after (Wait msrv) next = omega (arith, next)
next-most before after (GoOn msrv version initial) next = omega (arith, next.1)

-- the fetches stay as they are, no run of build data and no load of macros starts or ends, and the workspaces get at most one version
pub record Makes (before : Workspaces) (follows : Follows) (after : Workspaces) : Type 0 where
  pub fetches : after.fetches ≡ before.fetches
  pub building : after.builds.queue.in_progress ≡ before.builds.queue.in_progress
  pub loading : after.loads.queue.in_progress ≡ before.loads.queue.in_progress
  pub version : after.version ≤ before.version + 1
  pub next : IsNext before.loader_version follows after.loader_version

-- the workspaces have had their last version, or the loader's settings have
abbrev pub HadLasts : Workspaces → Type 0
HadLasts workspaces = (2 ^ 64 ≤ workspaces.version + 1) ⊎ (2 ^ 32 ≤ workspaces.loader_version + 1)

abbrev MayMake : Workspaces → Option (Follows × Workspaces) → Type 0
MayMake before None = HadLasts before
MayMake before (Some made) = Makes before made.0 made.1

-- what a switch comes to
abbrev pub Outcome : Workspaces → Result (Follows × Workspaces) Counter → Type 0
Outcome before (Ok made) = Makes before made.0 made.1
Outcome before (Err counter) = (counter ≡ LoaderSettings) × HadLasts before

waits-makes : (asks : Bool) (new : List ProjectWorkspace) (msrv : List (List ℕ)) (before : Workspaces)
    → Makes before (Wait msrv) (asks_build asks (presents new before))
waits-makes true new msrv before = record { fetches = refl; building = refl; loading = refl; version = omega arith; next = refl }
waits-makes false new msrv before = record { fetches = refl; building = refl; loading = refl; version = omega arith; next = refl }

version-makes : (msrv : List (List ℕ)) (initial : Bool) (before after : Workspaces) (b : Bool) → (before.loader_version == last_loader_version) ≡ b
    → Makes before (Wait msrv) after
    → MayMake before (option_map (workspaces_followed msrv initial after) (if b then None else Some (Some (before.loader_version + 1))))
version-makes msrv initial before after true is m = let last : before.loader_version ≡ 4294967295 = eqb-true _ _ is in inr (omega (arith, last))
version-makes msrv initial before after false is m =
    record { fetches = m.fetches; building = m.building; loading = m.loading; version = m.version; next = (refl, refl) }

renewed-makes : (new : List ProjectWorkspace) (msrv : List (List ℕ)) (asks goes_on : Bool) (before : Workspaces)
    → MayMake before (renewed_by new msrv asks goes_on before)
renewed-makes new msrv asks true before =
    version-makes msrv (is_empty before.present) before (asks_build asks (presents new before)) (before.loader_version == last_loader_version) refl
    (waits-makes asks new msrv before)
renewed-makes new msrv asks false before = waits-makes asks new msrv before

to-makes : (to : Switch) (before : Workspaces) → MayMake before (switch_to to before)
to-makes switch.End before = record { fetches = refl; building = refl; loading = refl; version = omega arith; next = refl }
to-makes switch.CrateData before = record { fetches = refl; building = refl; loading = refl; version = omega arith; next = refl }
to-makes (switch.Join made) before = renewed-makes made [] false true before
to-makes (switch.Replace new msrv asks goes_on) before = renewed-makes new msrv asks goes_on before

by-makes : (settings : ConfigData) (before : Workspaces) (b : Bool) → ltb before.version (2 ^ 64 - 1) ≡ b
    → MayMake before (if b then switched (discovers settings) (builds_scripts settings) before else None)
by-makes settings before true is = to-makes (decided (discovers settings) (builds_scripts settings) before) before
by-makes settings before false is = let last = ltb-false before.version (2 ^ 64 - 1) is in inl (omega (arith, last))

-- crate data is built behind it
sought-makes : (wait : Bool) (settings : ConfigData) (numbers : Numbers) (follows : Follows) (before after : Workspaces) → Makes before follows after
    → Makes before follows (crates_sought wait settings numbers after)
sought-makes true settings numbers follows before after m =
    record { fetches = m.fetches; building = m.building; loading = m.loading; version = m.version; next = m.next }
sought-makes false settings numbers follows before after m =
    record { fetches = m.fetches; building = m.building; loading = m.loading; version = m.version; next = m.next }

followed-makes : (settings : ConfigData) (numbers : Numbers) (follows : Follows) (before after : Workspaces) → Makes before follows after
    → Makes before follows (followed_by settings numbers follows after)
followed-makes settings numbers Nothing before after m = m
followed-makes settings numbers CrateData before after m = sought-makes (waits settings false) settings numbers CrateData before after m
followed-makes settings numbers (Wait msrv) before after m = m
followed-makes settings numbers (GoOn msrv version initial) before after m =
    sought-makes (waits settings initial) settings numbers (GoOn msrv version initial) before after m

crates-make : (settings : ConfigData) (files : SessionFiles) (made : Option (Follows × Workspaces)) (before : Workspaces) → MayMake before made
    → Outcome before (with_crates settings files (unless_exhausted made))
crates-make settings files None before had = (refl, had)
crates-make settings files (Some made) before m = followed-makes settings files.ids made.0 before made.1 m

pub switch-makes : (settings : ConfigData) (files : SessionFiles) (before : Workspaces) → Outcome before (switch_made settings files before)
switch-makes settings files before = by (is_switch_due files before)
  where
    by : (due : Bool) → Outcome before (if due then with_crates settings files (unless_exhausted (switch_by settings before)) else Ok (Nothing, before))
    by true = crates-make settings files (switch_by settings before) before (by-makes settings before (ltb before.version (2 ^ 64 - 1)) refl)
    by false = record { fetches = refl; building = refl; loading = refl; version = omega arith; next = refl }
