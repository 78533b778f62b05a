-- A switch to the workspaces that were fetched, or to what their builds made.
use Rattle.std.specs.Prelude.{◌≡◌, ℕ, ◌+◌, ◌==◌, Bool, true, false, if◌then◌else◌, List, [], codes, Option, None, Some}
use Rattle.std.specs.Prelude.{option_map, Result, Ok, Err}
use Rattle.project_model.specs.declared.workspace.ProjectWorkspace.{ProjectWorkspace}
use Rattle.reload.specs.Switch.{Fetched, BuildRuns, is_empty, runs_on, switch_of}
use Rattle.reload.specs.declared.switch.Switch.{Switch}
use Rattle.reload.specs.declared.switch.Switch.TheVariants as switch
use Rattle.workspaces.specs.declared.follows.Follows.{Follows}
use Rattle.workspaces.specs.declared.follows.Follows.TheVariants as follows
use Rattle.workspaces.specs.declared.follows.SwitchFault.{SwitchFault}
use Rattle.workspaces.specs.declared.follows.SwitchFault.TheVariants as fault
use Rattle.workspaces.specs.declared.outputs.BuildOutput.{BuildOutput}
use Rattle.workspaces.specs.declared.outputs.FetchOutput.{FetchOutput}
use Rattle.workspaces.specs.Builds.{ask_build}
use Rattle.workspaces.specs.Workspaces.{Workspaces}

-- ---- what a switch goes by

abbrev pub list_fetched : Option FetchOutput → Option Fetched
list_fetched last = option_map (λ (output : FetchOutput). output.workspaces) last

abbrev pub was_forced : Option FetchOutput → Bool
was_forced None = false
was_forced (Some output) = output.forced

abbrev pub runs_built : Option BuildOutput → Option BuildRuns
runs_built last = option_map (λ (output : BuildOutput). output.runs) last

abbrev pub version_built : Option BuildOutput → ℕ
version_built None = 0
version_built (Some output) = output.version

-- the last build data, where it was run on workspaces of this version
abbrev pub runs_at : ℕ → Option BuildOutput → Option BuildRuns
runs_at version last = runs_on version (version_built last) (runs_built last)

-- the last fetch and the last build data decide upon a switch
abbrev pub decided : Bool → Bool → Workspaces → Switch
decided discover build_scripts w =
    switch_of (list_fetched w.fetches.queue.last) (was_forced w.fetches.queue.last) discover w.present
    (runs_at w.version w.builds.queue.last) build_scripts

-- ---- what it leaves

abbrev pub last_loader_version : ℕ
last_loader_version = 4294967295

-- the switch is done
abbrev pub settled : Workspaces → Workspaces
settled w = record w { switch_wanted = false }

-- these workspaces are present from now on, as a new version
abbrev pub presents : List ProjectWorkspace → Workspaces → Workspaces
presents new w = record (settled w) { present = new; version = w.version + 1 }

abbrev pub new_workspaces_cause : List ℕ
new_workspaces_cause = codes "workspace updated"

-- the new workspaces ask for their build data
abbrev pub asks_build : Bool → Workspaces → Workspaces
asks_build false w = w
asks_build true w = record w { builds = ask_build new_workspaces_cause w.builds; build_deps_changed = false }

-- the loader's next version, where all that follows is to be done; nothing where its versions have run out
abbrev pub next_version : Bool → ℕ → Option (Option ℕ)
next_version false version = Some None
next_version true version = if version == last_loader_version then None else Some (Some (version + 1))

-- all that follows is done with the loader's next version, or waits for build data
abbrev pub going_on : List (List ℕ) → Bool → Workspaces → Option ℕ → Follows × Workspaces
going_on msrv initial w None = (follows.Wait msrv, w)
going_on msrv initial w (Some loader_version) =
    (follows.GoOn msrv loader_version initial, record w { loader_version = loader_version })

-- new workspaces are present
abbrev pub renewed_by : List ProjectWorkspace → List (List ℕ) → Bool → Bool → Workspaces → Option (Follows × Workspaces)
renewed_by new msrv ask_build go_on w =
    option_map (going_on msrv (is_empty w.present) (asks_build ask_build (presents new w)))
    (next_version go_on w.loader_version)

-- what follows a switch, and what it leaves; nothing where the loader's versions have run out
abbrev pub switch_to : Switch → Workspaces → Option (Follows × Workspaces)
switch_to switch.End w = Some (follows.Nothing, settled w)
switch_to switch.CrateData w = Some (follows.CrateData, settled w)
switch_to (switch.Join made) w = renewed_by made [] false true w
switch_to (switch.Replace new msrv ask_build go_on) w = renewed_by new msrv ask_build go_on w

-- what follows the switch that is decided, and what it leaves
abbrev pub switched : Bool → Bool → Workspaces → Option (Follows × Workspaces)
switched discover build_scripts w = switch_to (decided discover build_scripts w) w

-- what a call answers and leaves, by what it is to answer and leave; that memory ran out is free
abbrev pub SwitchesAs : Option (Follows × Workspaces) → Workspaces → Result Follows SwitchFault → Workspaces → Type 0
SwitchesAs expected old (Ok next) new = expected ≡ Some (next, new)
SwitchesAs expected old (Err fault.Exhausted) new = (expected ≡ None) × (new ≡ old)
SwitchesAs expected old (Err fault.NoMemory) new = new ≡ old
