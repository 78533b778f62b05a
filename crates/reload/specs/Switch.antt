-- What becomes of the workspaces when a fetch or a run of build scripts has ended.
use Rattle.std.specs.Prelude.{◌≡◌, ℕ, Bool, true, false, not, ◌&&◌, ◌||◌, ◌==◌, List, [], ◌∷◌, Option, Some, None}
use Rattle.std.specs.Prelude.{is_some, Result, Ok, Err, length, if◌then◌else◌}
use Rattle.std.specs.Cmp.Lexicographic.{pointwise}
use Rattle.project_model.specs.declared.build.BuildScripts.{BuildScripts}
use Rattle.project_model.specs.declared.workspace.ProjectWorkspace.{ProjectWorkspace}
use Rattle.project_model.specs.Same.{is_same_but_build}
use Rattle.project_model.specs.Msrv.{msrv_texts}
use Rattle.reload.specs.Errors.{fetch_error}
use Rattle.reload.specs.declared.switch.Switch.{Switch}
use Rattle.reload.specs.declared.switch.Switch.TheVariants as switch

abbrev pub Fetched : Type 0
Fetched = List (Result ProjectWorkspace (List ℕ))

abbrev pub BuildRuns : Type 0
BuildRuns = List (Result BuildScripts (List ℕ))

abbrev pub is_empty : List ProjectWorkspace → Bool
is_empty [] = true
is_empty (first ∷ rest) = false

-- the workspaces that were fetched
abbrev pub workspaces_fetched : Fetched → List ProjectWorkspace
workspaces_fetched [] = []
workspaces_fetched (Ok workspace ∷ rest) = workspace ∷ workspaces_fetched rest
workspaces_fetched (Err error ∷ rest) = workspaces_fetched rest

-- there are as many, and each is the other but for its build data
abbrev pub are_same : List ProjectWorkspace → List ProjectWorkspace → Bool
are_same = pointwise is_same_but_build

-- a run that failed made nothing
abbrev pub scripts_of : Result BuildScripts (List ℕ) → BuildScripts
scripts_of (Ok scripts) = scripts
scripts_of (Err error) = record { error = None; macro_paths = [] }

abbrev pub with_build : ProjectWorkspace → Result BuildScripts (List ℕ) → ProjectWorkspace
with_build workspace run = record workspace { build = Some (scripts_of run) }

-- each workspace with what its build made
abbrev pub with_builds : BuildRuns → List ProjectWorkspace → List ProjectWorkspace
with_builds [] workspaces = []
with_builds (run ∷ runs) [] = []
with_builds (run ∷ runs) (workspace ∷ rest) = with_build workspace run ∷ with_builds runs rest

-- the build data that was run on the workspaces of this version
abbrev pub runs_on : ℕ → ℕ → Option BuildRuns → Option BuildRuns
runs_on version build_version build = if build_version == version then build else None

-- crate data is built anew where that is forced
abbrev pub anew_if : Bool → Switch
anew_if forced = if forced then switch.CrateData else switch.End

-- the fetched workspaces are the present ones
abbrev pub kept : List ProjectWorkspace → Option BuildRuns → Bool → Switch
kept [] runs forced = switch.End
kept (first ∷ rest) (Some runs) forced = switch.Join (with_builds runs (first ∷ rest))
kept (first ∷ rest) None forced = anew_if forced

-- they aren't: what follows waits for build data, unless that isn't run or there were no workspaces before
abbrev pub replacing : List ProjectWorkspace → List ProjectWorkspace → Bool → Switch
replacing new present build_scripts = switch.Replace new (msrv_texts new)
    build_scripts (not build_scripts || is_empty present)

-- an error ends the switch where there are workspaces
abbrev pub has_ended : Fetched → Bool → List ProjectWorkspace → Bool
has_ended fetched discover present = is_some (fetch_error (Some fetched) discover) && not (is_empty present)

-- the fetched workspaces are taken: whether they are the present ones decides
abbrev pub switched_to : Fetched → List ProjectWorkspace → Option BuildRuns → Bool → Bool → Switch
switched_to fetched present runs forced build_scripts =
    if are_same (workspaces_fetched fetched) present then kept present runs forced
    else replacing (workspaces_fetched fetched) present build_scripts

-- what a switch comes to; where nothing was fetched it does nothing
abbrev pub switch_of : Option Fetched → Bool → Bool → List ProjectWorkspace → Option BuildRuns → Bool → Switch
switch_of None forced discover present runs build_scripts = switch.End
switch_of (Some fetched) forced discover present runs build_scripts =
    if has_ended fetched discover present then anew_if forced else switched_to fetched present runs forced build_scripts

-- there is one run for each workspace
abbrev pub HasOneEach : Option BuildRuns → List ProjectWorkspace → Type 0
HasOneEach None present = Unit {0}
HasOneEach (Some runs) present = length runs ≡ length present
