-- Runs of the calls on build data and on macros: what they did, one act after another. A run has its last act first.
use Rattle.std.specs.Prelude.{◌≡◌, ℕ, ◌+◌, Bool, true, List, [], ◌∷◌, ◌++◌, option_to_list, Result}
use Rattle.project_model.specs.declared.build.MacroPath.{MacroPath}
use Rattle.project_model.specs.declared.crates.CrateData.{CrateData}
use Rattle.project_model.specs.declared.crates.MacroState.{MacroState}
use Rattle.reload.specs.Switch.{BuildRuns}
use Rattle.workspaces.specs.Builds.{ask_build, build_to_start, start_build, end_build}
use Rattle.workspaces.specs.Loads.{ask_load, load_to_start, start_load, end_load}
use Rattle.workspaces.specs.Workspaces.{Builds, no_builds, Loads, no_loads}

pub data BuildAct : Type 0 where
  AsksBuild : List ℕ → BuildAct
  -- whether a fetch is in progress, the version of the workspaces, and how many there are
  StartsBuild : Bool → ℕ → ℕ → BuildAct
  -- what was made
  EndsBuild : Result BuildRuns (List ℕ) → BuildAct

abbrev pub build_step : BuildAct → Builds → Builds
build_step (AsksBuild cause) b = ask_build cause b
build_step (StartsBuild fetching version count) b = start_build fetching version count b
build_step (EndsBuild result) b = end_build result b

abbrev pub builds_after : List BuildAct → Builds
builds_after [] = no_builds
builds_after (act ∷ before) = build_step act (builds_after before)

-- a run of build data ends only where one is in progress
abbrev pub IsBuildRun : List BuildAct → Type 0
IsBuildRun [] = Unit {0}
IsBuildRun (EndsBuild result ∷ before) = ((builds_after before).queue.in_progress ≡ true) × IsBuildRun before
IsBuildRun (act ∷ before) = IsBuildRun before

-- the versions on which runs were started, the last one first
abbrev pub builds_started : List BuildAct → List ℕ
builds_started [] = []
builds_started (StartsBuild fetching version count ∷ before) =
    option_to_list (build_to_start fetching version (builds_after before)) ++ builds_started before
builds_started (act ∷ before) = builds_started before

-- how many of them ended
abbrev pub builds_ended : List BuildAct → ℕ
builds_ended [] = 0
builds_ended (EndsBuild result ∷ before) = builds_ended before + 1
builds_ended (act ∷ before) = builds_ended before

-- how many workspaces they were started on, the last one first
abbrev pub counts_started : List BuildAct → List ℕ
counts_started [] = []
counts_started (StartsBuild fetching version count ∷ before) =
    option_to_list (build_to_start fetching count (builds_after before)) ++ counts_started before
counts_started (act ∷ before) = counts_started before

-- the number of the last one that was started
abbrev pub last_started : List ℕ → ℕ
last_started [] = 0
last_started (last ∷ before) = last

pub data LoadAct : Type 0 where
  AsksLoad : List ℕ → CrateData → List (List (ℕ × MacroPath)) → LoadAct
  -- whether a fetch is in progress
  StartsLoad : Bool → LoadAct
  EndsLoad : Result (List (ℕ × MacroState)) (List ℕ) → LoadAct

abbrev pub load_step : LoadAct → Loads → Loads
load_step (AsksLoad cause crates paths) l = ask_load cause crates paths l
load_step (StartsLoad fetching) l = start_load fetching l
load_step (EndsLoad result) l = end_load result l

abbrev pub loads_after : List LoadAct → Loads
loads_after [] = no_loads
loads_after (act ∷ before) = load_step act (loads_after before)

-- a load ends only where one is in progress
abbrev pub IsLoadRun : List LoadAct → Type 0
IsLoadRun [] = Unit {0}
IsLoadRun (EndsLoad result ∷ before) = ((loads_after before).queue.in_progress ≡ true) × IsLoadRun before
IsLoadRun (act ∷ before) = IsLoadRun before

-- what was loaded, the last one first
abbrev pub loads_started : List LoadAct → List (List (List (ℕ × MacroPath)))
loads_started [] = []
loads_started (StartsLoad fetching ∷ before) = option_to_list (load_to_start fetching (loads_after before))
    ++ loads_started before
loads_started (act ∷ before) = loads_started before

-- how many of them ended
abbrev pub loads_ended : List LoadAct → ℕ
loads_ended [] = 0
loads_ended (EndsLoad result ∷ before) = loads_ended before + 1
loads_ended (act ∷ before) = loads_ended before
