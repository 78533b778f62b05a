-- What a session knows of its workspaces, and what it asks for to know it.
use Rattle.std.specs.Prelude.{◌≡◌, ◌≤◌, ℕ, Bool, false, not, ◌&&◌, List, [], length, Option, None, is_none, MatchOption}
use Rattle.std.specs.FinMap as map
use Rattle.docs_vfs.specs.Paths.{path_cmp}
use Rattle.op_board.specs.Queue.{Queue, new_queue}
use Rattle.project_model.specs.declared.workspace.ProjectWorkspace.{ProjectWorkspace}
use Rattle.workspaces.specs.declared.requests.FetchRequest.{FetchRequest}
use Rattle.workspaces.specs.declared.requests.WaitingFetch.{WaitingFetch}
use Rattle.workspaces.specs.declared.requests.LoadRequest.{LoadRequest}
use Rattle.workspaces.specs.declared.requests.WaitingCrates.{WaitingCrates}
use Rattle.workspaces.specs.declared.outputs.FetchOutput.{FetchOutput}
use Rattle.workspaces.specs.declared.outputs.BuildOutput.{BuildOutput}

-- fetches of workspaces
pub record Fetches : Type 0 where
  pub queue : Queue FetchRequest FetchOutput
  -- whether the fetch that was started last is forced
  pub forced : Bool
  -- the fetch that waits for a timer
  pub waiting : Option WaitingFetch

-- runs of build data
pub record Builds : Type 0 where
  pub queue : Queue (Unit {0}) BuildOutput
  -- the version of the workspaces on which one was started last, and how many there were
  pub version : ℕ
  pub count : ℕ

-- loads of the macros of crates, each of which succeeded or not
pub record Loads : Type 0 where
  pub queue : Queue LoadRequest Bool
  -- the crate data that waits for the load in progress
  pub waiting : Option WaitingCrates

-- paths, each with nothing
abbrev pub Paths : Type 0
Paths = map.FinMap path_cmp (Unit {0})

pub record Workspaces : Type 0 where
  pub fetches : Fetches
  pub builds : Builds
  pub loads : Loads
  pub present : List ProjectWorkspace
  -- the number of times that they were replaced or joined with build data
  pub version : ℕ
  -- the version of the settings that the loader got last
  pub loader_version : ℕ
  -- the paths that the last build of crate data asked for, and whether one of them wasn't known
  pub asked : Paths
  pub incomplete : Bool
  pub switch_wanted : Bool
  pub build_deps_changed : Bool

abbrev pub no_fetches : Fetches
no_fetches = record { queue = new_queue; forced = false; waiting = None }

abbrev pub no_builds : Builds
no_builds = record { queue = new_queue; version = 0; count = 0 }

abbrev pub no_loads : Loads
no_loads = record { queue = new_queue; waiting = None }

-- no workspaces, where the loader got settings of this version
abbrev pub no_workspaces_at : ℕ → Workspaces
no_workspaces_at loader_version = record {
  fetches = no_fetches;
  builds = no_builds;
  loads = no_loads;
  present = [];
  version = 0;
  loader_version = loader_version;
  asked = map.empty;
  incomplete = false;
  switch_wanted = false;
  build_deps_changed = false;
}

abbrev pub no_workspaces : Workspaces
no_workspaces = no_workspaces_at 0

-- build data of no later version; that of the present version has one run for each workspace
abbrev pub IsOf : List ProjectWorkspace → ℕ → BuildOutput → Type 0
IsOf present version output = (output.version ≤ version)
    × (output.version ≡ version → length output.runs ≡ length present)

-- build data was run on workspaces that were present
pub record HasBuilt (builds : Builds) (present : List ProjectWorkspace) (version : ℕ) : Type 0 where
  pub started : builds.version ≤ version
  pub counted : builds.version ≡ version → builds.count ≡ length present
  pub ended : MatchOption builds.queue.last (Unit {0}) (IsOf present version)

-- no fetch waits for a timer, and none of the three is in progress
abbrev pub is_idle : Workspaces → Bool
is_idle w =
    is_none w.fetches.waiting && not w.fetches.queue.in_progress && not w.builds.queue.in_progress
    && not w.loads.queue.in_progress
