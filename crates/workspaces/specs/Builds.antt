-- How runs of build data are asked for, start and end.
use Prim.Native.Nat.{zero, suc}
use Rattle.std.specs.Prelude.{ℕ, Bool, false, if◌then◌else◌, List, [], ◌∷◌, codes, Option, None, Some, option_map}
use Rattle.std.specs.Prelude.{Result, Ok, Err}
use Rattle.op_board.specs.Queue.{starts, after_start}
use Rattle.op_board.specs.QueueRuns.{queue_step}
use Rattle.op_board.specs.QueueRuns.QueueAct.{Requests, Ends}
use Rattle.reload.specs.Switch.{BuildRuns}
use Rattle.workspaces.specs.Fetches.{unforced, ask_fetch}
use Rattle.workspaces.specs.Workspaces.{Builds, Workspaces}

abbrev pub ask_build : List ℕ → Builds → Builds
ask_build cause b = record b { queue = queue_step (Requests (cause, tt)) b.queue }

-- the number that a run is started on, where one is to start; else as before
abbrev pub starts_on : ℕ → ℕ → Option (List ℕ × Unit {0}) → ℕ
starts_on now before None = before
starts_on now before (Some request) = now

-- after the run that is to start, if there is one, was handed out, on so many workspaces of this version
abbrev pub after_build_start : ℕ → ℕ → Builds → Builds
after_build_start version count b = record {
  queue = after_start b.queue;
  version = starts_on version b.version (starts b.queue);
  count = starts_on count b.count (starts b.queue);
}

-- the version that the run is on that is to start; none starts while a fetch is in progress
abbrev pub build_to_start : Bool → ℕ → Builds → Option ℕ
build_to_start fetching version b = if fetching then None
    else option_map (λ (request : List ℕ × Unit {0}). version) (starts b.queue)

abbrev pub start_build : Bool → ℕ → ℕ → Builds → Builds
start_build fetching version count b = if fetching then b else after_build_start version count b

-- so many runs, in order; the error stands for those that are missing
abbrev pub one_each : List ℕ → ℕ → BuildRuns → BuildRuns
one_each error zero runs = []
one_each error (suc more) [] = Err error ∷ one_each error more []
one_each error (suc more) (run ∷ runs) = run ∷ one_each error more runs

abbrev pub missing : List ℕ
missing = codes "missing"

-- one run for each of so many workspaces; a run that failed as a whole is that error for each
abbrev pub runs_of : Result BuildRuns (List ℕ) → ℕ → BuildRuns
runs_of (Ok runs) count = one_each missing count runs
runs_of (Err error) count = one_each error count []

-- what a run made of each workspace that it was started on is kept with the version that it was on
abbrev pub end_build : Result BuildRuns (List ℕ) → Builds → Builds
end_build result b = record b {
  queue = queue_step
      (Ends (record { version = b.version; runs = runs_of result b.count })) b.queue;
}

-- a saved file asks for build data where what it depends on changed
abbrev pub rebuild : Workspaces → Workspaces
rebuild w =
    if w.build_deps_changed
    then record w {
      builds = ask_build (codes "build_deps_changed - save notification") w.builds;
      build_deps_changed = false;
    }
    else w

-- a client asks for its workspaces anew
abbrev pub reload : Workspaces → Workspaces
reload w = record w {
  fetches = ask_fetch (codes "reload workspace request") unforced w.fetches;
  build_deps_changed = false;
}

-- a client asks for its macros anew
abbrev pub rebuild_macros : Workspaces → Workspaces
rebuild_macros w = record w {
  builds = ask_build (codes "rebuild proc macros request") w.builds;
  build_deps_changed = false;
}
