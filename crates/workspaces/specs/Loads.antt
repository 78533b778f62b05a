-- How loads of macros are asked for, start and end.
use Rattle.std.specs.Prelude.{ℕ, Bool, false, if◌then◌else◌, List, [], ◌∷◌, ◌++◌, map, Option, None, Some, option_map}
use Rattle.std.specs.Prelude.{unwrap_or, Result, Ok, Err, is_ok}
use Rattle.std.specs.Borrow.{Bor}
use Rattle.std.specs.FinMap as by_key
use Rattle.std.specs.Option.{option_copied}
use Rattle.std.specs.List.{enumerate_from}
use Rattle.std.specs.Ordering.{nat_cmp}
use Rattle.op_board.specs.Queue.{starts, after_start}
use Rattle.op_board.specs.QueueRuns.{queue_step}
use Rattle.op_board.specs.QueueRuns.QueueAct.{Requests, Ends}
use Rattle.project_model.specs.declared.build.MacroPath.{MacroPath}
use Rattle.project_model.specs.declared.crates.CrateData.{CrateData}
use Rattle.project_model.specs.declared.crates.CrateInfo.{CrateInfo}
use Rattle.project_model.specs.declared.crates.MacroState.{MacroState}
use Rattle.project_model.specs.declared.crates.MacroState.TheVariants.{NotYetBuilt, Disabled, Failed}
use Rattle.workspaces.specs.declared.requests.LoadRequest.{LoadRequest}
use Rattle.workspaces.specs.declared.requests.WaitingCrates.{WaitingCrates}
use Rattle.workspaces.specs.Builds.{missing}
use Rattle.workspaces.specs.Workspaces.{Loads}

-- the crates of these lists, in order
abbrev pub listed_in : List (List (ℕ × MacroPath)) → List ℕ
listed_in [] = []
listed_in (paths ∷ rest) = map (λ (path : ℕ × MacroPath). path.0) paths ++ listed_in rest

-- crate data waits in the queue, with the libraries of its macros
abbrev pub ask_load : List ℕ → CrateData → List (List (ℕ × MacroPath)) → Loads → Loads
ask_load cause crates paths l =
    record l {
      queue = queue_step (Requests
          (cause, record { crates = crates; listed = listed_in paths; paths = paths })) l.queue;
    }

-- the crate data of the load that is to start; where none is, as before
abbrev pub starts_with : Option WaitingCrates → Option (List ℕ × LoadRequest) → Option WaitingCrates
starts_with before None = before
starts_with before (Some request) = Some (record { crates = request.1.crates; listed = request.1.listed })

-- after the load that is to start, if there is one, was handed out
abbrev pub after_load_start : Loads → Loads
after_load_start l = record { queue = after_start l.queue; waiting = starts_with l.waiting (starts l.queue) }

-- the libraries that are to be loaded; none are while a fetch is in progress
abbrev pub load_to_start : Bool → Loads → Option (List (List (ℕ × MacroPath)))
load_to_start fetching l = if fetching then None
    else option_map (λ (request : List ℕ × LoadRequest). request.1.paths) (starts l.queue)

abbrev pub start_load : Bool → Loads → Loads
start_load fetching l = if fetching then l else after_load_start l

-- what became of a crate's macros, where this was told of it
abbrev pub state_or_missing : Option MacroState → MacroState
state_or_missing told = unwrap_or told (Failed missing)

-- of several entries for one crate the first holds
abbrev pub first_told : List (ℕ × MacroState) → ℕ → Option MacroState
first_told entries number = by_key.find nat_cmp number entries

-- the same, where the entries are lent
abbrev pub found_in : by_key.FinMap nat_cmp (Bor MacroState) → ℕ → Option MacroState
found_in rows number = option_copied (by_key.get rows number)

abbrev pub numbered : (ℕ → Option MacroState) → ℕ → ℕ × MacroState
numbered told number = (number, state_or_missing (told number))

-- each crate that was listed, in order; a load that failed as a whole failed for each
abbrev pub macros_of : Result (List (ℕ × MacroState)) (List ℕ) → List ℕ → List (ℕ × MacroState)
macros_of (Ok entries) listed = map (numbered (first_told entries)) listed
macros_of (Err error) listed = map (numbered (λ number. Some (Failed error))) listed

-- each crate by its number, in this state
abbrev pub all_in : MacroState → List CrateInfo → List (ℕ × MacroState)
all_in state crates = map (λ (entry : ℕ × CrateInfo). (entry.0, state)) (enumerate_from 0 crates)

-- macros that aren't loaded: not yet, or not at all
abbrev pub unloaded : Bool → MacroState
unloaded enabled = if enabled then NotYetBuilt else Disabled

-- crate data that doesn't wait for its macros
abbrev pub without_macros : Bool → CrateData → CrateData
without_macros enabled graph = record {
  crates = graph.crates;
  env = graph.env;
  macros = all_in (unloaded enabled) graph.crates;
}

-- the crates whose macros crate data waits for
abbrev pub listed_for : Option WaitingCrates → List ℕ
listed_for None = []
listed_for (Some crates) = crates.listed

abbrev pub macros_put : List (ℕ × MacroState) → WaitingCrates → CrateData
macros_put macros waiting = record { crates = waiting.crates.crates; env = waiting.crates.env; macros = macros }

-- the crate data that waited, with what became of its macros
abbrev pub loaded_crates : Result (List (ℕ × MacroState)) (List ℕ) → Loads → Option CrateData
loaded_crates result l = option_map (macros_put (macros_of result (listed_for l.waiting))) l.waiting

abbrev pub end_load : Result (List (ℕ × MacroState)) (List ℕ) → Loads → Loads
end_load result l = record { queue = queue_step (Ends (is_ok result)) l.queue; waiting = None }

abbrev pub was_loaded : Option Bool → Bool
was_loaded None = false
was_loaded (Some succeeded) = succeeded
