-- The crate graph of a list of workspaces.
use Rattle.std.specs.Prelude.{ℕ, ◌+◌, nat_lt, List, [], ◌∷◌, ◌++◌, map, length, take, drop, codes, slice_get, Option}
use Rattle.std.specs.Prelude.{Some, None, option_map, option_and_then, unwrap_or, if◌then◌else◌}
use Rattle.std.specs.List.{filter_map, enumerate_from}
use Rattle.std.specs.Ordering.{nat_cmp}
use Rattle.std.specs.FinMap as by_key
use Rattle.std.specs.Borrow.{Bor}
use Rattle.std.specs.Option.{option_copied}
use Rattle.docs_vfs.specs.declared.file_kinds.FileId.{FileId}
use Rattle.project_model.specs.declared.build.BuildScripts.{BuildScripts}
use Rattle.project_model.specs.declared.build.MacroPath.{MacroPath}
use Rattle.project_model.specs.declared.build.MacroPath.TheVariants.{Failed}
use Rattle.project_model.specs.declared.crates.CrateData.{CrateData}
use Rattle.project_model.specs.declared.crates.CrateEntry.{CrateEntry}
use Rattle.project_model.specs.declared.crates.CrateInfo.{CrateInfo}
use Rattle.project_model.specs.declared.workspace.ProjectWorkspace.{ProjectWorkspace}

-- at most this many crates are kept
unfoldable pub most_crates : ℕ
most_crates = 4294967295

-- the roots of the crates of all workspaces, in order
abbrev pub crate_roots : List ProjectWorkspace → List (List ℕ)
crate_roots [] = []
crate_roots (workspace ∷ rest) = map (λ (entry : CrateEntry). entry.root) workspace.crates ++ crate_roots rest

-- where a crate stands in the graph: its file and its number
abbrev pub Standing : Type 0
Standing = FileId × ℕ

-- a root that has a file gets the next number, if one is left
abbrev pub place_at : ℕ → Option FileId → Option Standing
place_at next None = None
place_at next (Some file) = if nat_lt next most_crates then Some (file, next) else None

abbrev pub next_after : ℕ → Option Standing → ℕ
next_after next None = next
next_after next (Some place) = next + 1

-- where the crates stand, of which these files were answered; none where a crate is left out
abbrev pub places_from : ℕ → List (Option FileId) → List (Option Standing)
places_from next [] = []
places_from next (file ∷ files) = place_at next file ∷ places_from (next_after next (place_at next file)) files

-- where the crate at an index of its workspace stands
abbrev pub standing_at : List (Option Standing) → ℕ → Option Standing
standing_at places index = option_and_then (λ (place : Option Standing). place) (slice_get places index)

abbrev pub number_of : List (Option Standing) → ℕ → Option ℕ
number_of places index = option_map (λ (place : Standing). place.1) (standing_at places index)

-- a crate that is kept: dependencies that are kept are renumbered, the others dropped
abbrev pub info_of : List (Option Standing) → CrateEntry → Standing → CrateInfo
info_of places entry (file, number) =
    record {
      root = file;
      name = entry.name;
      deps = filter_map (number_of places) entry.deps;
      is_proc_macro = entry.is_proc_macro;
    }

abbrev pub crate_of : List (Option Standing) → ℕ × CrateEntry → Option CrateInfo
crate_of places (index, entry) = option_map (info_of places entry) (standing_at places index)

-- the crates of a workspace that are kept
abbrev pub crates_in : List (Option Standing) → List CrateEntry → List CrateInfo
crates_in places entries = filter_map (crate_of places) (enumerate_from 0 entries)

abbrev pub built_of : Option BuildScripts → List (ℕ × MacroPath)
built_of None = []
built_of (Some scripts) = scripts.macro_paths

-- what was built of a crate, where something was
abbrev pub path_or_none : Option MacroPath → MacroPath
path_or_none found = unwrap_or found (Failed (codes "crate has not yet been built"))

abbrev pub numbered_path : Option MacroPath → Standing → ℕ × MacroPath
numbered_path found (file, number) = (number, path_or_none found)

-- what was built of a proc macro crate that is kept, by its number; found gives what was built of the crate at an index
abbrev pub path_of : (ℕ → Option MacroPath) → List (Option Standing) → ℕ × CrateEntry → Option (ℕ × MacroPath)
path_of found places (index, entry) =
    if entry.is_proc_macro then option_map (numbered_path (found index)) (standing_at places index) else None

-- what is found of a crate among entries that are lent
abbrev pub found_in : by_key.FinMap nat_cmp (Bor MacroPath) → ℕ → Option MacroPath
found_in rows index = option_copied (by_key.get rows index)

-- of several entries for one crate the first holds
abbrev pub first_built : Option BuildScripts → ℕ → Option MacroPath
first_built build index = by_key.find nat_cmp index (built_of build)

-- the proc macro crates of a workspace that are kept
abbrev pub paths_in : List (Option Standing) → ProjectWorkspace → List (ℕ × MacroPath)
paths_in places workspace = filter_map (path_of (first_built workspace.build) places)
    (enumerate_from 0 workspace.crates)

-- the crates of all workspaces that are kept; the places are those of all crates, in order
abbrev pub all_crates : List ProjectWorkspace → List (Option Standing) → List CrateInfo
all_crates [] places = []
all_crates (workspace ∷ rest) places =
    crates_in (take (length workspace.crates) places) workspace.crates
    ++ all_crates rest (drop (length workspace.crates) places)

-- for each workspace what was built of its proc macro crates
abbrev pub all_paths : List ProjectWorkspace → List (Option Standing) → List (List (ℕ × MacroPath))
all_paths [] places = []
all_paths (workspace ∷ rest) places =
    paths_in (take (length workspace.crates) places) workspace ∷ all_paths rest (drop (length workspace.crates) places)

-- the graph where these files were answered for the roots
abbrev pub graph_of : List ProjectWorkspace → List (List ℕ × Option (List ℕ)) → List (Option FileId) → CrateData
    × List (List (ℕ × MacroPath))
graph_of workspaces extra_env files = (
  record { crates = all_crates workspaces (places_from 0 files); env = extra_env; macros = [] },
  all_paths workspaces (places_from 0 files),
)
