-- Which workspaces have a target whose root passes a test.
use Rattle.std.specs.Prelude.{ℕ, Bool, true, false, List, map, bytes_eq, slice_get, Option, Some, None, is_some}
use Rattle.std.specs.List.{list_any}
use Rattle.std.specs.FinMap as by_key
use Rattle.docs_vfs.specs.Paths.{path_cmp}
use Rattle.project_model.specs.declared.package.Package.{Package}
use Rattle.project_model.specs.declared.package.Target.{Target}
use Rattle.project_model.specs.declared.workspace.ProjectWorkspace.{ProjectWorkspace}

abbrev pub is_among : List (List ℕ) → List ℕ → Bool
is_among roots root = list_any (bytes_eq root) roots

abbrev pub has_target : (List ℕ → Bool) → Package → Bool
has_target test member = list_any (λ (target : Target). test target.root) member.targets

abbrev pub has_target_in : (List ℕ → Bool) → ProjectWorkspace → Bool
has_target_in test workspace = list_any (has_target test) workspace.packages

abbrev pub found_has_target : (List ℕ → Bool) → Option ProjectWorkspace → Bool
found_has_target test None = false
found_has_target test (Some workspace) = has_target_in test workspace

-- of the workspace at a place; where there is none, no target
abbrev pub has_target_at : (List ℕ → Bool) → List ProjectWorkspace → ℕ → Bool
has_target_at test workspaces place = found_has_target test (slice_get workspaces place)

abbrev pub marked : List ℕ → List ℕ × Bool
marked root = (root, true)

-- the roots as a map, and whether a root is in it
abbrev pub as_map : List (List ℕ) → by_key.FinMap path_cmp Bool
as_map roots = by_key.from_entries (map marked roots)

abbrev pub holds : by_key.FinMap path_cmp Bool → List ℕ → Bool
holds rows root = is_some (by_key.get rows root)
