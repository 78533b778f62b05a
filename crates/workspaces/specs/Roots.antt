-- The roots that a loader gets for the workspaces.
use Rattle.std.specs.Prelude.{ℕ, List, [], ◌∷◌, ◌++◌, map}
use Rattle.docs_vfs.specs.declared.source_roots.Root.{Root}
use Rattle.project_model.specs.declared.workspace.ProjectWorkspace.{ProjectWorkspace}

-- the root excludes these paths too
abbrev pub excluding : List (List ℕ) → Root → Root
excluding exclude root = record { include = root.include; exclude = root.exclude ++ exclude; is_local = root.is_local }

-- the roots of all workspaces, in order
abbrev pub loader_roots : List (List ℕ) → List ProjectWorkspace → List Root
loader_roots exclude [] = []
loader_roots exclude (workspace ∷ rest) = map (excluding exclude) workspace.roots ++ loader_roots exclude rest
