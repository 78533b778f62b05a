-- A workspace apart from what its build made.
use Rattle.std.specs.Prelude.{ℕ, List, None, unwrap_or}
use Rattle.project_model.specs.declared.workspace.ProjectWorkspace.{ProjectWorkspace}

-- the workspace as it is before its build
abbrev pub without_build : ProjectWorkspace → ProjectWorkspace
without_build workspace = record workspace { build = None }

-- the path that names the workspace in texts: its manifest, or else its root
abbrev pub manifest_or_root : ProjectWorkspace → List ℕ
manifest_or_root workspace = unwrap_or workspace.manifest workspace.root
