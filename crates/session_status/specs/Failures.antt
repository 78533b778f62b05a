-- What of a fetch and of a run of build data has failed.
use Rattle.std.specs.Prelude.{ℕ, Bool, true, false, List, is_some, Result, Ok, Err}
use Rattle.project_model.specs.declared.build.BuildScripts.{BuildScripts}
use Rattle.project_model.specs.declared.workspace.ProjectWorkspace.{ProjectWorkspace}

-- a workspace couldn't be fetched
abbrev pub has_failed : Result ProjectWorkspace (List ℕ) → Bool
has_failed (Ok workspace) = false
has_failed (Err error) = true

-- the build scripts of a workspace couldn't be run, or one of them failed
abbrev pub has_failed_build : Result BuildScripts (List ℕ) → Bool
has_failed_build (Ok scripts) = is_some scripts.error
has_failed_build (Err error) = true
