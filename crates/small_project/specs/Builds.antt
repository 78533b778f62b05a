-- What build scripts made where none was run.
use Rattle.std.specs.Prelude.{ℕ, List, [], replicate, None}
use Rattle.project_model.specs.declared.build.BuildScripts.{BuildScripts}

abbrev pub no_scripts : BuildScripts
no_scripts = record { error = None; macro_paths = [] }

-- of each of so many workspaces
abbrev pub scripts_of : ℕ → List BuildScripts
scripts_of workspaces = replicate workspaces no_scripts
