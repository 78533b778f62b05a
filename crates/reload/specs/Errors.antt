-- What is told of a fetch of workspaces and of a run of build scripts that failed.
use Rattle.std.specs.Prelude.{ℕ, Bool, true, false, List, [], ◌∷◌, ◌++◌, length, ◌==◌, codes, map, Option, Some, None}
use Rattle.std.specs.Prelude.{Result, Ok, Err, if◌then◌else◌}
use Rattle.std.specs.List.{concat}
use Rattle.project_model.specs.declared.workspace.ProjectWorkspace.{ProjectWorkspace}
use Rattle.project_model.specs.declared.build.BuildScripts.{BuildScripts}

abbrev pub line_feed : List ℕ
line_feed = 10 ∷ []

-- the text, where it isn't empty
abbrev pub unless_empty : List ℕ → Option (List ℕ)
unless_empty text = if length text == 0 then None else Some text

abbrev pub line_of_error : Option (List ℕ) → List ℕ
line_of_error None = []
line_of_error (Some error) = error ++ line_feed

abbrev pub line_of_failed : List ℕ → List ℕ
line_of_failed error = codes "rust-analyzer failed to load workspace: " ++ line_of_error (Some error)

abbrev pub line_of_workspace : Result ProjectWorkspace (List ℕ) → List ℕ
line_of_workspace (Ok workspace) = []
line_of_workspace (Err error) = line_of_failed error

-- a line for each error; without discovery an empty list is one error
abbrev pub text_of_fetch : List (Result ProjectWorkspace (List ℕ)) → Bool → List ℕ
text_of_fetch [] false = codes "rust-analyzer failed to fetch workspace"
text_of_fetch [] true = []
text_of_fetch (first ∷ rest) discover = concat (map line_of_workspace (first ∷ rest))

abbrev pub fetch_error : Option (List (Result ProjectWorkspace (List ℕ))) → Bool → Option (List ℕ)
fetch_error None discover = None
fetch_error (Some last) discover = unless_empty (text_of_fetch last discover)

abbrev pub line_of_build : Result BuildScripts (List ℕ) → List ℕ
line_of_build (Ok scripts) = line_of_error scripts.error
line_of_build (Err error) = error ++ line_feed

-- a line for each error, of a run that failed and of one that ended
abbrev pub build_error : Option (List (Result BuildScripts (List ℕ))) → Option (List ℕ)
build_error None = None
build_error (Some last) = unless_empty (concat (map line_of_build last))
