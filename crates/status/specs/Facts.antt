-- What a status tells, in order.
use Rattle.std.specs.Prelude.{ℕ, Bool, true, false, List, [], ◌∷◌, ◌++◌, codes, map, Option, Some, None}
use Rattle.project_model.specs.Workspaces.{manifest_or_root}
use Rattle.project_model.specs.declared.workspace.ProjectWorkspace.{ProjectWorkspace}
use Rattle.project_model.specs.Msrv.{msrv_texts}
use Rattle.status.specs.Drafts.{Fact, add_all, add_each, nothing_told, message_of}
use Rattle.status.specs.Texts.{reload_text, rebuild_text, build_text, discover_text, line, load_text, error_text}
use Rattle.status.specs.declared.draft.Draft.{Draft}
use Rattle.status.specs.declared.health.Health.{Health}
use Rattle.status.specs.declared.health.Health.TheVariants.{Warning, Error}
use Rattle.status.specs.declared.status.Status.{Status}
use Rattle.status.specs.declared.status.StatusInput.{StatusInput}

-- a fact, where it holds
abbrev pub fact_if : Bool → Health → List ℕ → List Fact
fact_if true health text = (health, text) ∷ []
fact_if false health text = []

-- a text that is told as a line, where there is one
abbrev pub line_if : Option (List ℕ) → List Fact
line_if None = []
line_if (Some text) = (Warning, line text) ∷ []

-- an error of a workspace, where there is one
abbrev pub error_if : List ℕ → List ℕ → List ℕ → Option (List ℕ) → List Fact
error_if front name middle None = []
error_if front name middle (Some error) = (Warning, error_text front name middle error) ∷ []

-- the facts of the session, in order
abbrev pub session_facts : StatusInput → List (List Fact)
session_facts input =
    fact_if input.reload_needed Warning reload_text
    ∷ fact_if input.build_deps_changed Warning rebuild_text
    ∷ fact_if input.build_error Warning build_text
    ∷ line_if input.config_errors
    ∷ line_if input.check_error
    ∷ fact_if input.no_projects Warning discover_text
    ∷ fact_if input.workspace_error Error (load_text input.linked)
    ∷ []

-- the errors of a workspace with this name, in order
abbrev pub errors_of : List ℕ → ProjectWorkspace → List (List Fact)
errors_of name workspace =
    error_if (codes "Failed to read Cargo metadata with dependencies for `") name (codes "`: ") workspace.error
    ∷ error_if (codes "Workspace `") name (codes "` has sysroot errors: ") workspace.sysroot_error
    ∷ error_if (codes "Failed to read Cargo metadata with dependencies for sysroot of `") name (codes "`: ")
    workspace.sysroot_metadata_error
    ∷ error_if (codes "Failed loading rustc_private crates for workspace `") name (codes "`: ") workspace.rustc_error
    ∷ []

abbrev pub workspace_facts : ProjectWorkspace → List (List Fact)
workspace_facts workspace = errors_of (manifest_or_root workspace) workspace

abbrev pub all_of : List Fact → List Fact
all_of facts = facts

abbrev pub warning : List ℕ → List Fact
warning text = (Warning, text) ∷ []

-- the facts of a workspace, told
abbrev pub add_workspace : ProjectWorkspace → Draft → Draft
add_workspace workspace draft = add_each all_of (workspace_facts workspace) draft

abbrev pub add_workspaces : List ProjectWorkspace → Draft → Draft
add_workspaces [] draft = draft
add_workspaces (workspace ∷ rest) draft = add_workspaces rest (add_workspace workspace draft)

-- the session's facts, the warnings of toolchains, and the facts of each workspace
abbrev pub draft_of : StatusInput → Draft
draft_of input =
    add_workspaces input.workspaces (add_each warning (msrv_texts input.workspaces) (add_each all_of (session_facts input) nothing_told))

abbrev pub status_of : StatusInput → Status
status_of input =
    record { health = (draft_of input).health; quiescent = input.fully_ready; message = message_of (draft_of input).text }
