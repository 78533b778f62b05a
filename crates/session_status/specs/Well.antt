-- A session that has nothing to tell.
use Rattle.std.specs.Prelude.{◌≡◌, Bool, true, false, not, ◌&&◌, [], is_some, None}
use Rattle.std.specs.List.{list_all}
use Rattle.project_model.specs.Msrv.{msrv_texts}
use Rattle.project_model.specs.declared.workspace.ProjectWorkspace.{ProjectWorkspace}
use Rattle.status.specs.declared.health.Health.TheVariants as health
use Rattle.status.specs.declared.status.Status.{Status}
use Rattle.status.specs.declared.status.StatusInput.{StatusInput}

-- a workspace without an error
abbrev pub has_no_error : ProjectWorkspace → Bool
has_no_error workspace =
    not (is_some workspace.error) && not (is_some workspace.sysroot_error)
    && not (is_some workspace.sysroot_metadata_error) && not (is_some workspace.rustc_error)

-- the status of a session with nothing to tell
abbrev pub well_status : Bool → Status
well_status ready = record { health = health.Ok; quiescent = ready; message = None }

-- none of the facts is told
abbrev pub IsWell : StatusInput → Type 0
IsWell input =
    (input.reload_needed ≡ false) × (input.build_deps_changed ≡ false) × (input.build_error ≡ false)
    × (input.config_errors ≡ None)
    × (input.check_error ≡ None) × (input.no_projects ≡ false) × (input.workspace_error ≡ false)
    × (msrv_texts input.workspaces ≡ [])
    × (list_all has_no_error input.workspaces ≡ true)
