-- What a host's own jobs come to for a project of which nothing is known but where it lies.
use Rattle.std.specs.Prelude.{◌≡◌, ℕ, [], map, Option, None, Some, Ok}
use Rattle.session_port.specs.declared.job.JobKind.{JobKind}
use Rattle.session_port.specs.declared.job.JobKind.TheVariants.{FetchWorkspaces, FetchBuildData, LoadProcMacros}
use Rattle.session_port.specs.declared.job.JobResult.{JobResult}
use Rattle.session_port.specs.declared.job.JobResult.TheVariants.{Value, Fault, Cancelled, NoMemory}
use Rattle.session_port.specs.declared.job.JobValue.{JobValue}
use Rattle.session_port.specs.declared.job.JobValue.TheVariants.{Workspaces, BuildData, ProcMacros}
use Rattle.small_project.specs.Builds.{scripts_of}
use Rattle.small_project.specs.Workspaces.{workspaces_of}

-- the value of a job, where there are so many workspaces; a job for which the analysis is asked has none
abbrev pub small_value : JobKind → ℕ → Option JobValue
small_value (FetchWorkspaces projects detached path force) workspaces =
    Some (Workspaces (map Ok (workspaces_of projects)))
small_value (FetchBuildData version) workspaces = Some (BuildData (map Ok (scripts_of workspaces)))
small_value (LoadProcMacros paths ignored) workspaces = Some (ProcMacros [])
small_value asked workspaces = None

-- the job ended with its value, or memory ran out
abbrev pub IsSmall : JobKind → ℕ → JobResult → Type 0
IsSmall kind workspaces (Value value) = small_value kind workspaces ≡ Some value
IsSmall kind workspaces (Fault code message) = ⊥
IsSmall kind workspaces (Cancelled saw) = ⊥
IsSmall kind workspaces NoMemory = Unit {0}
