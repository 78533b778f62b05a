use Rattle.std.proofs.Common.{◌≡◌, drop}
use Rattle.project_model.specs.Targets.{first_given}
use Rattle.project_model.specs.Dependencies.{deps_in}
use Rattle.project_model.proofs.dependencies.first_deps.Given as goal

-- what is left gives what all workspaces give
abbrev pub invariant-loop-workspace : goal.invariant-loop-workspace
invariant-loop-workspace l =
    first_given (deps_in l.specifier) (drop l.workspace-index l.workspaces) ≡ first_given (deps_in l.specifier) l.workspaces
