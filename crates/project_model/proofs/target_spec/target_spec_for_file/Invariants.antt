use Rattle.std.proofs.Common.{◌≡◌, drop}
use Rattle.project_model.specs.Targets.{first_given, spec_in_workspace}
use Rattle.project_model.proofs.target_spec.target_spec_for_file.Given as goal

-- what is left gives what all workspaces give
abbrev pub invariant-loop-workspace : goal.invariant-loop-workspace
invariant-loop-workspace l =
    first_given (spec_in_workspace l.root) (drop l.workspace-index l.workspaces) ≡ first_given (spec_in_workspace l.root) l.workspaces
