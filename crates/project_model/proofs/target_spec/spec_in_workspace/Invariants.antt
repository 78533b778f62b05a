use Rattle.std.proofs.Common.{◌≡◌, drop}
use Rattle.project_model.specs.Targets.{first_given, spec_in_package}
use Rattle.project_model.proofs.target_spec.spec_in_workspace.Given as goal

-- what is left gives what all packages give
abbrev pub invariant-loop-package : goal.invariant-loop-package
invariant-loop-package l =
    first_given (spec_in_package l.workspace l.root) (drop l.package-index l.package-items) ≡ first_given (spec_in_package l.workspace l.root) l.package-items
