use Rattle.std.proofs.Common.{◌≡◌, ◌++◌, drop}
use Rattle.std.specs.List.{filter_map}
use Rattle.project_model.specs.Msrv.{text_of_workspace, msrv_texts}
use Rattle.project_model.proofs.msrv.check_workspaces_msrv.Given as goal

abbrev pub invariant-loop-workspace : goal.invariant-loop-workspace
invariant-loop-workspace l =
    l.texts ++ filter_map text_of_workspace (drop l.workspace-index l.workspaces) ≡ msrv_texts l.workspaces
