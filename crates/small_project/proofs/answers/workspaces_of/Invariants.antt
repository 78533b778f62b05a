use Rattle.std.proofs.Common.{◌≡◌, take}
use Rattle.small_project.specs.Workspaces.{workspaces_of}
use Rattle.small_project.proofs.Listed.{Knows}
use Rattle.small_project.proofs.answers.workspaces_of.Given as goal

abbrev pub invariant-loop-project : goal.invariant-loop-project
invariant-loop-project l = record {
  listed : l.workspaces ≡ workspaces_of (take l.project-index l.projects);
  known : Knows l.manifests (take l.project-index l.projects);
}
