use Rattle.std.proofs.Common.{◌≡◌, drop}
use Rattle.client.specs.Folds.{without_each}
use Rattle.client.proofs.state.folders.remove_each.Given as goal

-- what is left to be removed leaves what is to be left
abbrev pub invariant-loop-path : goal.invariant-loop-path
invariant-loop-path l = record {
  roots : without_each (drop l.path-index l.paths) l.settings.workspace_roots ≡ without_each l.paths l.initial.settings.workspace_roots;
  others : l.settings ≡ record l.initial.settings { workspace_roots = l.settings.workspace_roots };
}
