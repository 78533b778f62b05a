use Rattle.std.proofs.Common.{◌++◌, map, refl, ap, ◌∙◌}
use Rattle.project_model.specs.declared.workspace.ProjectWorkspace.{ProjectWorkspace}
use Rattle.workspaces.specs.Roots.{excluding, loader_roots}
use Rattle.workspaces.proofs.Pushed.{behind}
use Rattle.workspaces.proofs.roots.loader_roots.Goals as goal

pub loop-workspace-preserved : goal.loop-workspace-preserved
loop-workspace-preserved c =
    let exclude = c.args.exclude.now in
    behind (λ (workspace : ProjectWorkspace). map (excluding exclude) workspace.roots) (loader_roots exclude) (λ x xs. refl)
    c.args.workspaces.now c.loop-workspace.workspace-index c.loop-workspace.list c.push_roots.new.list c.workspace-item.result c.loop-workspace-test.true
    c.workspace-item.is
    (c.in_ok-push_roots.ensures ∙ ap (λ l. c.loop-workspace.list ++ map (excluding exclude) l) c.as_slice.ensures)
    ∙ c.loop-workspace.invariant
