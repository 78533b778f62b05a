use Rattle.std.proofs.Common.{◌++◌, map, refl, ap, ◌∙◌}
use Rattle.project_model.specs.declared.crates.CrateEntry.{CrateEntry}
use Rattle.project_model.specs.declared.workspace.ProjectWorkspace.{ProjectWorkspace}
use Rattle.reload.specs.Graph.{crate_roots}
use Rattle.reload.proofs.Pushed.{behind}
use Rattle.reload.proofs.ask.crate_roots.Goals as goal

pub loop-workspace-preserved : goal.loop-workspace-preserved
loop-workspace-preserved c =
    behind (λ (workspace : ProjectWorkspace). map (λ (entry : CrateEntry). entry.root) workspace.crates) crate_roots (λ x xs. refl)
    c.args.workspaces.now c.loop-workspace.workspace-index c.loop-workspace.roots c.push_roots.new.roots c.workspace-item.result c.loop-workspace-test.true
    c.workspace-item.is
    (c.in_ok-push_roots.ensures ∙ ap (λ l. c.loop-workspace.roots ++ map (λ (entry : CrateEntry). entry.root) l) c.as_slice.ensures)
    ∙ c.loop-workspace.invariant
