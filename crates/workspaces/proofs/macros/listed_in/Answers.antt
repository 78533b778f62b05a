use Rattle.std.proofs.Common.{ℕ, List, ◌++◌, map, refl, ap, ◌∙◌}
use Rattle.project_model.specs.declared.build.MacroPath.{MacroPath}
use Rattle.workspaces.specs.Loads.{listed_in}
use Rattle.workspaces.proofs.Pushed.{behind}
use Rattle.workspaces.proofs.macros.listed_in.Goals as goal

pub loop-paths-preserved : goal.loop-paths-preserved
loop-paths-preserved c =
    behind (λ (paths : List (ℕ × MacroPath)). map (λ (path : ℕ × MacroPath). path.0) paths) listed_in (λ x xs. refl)
    c.args.lists.now c.loop-paths.paths-index c.loop-paths.listed c.push_listed.new.listed c.paths-item.result c.loop-paths-test.true
    c.paths-item.is
    (c.in_ok-push_listed.ensures ∙ ap (λ l. c.loop-paths.listed ++ map (λ (path : ℕ × MacroPath). path.0) l) c.as_slice.ensures)
    ∙ c.loop-paths.invariant
