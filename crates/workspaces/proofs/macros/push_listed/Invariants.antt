use Rattle.std.proofs.Common.{◌≡◌, ℕ, ◌++◌, drop, map}
use Rattle.project_model.specs.declared.build.MacroPath.{MacroPath}
use Rattle.workspaces.proofs.macros.push_listed.Given as goal

abbrev pub invariant-loop-path : goal.invariant-loop-path
invariant-loop-path l =
    l.listed ++ map (λ (path : ℕ × MacroPath). path.0) (drop l.path-index l.paths) ≡ l.initial.listed ++ map (λ (path : ℕ × MacroPath). path.0) l.paths
