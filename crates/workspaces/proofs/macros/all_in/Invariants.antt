use Rattle.std.proofs.Common.{◌≡◌, ℕ, ◌++◌, drop, map}
use Rattle.std.specs.List.{enumerate_from}
use Rattle.project_model.specs.declared.crates.CrateInfo.{CrateInfo}
use Rattle.workspaces.proofs.macros.all_in.Given as goal

abbrev pub invariant-loop-index : goal.invariant-loop-index
invariant-loop-index l =
    l.macros ++ map (λ (entry : ℕ × CrateInfo). (entry.0, l.state)) (enumerate_from l.index (drop l.index l.crates))
    ≡ map (λ (entry : ℕ × CrateInfo). (entry.0, l.state)) (enumerate_from 0 l.crates)
