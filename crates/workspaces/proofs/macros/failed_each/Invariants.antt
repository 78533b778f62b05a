use Rattle.std.proofs.Common.{◌≡◌, ◌++◌, drop, map}
use Rattle.std.specs.Prelude.{Some}
use Rattle.project_model.specs.declared.crates.MacroState.TheVariants.{Failed}
use Rattle.workspaces.specs.Loads.{numbered}
use Rattle.workspaces.proofs.macros.failed_each.Given as goal

abbrev pub invariant-loop-number : goal.invariant-loop-number
invariant-loop-number l =
    l.macros ++ map (numbered (λ number. Some (Failed l.error))) (drop l.number-index l.listed) ≡ map (numbered (λ number. Some (Failed l.error))) l.listed
