use Rattle.std.proofs.Common.{◌≡◌, ◌++◌, drop, map}
use Rattle.project_model.specs.declared.crates.CrateEntry.{CrateEntry}
use Rattle.reload.proofs.ask.push_roots.Given as goal

abbrev pub invariant-loop-entry : goal.invariant-loop-entry
invariant-loop-entry l =
    l.roots ++ map (λ (entry : CrateEntry). entry.root) (drop l.entry-index l.entries) ≡ l.initial.roots ++ map (λ (entry : CrateEntry). entry.root) l.entries
