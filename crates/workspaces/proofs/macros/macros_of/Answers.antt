use Rattle.std.proofs.Common.{◌≡◌, IfOk, ℕ, List, subst}
use Rattle.project_model.specs.declared.crates.MacroState.{MacroState}
use Rattle.workspaces.proofs.Entries.{told_by_number}
use Rattle.workspaces.proofs.macros.macros_of.Goals as goal

pub returns-in_ok-rows-in-Ok : goal.returns-in_ok-rows-in-Ok
returns-in_ok-rows-in-Ok c =
    subst (λ (list : List (ℕ × MacroState)). IfOk c.told_each.result (λ macros. macros ≡ list))
    (told_by_number c.args.told.now c.in-Ok.entries c.as_slice.result.now c.in_ok-rows-in-Ok.rows c.args.listed.now
    c.in-Ok.is c.as_slice.ensures c.in_ok-rows-in-Ok.ensures)
    c.told_each.ensures
