-- What was built of a crate is found by its index.
use Rattle.std.proofs.Common.{◌≡◌, ℕ, List, Option, ap, ◌∙◌}
use Rattle.std.specs.Borrow.{Bor}
use Rattle.std.specs.FinMap as by_key
use Rattle.std.specs.Ordering.{nat_cmp}
use Rattle.project_model.specs.declared.build.BuildScripts.{BuildScripts}
use Rattle.project_model.specs.declared.build.MacroPath.{MacroPath}
use Rattle.reload.specs.Graph.{built_of, first_built, found_in}

pub found_by_index : (rows : by_key.FinMap nat_cmp (Bor MacroPath)) (build : Option BuildScripts) (built : List (ℕ × MacroPath))
    → ((index : ℕ) → found_in rows index ≡ by_key.find nat_cmp index built) → built ≡ built_of build → found_in rows ≡ first_built build
found_by_index rows build built is are = λ i index. (is index ∙ ap (by_key.find nat_cmp index) are) i
