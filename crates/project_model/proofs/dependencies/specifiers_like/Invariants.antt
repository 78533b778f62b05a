use Rattle.std.proofs.Common.{◌≡◌, ◌++◌, drop, map}
use Rattle.project_model.specs.Dependencies.{specifier_like}
use Rattle.project_model.proofs.dependencies.specifiers_like.Given as goal

abbrev pub invariant-loop-id : goal.invariant-loop-id
invariant-loop-id l = l.list ++ map (specifier_like l.specifier) (drop l.id-index l.ids) ≡ map (specifier_like l.specifier) l.ids
