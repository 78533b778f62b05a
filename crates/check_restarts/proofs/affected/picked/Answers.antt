use Rattle.std.proofs.Common.{◌≡◌, Bool, List, ℕ, [], ◌∷◌, ◌++◌, drop, length, refl, sym, ap, ◌∙◌, append-nil, arith}
use Rattle.check_restarts.specs.Dependents.{picked}
use Rattle.check_restarts.proofs.affected.picked.Goals as goal

none_picked : (marks : List Bool) (paths : List (List ℕ)) → length paths ≡ 0 → picked marks paths ≡ []
none_picked [] paths h = refl
none_picked (mark ∷ marks) [] h = refl
none_picked (mark ∷ marks) (path ∷ paths) h = absurd (omega (arith, h))

pub returns-in-None : goal.returns-in-None
returns-in-None c =
    let at = c.loop-mark in
    let left = drop at.mark-index c.args.marks.now in
    let empty : picked left at.rest.now ≡ [] = none_picked left at.rest.now c.in-None.ensures.cases in
    sym (append-nil at.list) ∙ ap (λ (l : List (List ℕ)). at.list ++ l) (sym empty) ∙ at.invariant
