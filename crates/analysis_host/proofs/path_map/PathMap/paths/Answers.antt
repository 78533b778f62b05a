use Rattle.std.proofs.Common.{◌≡◌, List, [], ◌∷◌, refl, sym, ap, ◌∙◌}
use Rattle.std.proofs.Common.{map as each}
use Rattle.std.proofs.lemmas.Result.{IfOk-weaker}
use Rattle.std.specs.Cmp.Lexicographic.{nat_list_cmp_total}
use Rattle.std.specs.FinMap as map
use Rattle.shared_map.proofs.AsMap.{entries-view}
use Rattle.analysis_host.proofs.path_map.PathMap.paths.Goals as goal

-- what is made of what is made of each
each-twice : {A B C : Type 0} (f : A → B) (g : B → C) (xs : List A) → each (λ x. g (f x)) xs ≡ each g (each f xs)
each-twice f g [] = refl
each-twice f g (x ∷ xs) = ap (λ ys. g (f x) ∷ ys) (each-twice f g xs)

pub returns : goal.returns
returns g c =
    IfOk-weaker c.paths_of.result _ _ (λ paths p.
    p ∙ ap (λ xs. each (λ entry. entry.now.0) xs) c.as_slice.ensures.value
    ∙ each-twice (λ entry. entry.now) (λ entry. entry.0) c.in_ok-entries.entries.items
    ∙ ap (λ es. each (λ e. e.0) es) c.in_ok-entries.ensures
    ∙ ap (λ es. each (λ e. e.0) es) (sym (entries-view nat_list_cmp_total c.self.inside.rows c.len-in_order.ensures.order))
    ∙ ap map.keys c.self.view_is) c.paths_of.ensures
