-- What a closure was asked, and what it answered.
use Rattle.std.specs.Prelude.{◌≡◌, List, [], ◌∷◌}
use Rattle.std.specs.Borrow.{Bor}
use Rattle.std.specs.Fn.{Mut, CalledAt}

-- the closure was called at each of these in order, answered so, and was left as the last
abbrev pub Asked : {F A R : Type 0} → Mut F (Bor A × Unit {0}) R → F → List A → List R → F → Type 0
Asked g f [] [] last = last ≡ f
Asked {F} g f (x ∷ xs) (r ∷ rs) last = (next : F) × CalledAt g f x r next × Asked g next xs rs last
Asked g f [] (r ∷ rs) last = ⊥
Asked g f (x ∷ xs) [] last = ⊥
