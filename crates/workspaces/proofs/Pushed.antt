-- Loops over a list.
use Rattle.std.proofs.Common.{◌≡◌, ℕ, ◌+◌, ◌<◌, get_or, List, [], ◌∷◌, ◌++◌, length, drop, sym, ap, ◌∙◌}
use Rattle.std.proofs.Common.{append_assoc}
use Rattle.std.proofs.lemmas.List.{at_drop_more}

-- a list that is made of each item is added behind those of the items before it
pub behind : {X Y : Type 0} (g : X → List Y) (f : List X → List Y) → ((x : X) (xs : List X) → f (x ∷ xs) ≡ g x ++ f xs) → (xs : List X) (at : ℕ)
    (list new : List Y) (x : X)
    → at < length xs → x ≡ get_or xs at x → new ≡ list ++ g x → new ++ f (drop (at + 1) xs) ≡ list ++ f (drop at xs)
behind g f step xs at list new x some is grows =
    let later = f (drop (at + 1) xs) in
    ap (λ l. l ++ later) grows ∙ append_assoc list (g x) later
    ∙ ap (λ l. list ++ l) (sym (step x (drop (at + 1) xs)))
    ∙ ap (λ y. list ++ f (y ∷ drop (at + 1) xs)) is
    ∙ sym (at_drop_more (λ l. list ++ f l) xs at x some)
