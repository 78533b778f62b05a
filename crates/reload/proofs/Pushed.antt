-- A loop that adds what it makes of each item behind what it has made.
use Rattle.std.proofs.Common.{◌≡◌, ℕ, ◌+◌, ◌<◌, List, [], ◌∷◌, ◌++◌, length, get_or, drop, Option, Some, None, option_to_list, refl, sym, ap, ◌∙◌, append_assoc}
use Rattle.std.specs.List.{enumerate_from, filter_map, cons_option}
use Rattle.std.proofs.lemmas.List.{at_drop_more}

put_before : {X : Type 0} (o : Option X) (xs : List X) → option_to_list o ++ xs ≡ cons_option o xs
put_before None xs = refl
put_before (Some x) xs = refl

pub one_more : {X Y : Type 0} (f : ℕ × X → Option Y) (xs : List X) (at : ℕ) (list new : List Y) (x : X) → at < length xs → x ≡ get_or xs at x → new ≡ list
    ++ option_to_list (f (at, x))
    → new ++ filter_map f (enumerate_from (at + 1) (drop (at + 1) xs)) ≡ list ++ filter_map f (enumerate_from at (drop at xs))
one_more f xs at list new x some is grows =
    let later = filter_map f (enumerate_from (at + 1) (drop (at + 1) xs)) in
    ap (λ l. l ++ later) grows ∙ append_assoc list (option_to_list (f (at, x))) later
    ∙ ap (λ l. list ++ l) (put_before (f (at, x)) later)
    ∙ ap (λ y. list ++ cons_option (f (at, y)) later) is
    ∙ sym (at_drop_more (λ l. list ++ filter_map f (enumerate_from at l)) xs at x some)

-- the same, where a list is made of each item
pub behind : {X Y : Type 0} (g : X → List Y) (f : List X → List Y) → ((x : X) (xs : List X) → f (x ∷ xs) ≡ g x ++ f xs)
    → (xs : List X) (at : ℕ) (list new : List Y) (x : X)
    → at < length xs → x ≡ get_or xs at x → new ≡ list ++ g x → new ++ f (drop (at + 1) xs) ≡ list ++ f (drop at xs)
behind g f step xs at list new x some is grows =
    let later = f (drop (at + 1) xs) in
    ap (λ l. l ++ later) grows ∙ append_assoc list (g x) later
    ∙ ap (λ l. list ++ l) (sym (step x (drop (at + 1) xs)))
    ∙ ap (λ y. list ++ f (y ∷ drop (at + 1) xs)) is
    ∙ sym (at_drop_more (λ l. list ++ f l) xs at x some)

-- three items one after another
pub three_behind : {X : Type 0} (list a b c : List X) (x y z : X) → a ≡ list ++ x ∷ [] → b ≡ a ++ y ∷ [] → c ≡ b ++ z ∷ [] → c ≡ list ++ x ∷ y ∷ z ∷ []
three_behind list a b c x y z one two three =
    three ∙ ap (λ l. l ++ z ∷ []) two ∙ ap (λ l. (l ++ y ∷ []) ++ z ∷ []) one ∙ append_assoc (list ++ x ∷ []) (y ∷ []) (z ∷ [])
    ∙ append_assoc list (x ∷ []) (y ∷ z ∷ [])
