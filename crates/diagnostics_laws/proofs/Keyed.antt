-- What the values of a map come to, one after another, is told by what the map has at each key.
use Rattle.std.proofs.Common.{◌≡◌, Bool, true, false, ◌&&◌, List, [], ◌∷◌, ◌++◌, refl, sym, ap, ◌∙◌, subst, Ordering, Less, Equal, Greater}
use Rattle.std.specs.Prelude.{Option, None, Some, cond, map, T}
use Rattle.std.specs.List.{flat_map}
use Rattle.std.specs.Ordering.{eq_by_cmp, is_eq, is_lt, ordering_reverse}
use Rattle.std.specs.Cmp.{IsTotalOrder, alike_right, tied_itself}
use Rattle.std.specs.FinMap as finmap
use Rattle.std.specs.FinMap.Entries.{below_all}

-- ---- tests of orders

both : (a b : Bool) → T a → T b → T (a && b)
both true b p q = q
both false b p q = p

first : (a b : Bool) → T (a && b) → T a
first true b p = tt
first false b p = p

second : (a b : Bool) → T (a && b) → T b
second true b p = p
second false b p = absurd p

less : (o : Ordering) → T (is_lt o) → o ≡ Less
less Less p = refl
less Equal p = absurd p
less Greater p = absurd p

equal : (r : Ordering) → is_eq r ≡ true → r ≡ Equal
equal Less p = absurd (subst T (sym p) tt)
equal Equal p = refl
equal Greater p = absurd (subst T (sym p) tt)

module _ {K X : Type 0} {R : K → K → Ordering} (o : IsTotalOrder R) where
  abbrev Below : K → List (K × X) → Type 0
  Below k es = T (below_all R k es)

  below-less : (x y : K) (es : List (K × X)) → R x y ≡ Less → Below y es → Below x es
  below-less x y [] p h = tt
  below-less x y (e ∷ es) p h =
      both _ _ (subst (λ r. T (is_lt r)) (sym (o.trans x y e.0 p (less _ (first _ _ h)))) tt) (below-less x y es p (second _ _ h))

  below-tied : (x y : K) (es : List (K × X)) → R x y ≡ Equal → Below y es → Below x es
  below-tied x y [] p h = tt
  below-tied x y (e ∷ es) p h = both _ _ (subst (λ r. T (is_lt r)) (sym (o.congr x y e.0 p)) (first _ _ h)) (below-tied x y es p (second _ _ h))

  find-below : (q : K) (es : List (K × X)) → Below q es → finmap.find R q es ≡ None
  find-below q [] h = refl
  find-below q (e ∷ es) h = ap (λ r. cond (is_eq r) (Some e.1) (finmap.find R q es)) (less _ (first _ _ h)) ∙ find-below q es (second _ _ h)

  find-first : (e : K × X) (es : List (K × X)) → finmap.find R e.0 (e ∷ es) ≡ Some e.1
  find-first e es = ap (λ r. cond (is_eq r) (Some e.1) (finmap.find R e.0 es)) (tied_itself o e.0)

  module _ {Y : Type 0} (f : X → List Y) where
    abbrev pub told_of : Option X → List Y
    told_of None = []
    told_of (Some x) = f x

    abbrev all : List (K × X) → List Y
    all es = flat_map f (map (λ e. e.1) es)

    abbrev ToldAlike : List (K × X) → List (K × X) → Type 0
    ToldAlike es fs = (q : K) → told_of (finmap.find R q es) ≡ told_of (finmap.find R q fs)

    -- an entry that comes to nothing is of no account
    dropped-by : (b : Bool) (q : K) (e : K × X) (es : List (K × X)) → eq_by_cmp R q e.0 ≡ b → f e.1 ≡ [] → Below e.0 es
        → told_of (cond b (Some e.1) (finmap.find R q es)) ≡ told_of (finmap.find R q es)
    dropped-by true q e es is none h = none ∙ sym (ap told_of (find-below q es (below-tied q e.0 es (equal _ is) h)))
    dropped-by false q e es is none h = refl

    dropped : (e : K × X) (es : List (K × X)) → f e.1 ≡ [] → Below e.0 es → ToldAlike (e ∷ es) es
    dropped e es none h = λ q. dropped-by (eq_by_cmp R q e.0) q e es refl none h

    tails-by : (b : Bool) (q : K) (e g : K × X) (es fs : List (K × X)) → eq_by_cmp R q e.0 ≡ b → Below e.0 es → Below e.0 fs
        → told_of (cond b (Some e.1) (finmap.find R q es)) ≡ told_of (cond b (Some g.1) (finmap.find R q fs))
        → told_of (finmap.find R q es) ≡ told_of (finmap.find R q fs)
    tails-by true q e g es fs is h k alike =
        let t = equal _ is in
        ap told_of (find-below q es (below-tied q e.0 es t h) ∙ sym (find-below q fs (below-tied q e.0 fs t k)))
    tails-by false q e g es fs is h k alike = alike

    none-below : (e g : K × X) (es fs : List (K × X)) → R e.0 g.0 ≡ Less → Below g.0 fs → ToldAlike (e ∷ es) (g ∷ fs) → f e.1 ≡ []
    none-below e g es fs p h alike =
        sym (ap told_of (find-first e es)) ∙ alike e.0
        ∙ ap told_of (find-below e.0 (g ∷ fs) (both _ _ (subst (λ r. T (is_lt r)) (sym p) tt) (below-less e.0 g.0 fs p h)))

    all-alike : (es fs : List (K × X)) → T (finmap.is_sorted R es) → T (finmap.is_sorted R fs) → ToldAlike es fs → all es ≡ all fs
    all-alike [] [] s t alike = refl
    all-alike [] (g ∷ fs) s t alike =
        let none : f g.1 ≡ [] = sym (ap told_of (find-first g fs)) ∙ sym (alike g.0) in
        all-alike [] fs tt (second _ _ t) (λ q. alike q ∙ dropped g fs none (first _ _ t) q) ∙ ap (λ ys. ys ++ all fs) (sym none)
    all-alike (e ∷ es) [] s t alike =
        let none : f e.1 ≡ [] = sym (ap told_of (find-first e es)) ∙ alike e.0 in
        ap (λ ys. ys ++ all es) none ∙ all-alike es [] (second _ _ s) tt (λ q. sym (dropped e es none (first _ _ s) q) ∙ alike q)
    all-alike (e ∷ es) (g ∷ fs) s t alike =
        by-order (R e.0 g.0) refl
        (λ none. all-alike es (g ∷ fs) (second _ _ s) t (λ q. sym (dropped e es none (first _ _ s) q) ∙ alike q))
        (λ none. all-alike (e ∷ es) fs s (second _ _ t) (λ q. alike q ∙ dropped g fs none (first _ _ t) q))
        (λ p. all-alike es fs (second _ _ s) (second _ _ t)
        (λ q. tails-by (eq_by_cmp R q e.0) q e g es fs refl (first _ _ s) (below-tied e.0 g.0 fs p (first _ _ t))
        (alike q ∙ ap (λ b. told_of (cond b (Some g.1) (finmap.find R q fs))) (ap is_eq (sym (alike_right o e.0 g.0 q p))))))
      where
        by-order : (r : Ordering) → R e.0 g.0 ≡ r → (f e.1 ≡ [] → all es ≡ all (g ∷ fs)) → (f g.1 ≡ [] → all (e ∷ es) ≡ all fs)
            → (R e.0 g.0 ≡ Equal → all es ≡ all fs) → all (e ∷ es) ≡ all (g ∷ fs)
        by-order Less p left right both-of =
            let none : f e.1 ≡ [] = none-below e g es fs p (first _ _ t) alike in ap (λ ys. ys ++ all es) none ∙ left none
        by-order Greater p left right both-of =
            let none : f g.1 ≡ [] = none-below g e fs es (o.antisymm g.0 e.0 ∙ ap ordering_reverse p) (first _ _ s) (λ q. sym (alike q)) in
            right none ∙ ap (λ ys. ys ++ all fs) (sym none)
        by-order Equal p left right both-of =
            let here : f e.1 ≡ f g.1 =
            sym (ap told_of (find-first e es)) ∙ alike e.0 ∙ ap (λ r. told_of (cond (is_eq r) (Some g.1) (finmap.find R e.0 fs))) p in
            λ i. here i ++ both-of p i

    -- maps that have alike at each key come to the same
    pub values-alike : (m n : finmap.FinMap R X) → ((q : K) → told_of (finmap.get m q) ≡ told_of (finmap.get n q))
        → flat_map f (finmap.values m) ≡ flat_map f (finmap.values n)
    values-alike m n alike =
        all-alike (finmap.entries m) (finmap.entries n) (finmap.entries_sorted m) (finmap.entries_sorted n)
        (λ q. ap told_of (sym (finmap.get-entries m q)) ∙ alike q ∙ ap told_of (finmap.get-entries n q))
