-- Ranges that stand apart by twos.
use Rattle.std.proofs.Common.{◌≡◌, ◌≢◌, ℕ, suc, ◌<◌, Bool, true, false, cond, ◌&&◌, ◌==◌, List, [], ◌∷◌, length, get_or, set, refl, ap, sym, subst, ◌∙◌, arith, inl, inr, ⊎_elim}
use Rattle.std.specs.Prelude.{All}
use Rattle.std.specs.List.{AllPairs, swap}
use Rattle.std.specs.List.Sorted.{IsPermutation}
use Rattle.std.proofs.lemmas.Bool.{cases_Bool, cases_lt, cases_eq, cond-true, cond-false, eq-eqb, ne_eqb, false≢true}
use Rattle.std.proofs.lemmas.Bool.Decides.{nat_tests}
use Rattle.std.proofs.lemmas.List.{length-set, get_or-set_same, get_or-set_other}
use Rattle.std.proofs.lemmas.List.Edits.{swap_is, length-swap}
use Rattle.std.proofs.lemmas.List.Elements.{All-nil, All-cons, All-head, All-tail, All-weaker}
use Rattle.std.proofs.lemmas.List.Kept.{AllPairs-cons}
use Rattle.std.proofs.lemmas.List.Sorted.{IsPermutation-keeps, IsPermutation-sym, All-permutation}
use Rattle.text_core.specs.declared.position.Position.{Position}
use Rattle.text_core.specs.declared.position.Range.{Range}
use Rattle.text_core.specs.Edits.{is_at, at_most, in_order, is_chain, is_sorted, IsForward, AreApart, ChainTells}

at_most-trans : (a b c : Position) → at_most a b ≡ true → at_most b c ≡ true → at_most a c ≡ true
at_most-trans a b c h g = grind (arith, nat_tests)

at_most-at : (a b c : Position) → at_most a b ≡ true → is_at b c ≡ true → at_most a c ≡ true
at_most-at a b c h g = grind (arith, nat_tests)

at_most-both : (a b : Position) → at_most a b ≡ true → at_most b a ≡ true → is_at a b ≡ true
at_most-both a b h g = grind (arith, nat_tests)

and_first : (a b : Bool) → (a && b) ≡ true → a ≡ true
and_first true b h = refl
and_first false b h = h

and_second : (a b : Bool) → (a && b) ≡ true → b ≡ true
and_second true b h = h
and_second false b h = absurd (false≢true h)

and_both : (a b : Bool) → a ≡ true → b ≡ true → (a && b) ≡ true
and_both true b h g = g
and_both false b h g = absurd (false≢true h)

abbrev StartsAfter : Position → Range → Type 0
StartsAfter p r = at_most p r.start ≡ true

-- all ranges of a chain start after what the first starts after
chain_after : (p : Position) (b : Range) (rest : List Range) → All IsForward (b ∷ rest) → StartsAfter p b → is_chain (b ∷ rest) ≡ true → All (StartsAfter p) (b ∷ rest)
chain_after p b [] forward first chain = All-cons (StartsAfter p) b [] first (All-nil (StartsAfter p))
chain_after p b (c ∷ rest) forward first chain =
    let own = All-head IsForward b (c ∷ rest) forward in
    let next : at_most b.end c.start ≡ true = and_first (at_most b.end c.start) (is_chain (c ∷ rest)) chain in
    let on = at_most-trans p b.end c.start (at_most-trans p b.start b.end first own) next in
    All-cons (StartsAfter p) b (c ∷ rest) first
    (chain_after p c rest (All-tail IsForward b (c ∷ rest) forward) on (and_second (at_most b.end c.start) (is_chain (c ∷ rest)) chain))

pub chain_apart : (xs : List Range) → All IsForward xs → is_chain xs ≡ true → AllPairs AreApart xs
chain_apart [] forward chain = λ i j d lt within. absurd (omega arith)
chain_apart (a ∷ []) forward chain = λ i j d lt within. absurd (omega arith)
chain_apart (a ∷ b ∷ rest) forward chain =
    let next : at_most a.end b.start ≡ true = and_first (at_most a.end b.start) (is_chain (b ∷ rest)) chain in
    let later = and_second (at_most a.end b.start) (is_chain (b ∷ rest)) chain in
    let tail = All-tail IsForward a (b ∷ rest) forward in
    AllPairs-cons AreApart a (b ∷ rest) (All-weaker (StartsAfter a.end) (AreApart a) (λ r h. inl h) (b ∷ rest) (chain_after a.end b rest tail next later))
    (chain_apart (b ∷ rest) tail later)

apart_order : (a b : Range) → at_most b.end a.start ≡ true → in_order a b ≡ true → at_most b.start b.end ≡ true → at_most a.end b.start ≡ true
apart_order a b h o f =
    let back = at_most-trans b.start b.end a.start f h in
    ⊎_elim
    (λ t. at_most-at a.end a.start b.start (at_most-trans a.end b.end a.start (sym (cond-true _ _ _ t) ∙ o) h) t)
    (λ u. absurd (false≢true (sym u ∙ at_most-both a.start b.start (sym (cond-false _ _ _ u) ∙ o) back)))
    (cases_Bool (is_at a.start b.start))

apart_next : (a b : Range) → AreApart a b → in_order a b ≡ true → IsForward b → at_most a.end b.start ≡ true
apart_next a b (inl h) o f = h
apart_next a b (inr h) o f = apart_order a b h o f

pub apart_chain : (xs : List Range) → is_sorted xs ≡ true → All IsForward xs → AllPairs AreApart xs → is_chain xs ≡ true
apart_chain [] sorted forward apart = refl
apart_chain (a ∷ []) sorted forward apart = refl
apart_chain (a ∷ b ∷ rest) sorted forward apart =
    let tail = All-tail IsForward a (b ∷ rest) forward in
    let next = apart_next a b (apart 0 1 a (omega arith) (omega arith)) (and_first (in_order a b) (is_sorted (b ∷ rest)) sorted) (All-head IsForward b rest tail) in
    and_both (at_most a.end b.start) (is_chain (b ∷ rest)) next
    (apart_chain (b ∷ rest) (and_second (in_order a b) (is_sorted (b ∷ rest)) sorted) tail (λ i j d lt within. apart (suc i) (suc j) d (omega arith) (omega arith)))

-- where the element at a place comes from after an exchange
moved : ℕ → ℕ → ℕ → ℕ
moved i j m = cond (m == j) i (cond (m == i) j m)

moved-lt : (i j m n : ℕ) → i < n → j < n → m < n → moved i j m < n
unfolding moved
moved-lt i j m n hi hj hm = grind (arith, nat_tests)

moved-apart : (i j m n : ℕ) → m ≢ n → moved i j m ≢ moved i j n
unfolding moved
moved-apart i j m n apart = grind (arith, nat_tests)

get_or_swap : (xs : List Range) (i j m : ℕ) (d : Range) → i < length xs → j < length xs → get_or (swap xs i j) m d ≡ get_or xs (moved i j m) d
unfolding moved
get_or_swap xs i j m d hi hj =
    let is = ap (λ l. get_or l m d) (sym (swap_is xs i j d hi hj)) in
    let once = set xs i (get_or xs j d) in
    ⊎_elim
    (λ (same : m ≡ j).
    is ∙ ap (λ n. get_or (set once j (get_or xs i d)) n d) same ∙ get_or-set_same once j (get_or xs i d) d (omega (arith, length-set xs i (get_or xs j d)))
    ∙ ap (λ n. get_or xs n d) (sym (cond-true _ _ _ (eq-eqb _ _ same))))
    (λ (other : m ≢ j).
    let past = is ∙ get_or-set_other once j m (get_or xs i d) d other in
    let left : moved i j m ≡ cond (m == i) j m = cond-false _ _ _ (ne_eqb _ _ other) in
    ⊎_elim
    (λ (same : m ≡ i).
    past ∙ ap (λ n. get_or once n d) same ∙ get_or-set_same xs i (get_or xs j d) d hi
    ∙ ap (λ n. get_or xs n d) (sym (left ∙ cond-true _ _ _ (eq-eqb _ _ same))))
    (λ (unlike : m ≢ i).
    past ∙ get_or-set_other xs i m (get_or xs j d) d unlike ∙ ap (λ n. get_or xs n d) (sym (left ∙ cond-false _ _ _ (ne_eqb _ _ unlike))))
    (cases_eq m i))
    (cases_eq m j)

-- of any two places, in either order
abbrev Both : List Range → Type 0
Both xs = (i j : ℕ) (d : Range) → i < length xs → j < length xs → i ≢ j → AreApart (get_or xs i d) (get_or xs j d)

turned : (a b : Range) → AreApart a b → AreApart b a
turned a b (inl h) = inr h
turned a b (inr h) = inl h

both_from : (xs : List Range) → AllPairs AreApart xs → Both xs
both_from xs pairs i j d hi hj apart =
    elim (cases_lt i j) [
      | inl lt ↦ pairs i j d lt hj
      | inr ge ↦ turned (get_or xs j d) (get_or xs i d) (pairs j i d (omega arith) hi)
    ]

pairs_from : (xs : List Range) → Both xs → AllPairs AreApart xs
pairs_from xs both i j d lt hj = both i j d (omega arith) hj (omega arith)

both_swap : (xs : List Range) (i j : ℕ) → i < length xs → j < length xs → Both xs → Both (swap xs i j)
both_swap xs i j hi hj both m n d hm hn apart =
    let size = length-swap xs i j in
    let first = get_or_swap xs i j m d hi hj in
    let second = get_or_swap xs i j n d hi hj in
    subst (λ r. AreApart r (get_or (swap xs i j) n d)) (sym first) (subst (λ r. AreApart (get_or xs (moved i j m) d) r) (sym second)
    (both (moved i j m) (moved i j n) d (moved-lt i j m (length xs) hi hj (omega arith)) (moved-lt i j n (length xs) hi hj (omega arith)) (moved-apart i j m n apart)))

pub apart-permutation : (xs ys : List Range) → IsPermutation xs ys → AllPairs AreApart xs → AllPairs AreApart ys
apart-permutation xs ys same pairs = pairs_from ys (IsPermutation-keeps xs Both (both_from xs pairs) (λ l i j. both_swap l i j) ys same)

-- the chain test of ranges that aren't reversed says whether they stand apart by twos
pub chain_tells : (ranges : List Range) (answer : Bool) → ChainTells ranges answer → All IsForward ranges → (answer ≡ true → AllPairs AreApart ranges) × (AllPairs AreApart ranges → answer ≡ true)
chain_tells ranges answer tells forward =
    let ahead = All-permutation IsForward ranges tells.sorted tells.same forward in (
      λ yes_answer. apart-permutation tells.sorted ranges (IsPermutation-sym ranges tells.sorted tells.same) (chain_apart tells.sorted ahead (sym tells.chain ∙ yes_answer)),
      λ apart. tells.chain ∙ apart_chain tells.sorted tells.rises ahead (apart-permutation ranges tells.sorted tells.same apart),
    )
