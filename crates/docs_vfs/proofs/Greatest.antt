-- The greatest number of a list with the first place that has it, and of two such the greater.
use Rattle.std.proofs.Common.{◌≡◌, ℕ, ◌<◌, ◌≤◌, Bool, true, false, ◌&&◌, ◌||◌, ◌==◌, List, [], ◌∷◌, ◌++◌, length, Option, Some, None, refl, sym, ap, ◌∙◌, ⊎_elim, inl, inr, arith}
use Rattle.std.specs.Prelude.{◌⊎◌, slice_get, max, nat_lt, option_map, MatchOption, if◌then◌else◌}
use Rattle.std.specs.List.{fold, list_any}
use Rattle.std.proofs.lemmas.Bool.{cases_Bool, cases_order, and_parts, eqb-true, eq-eqb}
use Rattle.std.proofs.lemmas.Bool.Decides.{nat_tests}
use Rattle.std.proofs.lemmas.List.Folds.{list_any-append}
use Rattle.docs_vfs.specs.declared.source_roots.Root.{Root}
use Rattle.docs_vfs.specs.Roots.{greatest, first_greatest, is_below, proper_length}
use Rattle.docs_vfs.specs.Parents.{length_above, greatest_at, better}
use Rattle.docs_vfs.proofs.PathLemmas.{or_left_false, or_right_false, or_right_true}
use Rattle.docs_vfs.proofs.RootChoice.{IsFirstGreatest, AreZero, chosen, most_of, longest_of}
use Rattle.docs_vfs.proofs.Climbs.{first_greatest_is, first_greatest_none}

-- the number is the greatest one, and stands first at the place
pub record BestAt {X : Type 0} (h : X → ℕ) (xs : List X) (best : ℕ × ℕ) : Type 0 where
  pub item : X
  pub is : slice_get xs best.1 ≡ Some item
  pub has : h item ≡ best.0
  pub positive : 0 < best.0
  pub greatest : (i : ℕ) (other : X) → slice_get xs i ≡ Some other → h other ≤ best.0
  pub earlier : (i : ℕ) (other : X) → slice_get xs i ≡ Some other → i < best.1 → h other < best.0

abbrev pub IsBest : {X : Type 0} → (X → ℕ) → List X → Option (ℕ × ℕ) → Type 0
IsBest h xs o = MatchOption o (AreZero h xs) (BestAt h xs)

greatest_is : {X : Type 0} (h : X → ℕ) (xs : List X) (at : ℕ) (item : X) → slice_get xs at ≡ Some item → 0 < h item
    → ((i : ℕ) (other : X) → slice_get xs i ≡ Some other → h other ≤ h item) → h item ≡ greatest h xs
greatest_is h xs at item is some most =
    let up = most_of h xs item (record { place = at; is = is }) in
    let l = longest_of h xs (omega arith) in
    let down = most l.among.place l.item l.among.is in
    let same = l.has in
    omega arith

first_of : {X : Type 0} (h : X → ℕ) (xs : List X) (best : ℕ × ℕ) → BestAt h xs best → IsFirstGreatest h xs best.1
first_of h xs best b = record {
  item = b.item;
  is = b.is;
  positive = (let has = b.has in let some = b.positive in omega arith);
  greatest = λ i other is. (let most = b.greatest i other is in let has = b.has in omega arith);
  earlier = λ i other is before. (let less = b.earlier i other is before in let has = b.has in omega arith);
}

pub best_is : {X : Type 0} (h : X → ℕ) (xs : List X) (o : Option (ℕ × ℕ)) → IsBest h xs o → o ≡ greatest_at h xs
unfolding first_of
best_is h xs None zeros = ap (option_map (λ place. (greatest h xs, place))) (first_greatest_none h xs zeros)
best_is h xs (Some best) b =
    let f = first_of h xs best b in
    let value : best.0 ≡ greatest h xs = sym b.has ∙ greatest_is h xs best.1 b.item b.is f.positive f.greatest in
    let same : best ≡ (greatest h xs, best.1) = (λ i. (value i, best.1)) in
    ap Some same ∙ ap (option_map (λ place. (greatest h xs, place))) (first_greatest_is h xs best.1 f)

best_from : {X : Type 0} (h : X → ℕ) (xs : List X) (o : Option ℕ) → MatchOption o (AreZero h xs) (IsFirstGreatest h xs)
    → IsBest h xs (option_map (λ place. (greatest h xs, place)) o)
best_from h xs None zeros = zeros
best_from h xs (Some at) f =
    let value = greatest_is h xs at f.item f.is f.positive f.greatest in
    record {
      item = f.item;
      is = f.is;
      has = value;
      positive = (let some = f.positive in omega arith);
      greatest = λ i other is. (let most = f.greatest i other is in omega arith);
      earlier = λ i other is before. (let less = f.earlier i other is before in omega arith);
    }

pub best_of : {X : Type 0} (h : X → ℕ) (xs : List X) → IsBest h xs (greatest_at h xs)
best_of h xs = best_from h xs (first_greatest h xs) (chosen h xs)

-- ---- of two the greater one

-- the best of g is the best of both, where h has no greater one, and none as great before it
takes : {X : Type 0} (h g k : X → ℕ) (xs : List X) (best : ℕ × ℕ) → ((x : X) → k x ≡ max (h x) (g x)) → BestAt g xs best
    → ((i : ℕ) (other : X) → slice_get xs i ≡ Some other → h other ≤ best.0)
    → ((i : ℕ) (other : X) → slice_get xs i ≡ Some other → i < best.1 → h other < best.0) → BestAt k xs best
takes h g k xs best both b most before = record {
  item = b.item;
  is = b.is;
  has = (let here = both b.item in let has = b.has in let less = most best.1 b.item b.is in omega arith);
  positive = b.positive;
  greatest = λ i other is. (let here = both other in let less = most i other is in let also = b.greatest i other is in omega arith);
  earlier = λ i other is early. (let here = both other in let less = before i other is early in let also = b.earlier i other is early in omega arith);
}

lt_from : (a b : ℕ) → nat_lt a b ≡ true → a < b
lt_from a b is = grind (arith, nat_tests)

le_from : (a b : ℕ) → nat_lt a b ≡ false → b ≤ a
le_from a b is = grind (arith, nat_tests)

wins : (a b : ℕ × ℕ) → (nat_lt a.0 b.0 || (a.0 == b.0 && nat_lt b.1 a.1)) ≡ true → (a.0 < b.0) ⊎ ((a.0 ≡ b.0) × (b.1 < a.1))
wins a b is =
    ⊎_elim
    (λ less. inl (lt_from a.0 b.0 less))
    (λ no. let both = and_parts (a.0 == b.0) (nat_lt b.1 a.1) (or_right_true (nat_lt a.0 b.0) _ is no) in inr (eqb-true a.0 b.0 both.0, lt_from b.1 a.1 both.1))
    (cases_Bool (nat_lt a.0 b.0))

loses : (n m p q : ℕ) → (nat_lt n m || (n == m && nat_lt q p)) ≡ false → (m < n) ⊎ ((n ≡ m) × (p ≤ q))
loses n m p q is =
    ⊎_elim
    (λ same.
    let not_before : nat_lt q p ≡ false = sym (ap (λ b. b && nat_lt q p) (eq-eqb n m same)) ∙ or_right_false (nat_lt n m) _ is in
    inr (same, le_from q p not_before))
    (λ other.
    let no_less = le_from n m (or_left_false (nat_lt n m) _ is) in
    ⊎_elim (λ less. absurd (omega arith)) (λ more. inl more) other)
    (cases_order n m)

module _ {X : Type 0} (h g k : X → ℕ) (xs : List X) (both : (x : X) → k x ≡ max (h x) (g x)) where
  turned : (x : X) → k x ≡ max (g x) (h x)
  turned x = let here = both x in omega arith

  by_test : (a b : ℕ × ℕ) → BestAt h xs a → BestAt g xs b → (t : Bool) → (nat_lt a.0 b.0 || (a.0 == b.0 && nat_lt b.1 a.1)) ≡ t
      → BestAt k xs (if t then b else a)
  by_test a b x y true is =
      let won = wins a b is in
      takes h g k xs b both y
      (λ i other is. (let most = x.greatest i other is in ⊎_elim (λ less. omega arith) (λ same. (let e = same.0 in omega arith)) won))
      (λ i other is before. ⊎_elim
      (λ less. (let most = x.greatest i other is in omega arith))
      (λ same. (let e = same.0 in let f = same.1 in let most = x.earlier i other is (omega arith) in omega arith))
      won)
  by_test a b x y false is =
      let lost = loses a.0 b.0 a.1 b.1 is in
      takes g h k xs a turned x
      (λ i other is. (let most = y.greatest i other is in ⊎_elim (λ less. omega arith) (λ same. (let e = same.0 in omega arith)) lost))
      (λ i other is before. ⊎_elim
      (λ less. (let most = y.greatest i other is in omega arith))
      (λ same. (let e = same.0 in let f = same.1 in let most = y.earlier i other is (omega arith) in omega arith))
      lost)

  best_if : (t : Bool) (a b : ℕ × ℕ) → BestAt k xs (if t then b else a) → IsBest k xs (if t then Some b else Some a)
  best_if true a b x = x
  best_if false a b x = x

  best_both : (a b : Option (ℕ × ℕ)) → IsBest h xs a → IsBest g xs b → IsBest k xs (better a b)
  best_both None None x y = λ i other is. (let here = both other in let e = x i other is in let f = y i other is in omega arith)
  best_both None (Some b) x y =
      let some = y.positive in
      takes h g k xs b both y (λ i other is. (let e = x i other is in omega arith)) (λ i other is before. (let e = x i other is in omega arith))
  best_both (Some a) None x y =
      let some = x.positive in
      takes g h k xs a turned x (λ i other is. (let e = y i other is in omega arith)) (λ i other is before. (let e = y i other is in omega arith))
  best_both (Some a) (Some b) x y = best_if (nat_lt a.0 b.0 || (a.0 == b.0 && nat_lt b.1 a.1)) a b (by_test a b x y _ refl)

  pub better_is : better (greatest_at h xs) (greatest_at g xs) ≡ greatest_at k xs
  better_is = best_is k xs (better (greatest_at h xs) (greatest_at g xs)) (best_both (greatest_at h xs) (greatest_at g xs) (best_of h xs) (best_of g xs))

-- ---- the lengths above several includes

max_of : (a b c d : ℕ) → max (max a b) (max c d) ≡ max (max a c) (max b d)
max_of a b c d = omega arith

abbrev from : {X : Type 0} → (X → ℕ) → ℕ → List X → ℕ
from h a xs = fold (λ a x. max a (h x)) a xs

from_both : {X : Type 0} (h g k : X → ℕ) → ((x : X) → k x ≡ max (h x) (g x)) → (a b : ℕ) (xs : List X) → from k (max a b) xs ≡ max (from h a xs) (from g b xs)
from_both h g k both a b [] = refl
from_both h g k both a b (x ∷ xs) =
    ap (λ n. from k (max (max a b) n) xs) (both x) ∙ ap (λ n. from k n xs) (max_of a b (h x) (g x)) ∙ from_both h g k both (max a (h x)) (max b (g x)) xs

if_either : (a b : Bool) (n : ℕ) → (if a || b then n else 0) ≡ max (if a then n else 0) (if b then n else 0)
if_either true true n = omega arith
if_either true false n = omega arith
if_either false true n = omega arith
if_either false false n = refl

abbrev above : List (List ℕ) → Root
above includes = record { include = includes; exclude = []; is_local = true }

proper_both : (some more : List (List ℕ)) (include : List ℕ) → proper_length (above (some ++ more)) include ≡ max (proper_length (above some) include) (proper_length (above more) include)
proper_both some more include =
    ap (λ b. if b then length include else 0) (list_any-append (λ path. is_below include path) some more)
    ∙ if_either (list_any (λ path. is_below include path) some) (list_any (λ path. is_below include path) more) (length include)

if_both : (t : Bool) (a b c : ℕ) → a ≡ max b c → (if t then a else 0) ≡ max (if t then b else 0) (if t then c else 0)
if_both true a b c is = is
if_both false a b c is = refl

pub length_both : (at : ℕ) (some more : List (List ℕ)) (root : ℕ × Root) → length_above at (some ++ more) root ≡ max (length_above at some root) (length_above at more root)
length_both at some more (place, root) =
    if_both _ _ _ _ (from_both (proper_length (above some)) (proper_length (above more)) (proper_length (above (some ++ more))) (proper_both some more) 0 0 root.include)

none_from : (includes : List (List ℕ)) → from (proper_length (above [])) 0 includes ≡ 0
none_from [] = refl
none_from (include ∷ includes) = none_from includes

if_none : (t : Bool) (a : ℕ) → a ≡ 0 → (if t then a else 0) ≡ 0
if_none true a is = is
if_none false a is = refl

pub none_above : (at : ℕ) (root : ℕ × Root) → length_above at [] root ≡ 0
none_above at (place, root) = if_none _ _ (none_from root.include)

-- ---- the place alone

pub place_of : (n : ℕ) (o : Option ℕ) → option_map (λ (best : ℕ × ℕ). best.1) (option_map (λ place. (n, place)) o) ≡ o
place_of n None = refl
place_of n (Some at) = refl
