-- The first of the greatest numbers, and what it is among roots.
use Rattle.std.proofs.Common.{◌≡◌, ℕ, ◌<◌, ◌≤◌, Bool, true, false, ◌==◌, List, [], ◌∷◌, length, get_or, zero, suc, Option, Some, None, unwrap_or, sym, refl, ap, subst, ◌∙◌, ⊎_elim, inl, inr, arith}
use Rattle.std.specs.Prelude.{◌⊎◌, ◌+◌, ◌&&◌, not, max, slice_get, nat_lt, MatchOption}
use Rattle.std.specs.List.{fold, list_any, position_or_len, enumerate_from}
use Rattle.std.proofs.lemmas.Bool.{cases_Bool, cond-true, cond-false, and_from, and_parts, true≢false, eqb-true}
use Rattle.std.proofs.lemmas.Bool.Decides.{nat_tests}
use Rattle.std.proofs.lemmas.Option.{none-some, slice_get_within, slice_get-get_or, get_or_from_slice_get}
use Rattle.std.proofs.lemmas.List.Sums.{passes_at_first, fails_before_first}
use Rattle.docs_vfs.specs.declared.source_roots.Root.{Root}
use Rattle.docs_vfs.specs.Paths.{is_within}
use Rattle.docs_vfs.specs.Roots.{greatest, first_greatest, include_length, root_length, root_of, is_below, proper_length, parent_length, parent_of}
use Rattle.docs_vfs.specs.RootLaws.{IsAmong, Holds, IsRootOf, IsInNone, IsChosen, LiesAbove, IsParent, HasNoParent, IsParentOf}

-- at this place stands the greatest number, which isn't 0, and before it stand lesser ones
pub record IsFirstGreatest {X : Type 0} (h : X → ℕ) (xs : List X) (at : ℕ) : Type 0 where
  pub item : X
  pub is : slice_get xs at ≡ Some item
  pub positive : 0 < h item
  pub greatest : (i : ℕ) (other : X) → slice_get xs i ≡ Some other → h other ≤ h item
  pub earlier : (i : ℕ) (other : X) → slice_get xs i ≡ Some other → i < at → h other < h item

abbrev pub AreZero : {X : Type 0} → (X → ℕ) → List X → Type 0
AreZero {X} h xs = (i : ℕ) (other : X) → slice_get xs i ≡ Some other → h other ≡ 0

abbrev from : {X : Type 0} → (X → ℕ) → ℕ → List X → ℕ
from h a xs = fold (λ a x. max a (h x)) a xs

start : {X : Type 0} (h : X → ℕ) (a : ℕ) (xs : List X) → a ≤ from h a xs
start h a [] = omega arith
start h a (x ∷ xs) = omega (arith, start h (max a (h x)) xs)

pub some_is : {X : Type 0} (x y : X) → Some x ≡ Some y → x ≡ y
some_is x y is = ap (λ o. unwrap_or o x) is

pub bound : {X : Type 0} (h : X → ℕ) (a : ℕ) (xs : List X) (i : ℕ) (y : X) → slice_get xs i ≡ Some y → h y ≤ from h a xs
bound h a [] i y is = absurd (none-some y is)
bound h a (x ∷ xs) zero y is = omega (arith, start h (max a (h x)) xs, ap h (some_is x y is))
bound h a (x ∷ xs) (suc i) y is = bound h (max a (h x)) xs i y is

record Reached {X : Type 0} (h : X → ℕ) (n : ℕ) (xs : List X) : Type 0 where
  at : ℕ
  item : X
  is : slice_get xs at ≡ Some item
  has : h item ≡ n

later : {X : Type 0} (h : X → ℕ) (n : ℕ) (x : X) (xs : List X) → Reached h n xs → Reached h n (x ∷ xs)
later h n x xs r = record { at = suc r.at; item = r.item; is = r.is; has = r.has }

max_cases : (a b n : ℕ) → n ≡ max a b → (n ≡ a) ⊎ (b ≡ n)
max_cases a b n is = grind arith

reached : {X : Type 0} (h : X → ℕ) (a : ℕ) (xs : List X) → (from h a xs ≡ a) ⊎ Reached h (from h a xs) xs
reached h a [] = inl refl
reached h a (x ∷ xs) =
    ⊎_elim
    (λ is. ⊎_elim
    (λ old. inl old)
    (λ new. inr (record { at = 0; item = x; is = refl; has = new }))
    (max_cases a (h x) (from h (max a (h x)) xs) is))
    (λ r. inr (later h _ x xs r))
    (reached h (max a (h x)) xs)

eq_true : (a b : ℕ) → a ≡ b → (a == b) ≡ true
eq_true a b is = grind (arith, nat_tests)

lt_true : (a b : ℕ) → a < b → nat_lt a b ≡ true
lt_true a b less = grind (arith, nat_tests)

abbrev has : {X : Type 0} → (X → ℕ) → ℕ → X → Bool
has h n x = h x == n

-- the first place with the greatest number, where it isn't 0
first_is : {X : Type 0} (h : X → ℕ) (xs : List X) → (greatest h xs == 0) ≡ false → (d : X) → position_or_len (has h (greatest h xs)) xs < length xs → IsFirstGreatest h xs (position_or_len (has h (greatest h xs)) xs)
first_is h xs some d within =
    let n = greatest h xs in
    let at = position_or_len (has h n) xs in
    let item = get_or xs at d in
    let is_greatest : h item ≡ n = eqb-true (h item) n (passes_at_first (has h n) xs d within) in
    record {
      item = item;
      is = slice_get-get_or xs at d within;
      positive = grind (arith, nat_tests);
      greatest = λ i y is. omega (arith, bound h 0 xs i y is, is_greatest);
      earlier = λ i y is before. (
          let not_it : (h y == n) ≡ false = ap (has h n) (sym (get_or_from_slice_get xs i y y is)) ∙ fails_before_first (has h n) xs i y before in
          let most : h y ≤ n = bound h 0 xs i y is in
          grind (arith, nat_tests));
    }

reached_within : {X : Type 0} (h : X → ℕ) (n : ℕ) (xs : List X) → Reached h n xs → position_or_len (has h n) xs < length xs
reached_within h n xs r =
    ⊎_elim
    (λ less. grind (arith, nat_tests))
    (λ past.
    let inside = slice_get_within xs r.at r.item r.is in
    let before : r.at < position_or_len (has h n) xs = grind (arith, nat_tests) in
    absurd (true≢false (sym (eq_true (h r.item) n r.has) ∙ ap (has h n) (sym (get_or_from_slice_get xs r.at r.item r.item r.is)) ∙ fails_before_first (has h n) xs r.at r.item before)))
    (cases_Bool (nat_lt (position_or_len (has h n) xs) (length xs)))

pub chosen : {X : Type 0} (h : X → ℕ) (xs : List X) → MatchOption (first_greatest h xs) (AreZero h xs) (IsFirstGreatest h xs)
chosen {X} h xs =
    let n = greatest h xs in
    ⊎_elim
    (λ zero_is. subst (λ o. MatchOption o (AreZero h xs) (IsFirstGreatest h xs)) (sym (cond-true _ _ _ zero_is))
    (λ i y is. (let most = bound h 0 xs i y is in let none = eqb-true n 0 zero_is in omega (arith, most, none))))
    (λ some.
    ⊎_elim
    (λ none. absurd (true≢false (sym (eq_true n 0 none) ∙ some)))
    (λ r.
    let within = reached_within h n xs r in
    subst (λ o. MatchOption o (AreZero h xs) (IsFirstGreatest h xs)) (sym (cond-false _ _ _ some ∙ cond-true _ _ _ (lt_true _ _ within))) (first_is h xs some r.item within))
    (reached h 0 xs))
    (cases_Bool (n == 0))

-- ---- the longest of some texts

pub most_of : {X : Type 0} (h : X → ℕ) (xs : List X) (x : X) → IsAmong x xs → h x ≤ greatest h xs
most_of h xs x among = bound h 0 xs among.place x among.is

pub record Longest {X : Type 0} (h : X → ℕ) (xs : List X) : Type 0 where
  pub item : X
  pub among : IsAmong item xs
  pub has : h item ≡ greatest h xs

pub longest_of : {X : Type 0} (h : X → ℕ) (xs : List X) → 0 < greatest h xs → Longest h xs
longest_of h xs some =
    ⊎_elim
    (λ none. absurd (omega (arith, some, none)))
    (λ r. record { item = r.item; among = record { place = r.at; is = r.is }; has = r.has })
    (reached h 0 xs)

-- ---- the root of a path

pub held_length : (path : List ℕ) (root : Root) (include : List ℕ) → Holds path root include → length include ≤ root_length path root
held_length path root include h =
    let kept : root_length path root ≡ greatest (include_length path) root.include = cond-false _ _ _ h.kept in
    let here : include_length path include ≡ length include = cond-true _ _ _ h.holds in
    omega (arith, kept, here, most_of (include_length path) root.include include h.among)

pub record Held (path : List ℕ) (root : Root) : Type 0 where
  pub include : List ℕ
  pub holds : Holds path root include
  pub long : length include ≡ root_length path root

pub held_by : (path : List ℕ) (root : Root) → 0 < root_length path root → Held path root
held_by path root some =
    ⊎_elim
    (λ excluded. let none : root_length path root ≡ 0 = cond-true _ _ _ excluded in absurd (omega (arith, some, none)))
    (λ kept.
    let is : root_length path root ≡ greatest (include_length path) root.include = cond-false _ _ _ kept in
    let l = longest_of (include_length path) root.include (omega (arith, some, is)) in
    ⊎_elim
    (λ holds.
    let here : include_length path l.item ≡ length l.item = cond-true _ _ _ holds in
    let long : length l.item ≡ root_length path root = sym here ∙ l.has ∙ sym is in
    record { include = l.item; holds = record { among = l.among; some = omega (arith, long, some); holds = holds; kept = kept }; long = long })
    (λ not_held. let none : include_length path l.item ≡ 0 = cond-false _ _ _ not_held in absurd (omega (arith, some, is, l.has, none)))
    (cases_Bool (is_within l.item path)))
    (cases_Bool (list_any (λ exclude. is_within exclude path) root.exclude))

root_found : (roots : List Root) (path : List ℕ) (at : ℕ) → IsFirstGreatest (root_length path) roots at → IsRootOf roots path at
root_found roots path at f =
    let h = held_by path f.item f.positive in
    record {
      root = f.item;
      is = f.is;
      include = h.include;
      holds = h.holds;
      longest = λ i other also is holds. omega (arith, h.long, held_length path other also holds, f.greatest i other is);
      earlier = λ i other also is before holds. omega (arith, h.long, held_length path other also holds, f.earlier i other is before);
    }

no_root : (roots : List Root) (path : List ℕ) → AreZero (root_length path) roots → IsInNone roots path
no_root roots path zeros i other also is holds = omega (arith, held_length path other also holds, holds.some, zeros i other is)

root_by : (roots : List Root) (path : List ℕ) (o : Option ℕ) → MatchOption o (AreZero (root_length path) roots) (IsFirstGreatest (root_length path) roots) → IsChosen roots path (unwrap_or o (length roots))
root_by roots path None zeros = record {
  root = λ less. absurd (omega (arith, less));
  none = λ _. no_root roots path zeros;
  last = omega arith;
}
root_by roots path (Some at) is = record {
  root = λ _. root_found roots path at is;
  none = λ past. absurd (omega (arith, past, slice_get_within roots at is.item is.is));
  last = omega (arith, slice_get_within roots at is.item is.is);
}

pub root_chosen : (roots : List Root) (path : List ℕ) → IsChosen roots path (root_of roots path)
root_chosen roots path = root_by roots path (first_greatest (root_length path) roots) (chosen (root_length path) roots)

-- ---- the parent of a root

pub above_length : (at : ℕ) (child : Root) (place : ℕ) (root : Root) (include : List ℕ) → LiesAbove at child place root include → length include ≤ parent_length at child (place, root)
above_length at child place root include l =
    let is : parent_length at child (place, root) ≡ greatest (proper_length child) root.include = cond-true _ _ _ (and_from root.is_local (not (place == at)) l.local (ap not l.other)) in
    let here : proper_length child include ≡ length include = cond-true _ _ _ l.above in
    omega (arith, is, here, most_of (proper_length child) root.include include l.among)

pub record Above (at : ℕ) (child : Root) (place : ℕ) (root : Root) : Type 0 where
  pub include : List ℕ
  pub lies : LiesAbove at child place root include
  pub long : length include ≡ parent_length at child (place, root)

not_is : (b : Bool) → not b ≡ true → b ≡ false
not_is true e = sym e
not_is false e = refl

pub above_by : (at : ℕ) (child : Root) (place : ℕ) (root : Root) → 0 < parent_length at child (place, root) → Above at child place root
above_by at child place root some =
    ⊎_elim
    (λ fits.
    let both = and_parts root.is_local (not (place == at)) fits in
    let is : parent_length at child (place, root) ≡ greatest (proper_length child) root.include = cond-true _ _ _ fits in
    let l = longest_of (proper_length child) root.include (omega (arith, some, is)) in
    ⊎_elim
    (λ above.
    let here : proper_length child l.item ≡ length l.item = cond-true _ _ _ above in
    let long : length l.item ≡ parent_length at child (place, root) = sym here ∙ l.has ∙ sym is in
    record {
      include = l.item;
      lies = record { among = l.among; some = omega (arith, long, some); above = above; local = both.0; other = not_is (place == at) both.1 };
      long = long;
    })
    (λ not_above. let none : proper_length child l.item ≡ 0 = cond-false _ _ _ not_above in absurd (omega (arith, some, is, l.has, none)))
    (cases_Bool (list_any (λ path. is_below l.item path) child.include)))
    (λ unfit. let none : parent_length at child (place, root) ≡ 0 = cond-false _ _ _ unfit in absurd (omega (arith, some, none)))
    (cases_Bool (root.is_local && not (place == at)))

-- the roots with their places, read at a place
enumerated : (n : ℕ) (roots : List Root) (i : ℕ) (root : Root) → slice_get roots i ≡ Some root → slice_get (enumerate_from n roots) i ≡ Some (i + n, root)
enumerated n [] i root is = absurd (none-some root is)
enumerated n (r ∷ roots) zero root is =
    let place : n ≡ zero + n = omega arith in
    ap (λ x. Some (n, x)) (some_is r root is) ∙ ap (λ k. Some (k, root)) place
enumerated n (r ∷ roots) (suc i) root is =
    let place : i + (n + 1) ≡ suc i + n = omega arith in
    enumerated (n + 1) roots i root is ∙ ap (λ k. Some (k, root)) place

pub at_place : (roots : List Root) (i : ℕ) (root : Root) → slice_get roots i ≡ Some root → slice_get (enumerate_from 0 roots) i ≡ Some (i, root)
at_place roots i root is =
    let place : i + 0 ≡ i = omega arith in
    enumerated 0 roots i root is ∙ ap (λ k. Some (k, root)) place

pub record Enumerated (n : ℕ) (roots : List Root) (i : ℕ) (item : ℕ × Root) : Type 0 where
  pub is : slice_get roots i ≡ Some item.1
  pub place : item.0 ≡ i + n

pub from_enumerated : (n : ℕ) (roots : List Root) (i : ℕ) (item : ℕ × Root) → slice_get (enumerate_from n roots) i ≡ Some item → Enumerated n roots i item
from_enumerated n [] i item is = absurd (none-some item is)
from_enumerated n (r ∷ roots) zero item is =
    let same : (n, r) ≡ item = some_is (n, r) item is in
    let number : n ≡ item.0 = ap (λ (p : ℕ × Root). p.0) same in
    record { is = ap (λ (p : ℕ × Root). Some p.1) same; place = omega (arith, number) }
from_enumerated n (r ∷ roots) (suc i) item is =
    let e = from_enumerated (n + 1) roots i item is in
    record { is = e.is; place = omega (arith, e.place) }

parent_found : (roots : List Root) (at : ℕ) (child : Root) (parent : ℕ) → IsFirstGreatest (parent_length at child) (enumerate_from 0 roots) parent → IsParent roots at child parent
parent_found roots at child parent f =
    let e = from_enumerated 0 roots parent f.item f.is in
    let place : f.item.0 ≡ parent = omega (arith, e.place) in
    let same : f.item ≡ (parent, f.item.1) = (λ i. (place i, f.item.1)) in
    let a = above_by at child parent f.item.1 (subst (λ (x : ℕ × Root). 0 < parent_length at child x) same f.positive) in
    let long : length a.include ≡ parent_length at child f.item = a.long ∙ ap (parent_length at child) (sym same) in
    record {
      root = f.item.1;
      is = e.is;
      include = a.include;
      lies = a.lies;
      longest = λ i other also is lies. omega (arith, long, above_length at child i other also lies, f.greatest i (i, other) (at_place roots i other is));
      earlier = λ i other also is before lies. omega (arith, long, above_length at child i other also lies, f.earlier i (i, other) (at_place roots i other is) before);
    }

no_parent : (roots : List Root) (at : ℕ) (child : Root) → AreZero (parent_length at child) (enumerate_from 0 roots) → HasNoParent roots at child
no_parent roots at child zeros i other also is lies =
    omega (arith, above_length at child i other also lies, lies.some, zeros i (i, other) (at_place roots i other is))

parent_by : (roots : List Root) (at : ℕ) (child : Root) (o : Option ℕ) → MatchOption o (AreZero (parent_length at child) (enumerate_from 0 roots)) (IsFirstGreatest (parent_length at child) (enumerate_from 0 roots)) → IsParentOf roots at child o
parent_by roots at child None zeros = no_parent roots at child zeros
parent_by roots at child (Some parent) is = parent_found roots at child parent is

pub parent_chosen : (roots : List Root) (at : ℕ) (child : Root) → IsParentOf roots at child (parent_of roots at child)
parent_chosen roots at child = parent_by roots at child (parent_of roots at child) (chosen (parent_length at child) (enumerate_from 0 roots))
