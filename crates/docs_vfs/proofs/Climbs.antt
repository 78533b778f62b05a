-- The root of a path, found at the longest folder that holds it and is an include.
use Rattle.std.proofs.Common.{◌≡◌, ℕ, ◌<◌, ◌≤◌, Bool, true, false, List, [], ◌∷◌, length, Option, Some, None, zero, suc, sym, refl, ap, subst, ◌∙◌, ⊎_elim, arith}
use Rattle.std.specs.Prelude.{slice_get, not, bytes_eq, MatchOption}
use Rattle.std.specs.List.{find, list_any, list_all}
use Rattle.std.specs.Option.{option_map_or}
use Rattle.std.proofs.lemmas.Bool.{cases_Bool, cases_lt, cases_order, and_from, and_parts, or_left, or_right, true≢false}
use Rattle.std.proofs.lemmas.Option.{none-some}
use Rattle.std.proofs.lemmas.Slice.Eq.{bytes_eq-Decides}
use Rattle.docs_vfs.specs.declared.source_roots.Root.{Root}
use Rattle.docs_vfs.specs.declared.includes.Includes.{Includes}
use Rattle.docs_vfs.specs.Paths.{is_path, is_within}
use Rattle.docs_vfs.specs.Roots.{first_greatest, root_length}
use Rattle.docs_vfs.specs.RootLaws.{IsAmong, Holds}
use Rattle.docs_vfs.specs.Fronts.{IsFolderOf}
use Rattle.docs_vfs.specs.Includes.{places, has_paths, is_kept, IsIndex}
use Rattle.docs_vfs.proofs.PathLemmas.{or_right_true}
use Rattle.docs_vfs.proofs.RootChoice.{IsFirstGreatest, AreZero, chosen, held_length, held_by, Held, some_is}
use Rattle.docs_vfs.proofs.Places.{counts, find_from, FirstAt, NoneAt, first_at, first_is}
use Rattle.docs_vfs.proofs.Ancestors.{IsAncestor, ancestor_within, within_ancestor, one_of_length, not_longer, no_longer, above_ancestor, path_itself, path_some}

-- ---- the first of the greatest is one

first_same : {X : Type 0} (h : X → ℕ) (xs : List X) (a b : ℕ) → IsFirstGreatest h xs a → IsFirstGreatest h xs b → a ≡ b
first_same h xs a b x y =
    ⊎_elim
    (λ same. same)
    (λ other.
    ⊎_elim
    (λ before. let up = y.earlier a x.item x.is before in let down = x.greatest b y.item y.is in absurd (omega arith))
    (λ after. let up = x.earlier b y.item y.is after in let down = y.greatest a x.item x.is in absurd (omega arith))
    other)
    (cases_order a b)

is_first : {X : Type 0} (h : X → ℕ) (xs : List X) (at : ℕ) (o : Option ℕ) → MatchOption o (AreZero h xs) (IsFirstGreatest h xs) → IsFirstGreatest h xs at → Some at ≡ o
is_first h xs at None zeros f = let zero = zeros at f.item f.is in let some = f.positive in absurd (omega arith)
is_first h xs at (Some other) g f = ap Some (first_same h xs at other f g)

pub first_greatest_is : {X : Type 0} (h : X → ℕ) (xs : List X) (at : ℕ) → IsFirstGreatest h xs at → Some at ≡ first_greatest h xs
first_greatest_is h xs at f = is_first h xs at (first_greatest h xs) (chosen h xs) f

is_none : {X : Type 0} (h : X → ℕ) (xs : List X) (o : Option ℕ) → MatchOption o (AreZero h xs) (IsFirstGreatest h xs) → AreZero h xs → None ≡ o
is_none h xs None zeros also = refl
is_none h xs (Some other) g zeros = let zero = zeros other g.item g.is in let some = g.positive in absurd (omega arith)

pub first_greatest_none : {X : Type 0} (h : X → ℕ) (xs : List X) → AreZero h xs → None ≡ first_greatest h xs
first_greatest_none h xs zeros = is_none h xs (first_greatest h xs) (chosen h xs) zeros

-- ---- texts of a list

pub any_of : (text : List ℕ) (xs : List (List ℕ)) (place : ℕ) → slice_get xs place ≡ Some text → list_any (bytes_eq text) xs ≡ true
any_of text [] place is = absurd (none-some text is)
any_of text (x ∷ xs) zero is = or_left (bytes_eq text x) _ ((bytes_eq-Decides text x).1 (sym (some_is x text is)))
any_of text (x ∷ xs) (suc place) is = or_right (bytes_eq text x) _ (any_of text xs place is)

later_among : (text x : List ℕ) (xs : List (List ℕ)) → IsAmong text xs → IsAmong text (x ∷ xs)
later_among text x xs a = record { place = suc a.place; is = a.is }

pub among_from : (text : List ℕ) (xs : List (List ℕ)) → list_any (bytes_eq text) xs ≡ true → IsAmong text xs
among_from text [] some = absurd (true≢false (sym some))
among_from text (x ∷ xs) some =
    ⊎_elim
    (λ here. record { place = 0; is = ap Some (sym ((bytes_eq-Decides text x).0 here)) })
    (λ not_here. later_among text x xs (among_from text xs (or_right_true (bytes_eq text x) _ some not_here)))
    (cases_Bool (bytes_eq text x))

pub all_at : {X : Type 0} (p : X → Bool) (xs : List X) (i : ℕ) (x : X) → list_all p xs ≡ true → slice_get xs i ≡ Some x → p x ≡ true
all_at p [] i x all is = absurd (none-some x is)
all_at p (y ∷ ys) zero x all is = ap p (sym (some_is y x is)) ∙ (and_parts (p y) (list_all p ys) all).0
all_at p (y ∷ ys) (suc i) x all is = all_at p ys i x (and_parts (p y) (list_all p ys) all).1 is

pub not_true : (b : Bool) → not b ≡ true → b ≡ false
not_true true e = sym e
not_true false e = refl

-- ---- the climb to the root of a path

-- the folder holds the path, and no include that does, of a root that counts, is longer
pub record Climbs (roots : List Root) (path folder : List ℕ) : Type 0 where
  pub ancestor : IsAncestor folder path
  pub most : (i : ℕ) (other : Root) → slice_get roots i ≡ Some other → root_length path other ≤ length folder

module _ (roots : List Root) (path : List ℕ) (path_is : is_path path ≡ true) (paths : list_all (has_paths false) roots ≡ true) where
  held_ancestor : (i : ℕ) (other : Root) → slice_get roots i ≡ Some other → (held : Held path other) → IsAncestor held.include path
  held_ancestor i other is held =
      let include_is : is_path held.include ≡ true =
      all_at is_path other.include held.holds.among.place held.include (all_at (has_paths false) roots i other paths is) held.holds.among.is in
      within_ancestor held.include path include_is path_is held.holds.holds

  kept_is : (i : ℕ) (other : Root) → slice_get roots i ≡ Some other → is_kept roots path i ≡ not (list_any (λ exclude. is_within exclude path) other.exclude)
  kept_is i other is = ap (λ o. option_map_or (λ root. not (list_any (λ exclude. is_within exclude path) root.exclude)) o false) is

  passes_if : (folder : List ℕ) → IsAncestor folder path → (i : ℕ) (other : Root) → slice_get roots i ≡ Some other → root_length path other ≡ length folder
      → counts (is_kept roots path) folder false i other ≡ true
  passes_if folder a i other is long =
      let some = path_some folder a.folder_is in
      let held = held_by path other (omega arith) in
      let same : held.include ≡ folder = one_of_length held.include folder path (held_ancestor i other is held) a (held.long ∙ long) in
      and_from (list_any (bytes_eq folder) other.include) (is_kept roots path i)
      (any_of folder other.include held.holds.among.place (held.holds.among.is ∙ ap Some same))
      (kept_is i other is ∙ ap not held.holds.kept)

  shorter_if : (folder : List ℕ) → Climbs roots path folder → (i : ℕ) (other : Root) → slice_get roots i ≡ Some other
      → counts (is_kept roots path) folder false i other ≡ false → root_length path other < length folder
  shorter_if folder c i other is fails =
      let most = c.most i other is in
      ⊎_elim
      (λ less. less)
      (λ no_less. absurd (true≢false (sym (passes_if folder c.ancestor i other is (omega arith)) ∙ fails)))
      (cases_lt (root_length path other) (length folder))

  chosen_at : (folder : List ℕ) (at : ℕ) → Climbs roots path folder → FirstAt (counts (is_kept roots path) folder false) 0 roots at → IsFirstGreatest (root_length path) roots at
  chosen_at folder at c f =
      let here : at ≡ f.place = (let is = f.is_at in omega arith) in
      let is : slice_get roots at ≡ Some f.root = ap (slice_get roots) here ∙ f.is in
      let both = and_parts (list_any (bytes_eq folder) f.root.include) (is_kept roots path at) f.passes in
      let holds : Holds path f.root folder = record {
        among = among_from folder f.root.include both.0;
        some = path_some folder c.ancestor.folder_is;
        holds = ancestor_within folder path path_is c.ancestor;
        kept = not_true _ (sym (kept_is at f.root is) ∙ both.1);
      } in
      let long = held_length path f.root folder holds in
      let some = path_some folder c.ancestor.folder_is in
      record {
        item = f.root;
        is = is;
        positive = omega arith;
        greatest = λ i other also. (let most = c.most i other also in omega arith);
        earlier = λ i other also before. (let less = shorter_if folder c i other also (f.earlier i i other also (omega arith) (omega arith)) in omega arith);
      }

  most_above : (folder above : List ℕ) → Climbs roots path folder → IsFolderOf above folder → (i : ℕ) (other : Root) → slice_get roots i ≡ Some other
      → root_length path other < length folder → root_length path other ≤ length above
  most_above folder above c up i other is less =
      ⊎_elim
      (λ some.
      let held = held_by path other some in
      let long = held.long in
      let most = no_longer held.include above folder path (held_ancestor i other is held) c.ancestor up (omega arith) in
      omega arith)
      (λ none. omega arith)
      (cases_lt 0 (root_length path other))

-- ---- the same by the index

abbrev pub Search : List Root → List ℕ → Includes → List ℕ → Option ℕ
Search roots path index folder = find (is_kept roots path) (places index folder)

module _ (roots : List Root) (path : List ℕ) (index : Includes) (path_is : is_path path ≡ true) (i : IsIndex false roots index) where
  search_is : (folder : List ℕ) → first_at (counts (is_kept roots path) folder false) 0 roots ≡ Search roots path index folder
  search_is folder = sym (ap (find (is_kept roots path)) (i.places folder) ∙ find_from (is_kept roots path) folder false 0 roots)

  searched : (folder : List ℕ) → MatchOption (Search roots path index folder) (NoneAt (counts (is_kept roots path) folder false) 0 roots) (FirstAt (counts (is_kept roots path) folder false) 0 roots)
  searched folder =
      subst (λ o. MatchOption o (NoneAt (counts (is_kept roots path) folder false) 0 roots) (FirstAt (counts (is_kept roots path) folder false) 0 roots)) (search_is folder)
      (first_is (counts (is_kept roots path) folder false) 0 roots)

  some_searched : (folder : List ℕ) (at : ℕ) → Search roots path index folder ≡ Some at → FirstAt (counts (is_kept roots path) folder false) 0 roots at
  some_searched folder at is =
      subst (λ o. MatchOption o (NoneAt (counts (is_kept roots path) folder false) 0 roots) (FirstAt (counts (is_kept roots path) folder false) 0 roots)) is (searched folder)

  none_searched : (folder : List ℕ) → Search roots path index folder ≡ None → NoneAt (counts (is_kept roots path) folder false) 0 roots
  none_searched folder is =
      subst (λ o. MatchOption o (NoneAt (counts (is_kept roots path) folder false) 0 roots) (FirstAt (counts (is_kept roots path) folder false) 0 roots)) is (searched folder)

  pub climb_begins : Climbs roots path path
  climb_begins = record {
    ancestor = path_itself path path_is;
    most = λ at other is.
        ⊎_elim
        (λ some.
        let held = held_by path other some in
        let long = held.long in
        let most = not_longer held.include path (held_ancestor roots path path_is i.paths at other is held) in
        omega arith)
        (λ none. omega arith)
        (cases_lt 0 (root_length path other));
  }

  pub climb_finds : (folder : List ℕ) (at : ℕ) → Climbs roots path folder → Search roots path index folder ≡ Some at → Some at ≡ first_greatest (root_length path) roots
  climb_finds folder at c is =
      first_greatest_is (root_length path) roots at (chosen_at roots path path_is i.paths folder at c (some_searched folder at is))

  less_all : (folder : List ℕ) → Climbs roots path folder → Search roots path index folder ≡ None → (at : ℕ) (other : Root) → slice_get roots at ≡ Some other
      → root_length path other < length folder
  less_all folder c none at other is = shorter_if roots path path_is i.paths folder c at other is (none_searched folder none at at other is (omega arith))

  pub climb_goes_on : (folder above : List ℕ) → Climbs roots path folder → Search roots path index folder ≡ None → IsFolderOf above folder → Climbs roots path above
  climb_goes_on folder above c none up = record {
    ancestor = above_ancestor above folder path c.ancestor up;
    most = λ at other is. most_above roots path path_is i.paths folder above c up at other is (less_all folder c none at other is);
  }

  pub climb_ends : (folder : List ℕ) → Climbs roots path folder → Search roots path index folder ≡ None → length folder ≡ 1 → None ≡ first_greatest (root_length path) roots
  climb_ends folder c none one =
      first_greatest_none (root_length path) roots (λ at other is. (let less = less_all folder c none at other is in omega arith))
