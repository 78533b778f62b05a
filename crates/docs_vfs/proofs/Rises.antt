-- The parent of a root, found at the longest folder above an include that is an include of another local root.
use Rattle.std.proofs.Common.{◌≡◌, ℕ, ◌<◌, ◌≤◌, Bool, true, false, ◌&&◌, ◌||◌, ◌==◌, List, [], ◌∷◌, length, Option, Some, None, sym, ap, subst, ◌∙◌, ⊎_elim, arith}
use Rattle.std.specs.Prelude.{slice_get, not, bytes_eq, MatchOption}
use Rattle.std.specs.List.{find, list_any, list_all, enumerate_from}
use Rattle.std.proofs.lemmas.Bool.{cases_Bool, cases_lt, and_from, and_parts, or_left, true≢false}
use Rattle.std.proofs.lemmas.Slice.Eq.{bytes_eq-Decides}
use Rattle.docs_vfs.specs.declared.source_roots.Root.{Root}
use Rattle.docs_vfs.specs.declared.includes.Includes.{Includes}
use Rattle.docs_vfs.specs.Paths.{is_path, is_within}
use Rattle.docs_vfs.specs.Roots.{is_below}
use Rattle.docs_vfs.specs.RootLaws.{LiesAbove}
use Rattle.docs_vfs.specs.Fronts.{IsFolderOf}
use Rattle.docs_vfs.specs.Parents.{length_above, parent_above}
use Rattle.docs_vfs.specs.Includes.{places, has_paths, IsIndex}
use Rattle.docs_vfs.proofs.PathLemmas.{or_right_true}
use Rattle.docs_vfs.proofs.RootChoice.{above_length, Above, above_by, at_place, from_enumerated}
use Rattle.docs_vfs.proofs.Places.{counts, find_from, FirstAt, NoneAt, first_is}
use Rattle.docs_vfs.proofs.Ancestors.{IsAncestor, ancestor_within, within_ancestor, one_of_length, not_longer, no_longer, above_ancestor, path_itself, path_some}
use Rattle.docs_vfs.proofs.Climbs.{any_of, among_from, all_at, not_true}
use Rattle.docs_vfs.proofs.Greatest.{BestAt, best_is}

or_none : (b : Bool) → (b || false) ≡ true → b ≡ true
or_none true e = e
or_none false e = absurd (true≢false (sym e))

-- a root with this include alone
abbrev alone : List ℕ → Root
alone include = record { include = include ∷ []; exclude = []; is_local = true }

-- the folder holds the include, and no include that may be a parent's is as long
pub record Rises (at : ℕ) (roots : List Root) (include folder : List ℕ) : Type 0 where
  pub ancestor : IsAncestor folder include
  pub less : (i : ℕ) (root : ℕ × Root) → slice_get (enumerate_from 0 roots) i ≡ Some root → length_above at (include ∷ []) root < length folder

module _ (at : ℕ) (roots : List Root) (include : List ℕ) (include_is : is_path include ≡ true) (paths : list_all (has_paths true) roots ≡ true) where
  abbrev other : ℕ → Bool
  other place = not (place == at)

  record Found (folder : List ℕ) : Type 0 where
    ancestor : IsAncestor folder include
    apart : bytes_eq folder include ≡ false

  found : (i place : ℕ) (root : Root) → slice_get roots i ≡ Some root → (a : Above at (alone include) place root) → Found a.include
  found i place root is a =
      let below = and_parts (is_within a.include include) (not (bytes_eq a.include include)) (or_none _ a.lies.above) in
      let local : not root.is_local ≡ false = ap not a.lies.local in
      let are : list_all is_path root.include ≡ true = or_right_true (not root.is_local) _ (all_at (has_paths true) roots i root paths is) local in
      let include_path : is_path a.include ≡ true = all_at is_path root.include a.lies.among.place a.include are a.lies.among.is in
      record { ancestor = within_ancestor a.include include include_path include_is below.0; apart = not_true _ below.1 }

  shorter : (folder : List ℕ) → Found folder → length folder < length include
  shorter folder f =
      let most = not_longer folder include f.ancestor in
      ⊎_elim
      (λ less. less)
      (λ no_less.
      let same : folder ≡ include = one_of_length folder include include f.ancestor (path_itself include include_is) (omega arith) in
      absurd (true≢false (sym ((bytes_eq-Decides folder include).1 same) ∙ f.apart)))
      (cases_lt (length folder) (length include))

  all_shorter : (i : ℕ) (root : ℕ × Root) → slice_get (enumerate_from 0 roots) i ≡ Some root → length_above at (include ∷ []) root < length include
  all_shorter i root is =
      let some = path_some include include_is in
      ⊎_elim
      (λ above.
      let e = from_enumerated 0 roots i root is in
      let a = above_by at (alone include) root.0 root.1 above in
      let long = a.long in
      let less = shorter a.include (found i root.0 root.1 e.is a) in
      omega arith)
      (λ none. omega arith)
      (cases_lt 0 (length_above at (include ∷ []) root))

  passes_if : (folder : List ℕ) → IsAncestor folder include → (i : ℕ) (root : ℕ × Root) → slice_get (enumerate_from 0 roots) i ≡ Some root
      → length_above at (include ∷ []) root ≡ length folder → counts other folder true i root.1 ≡ true
  passes_if folder f i root is long =
      let some = path_some folder f.folder_is in
      let e = from_enumerated 0 roots i root is in
      let a = above_by at (alone include) root.0 root.1 (omega arith) in
      let same : a.include ≡ folder = one_of_length a.include folder include (found i root.0 root.1 e.is a).ancestor f (a.long ∙ long) in
      let place : root.0 ≡ i = (let here = e.place in omega arith) in
      and_from root.1.is_local (list_any (bytes_eq folder) root.1.include && other i) a.lies.local
      (and_from (list_any (bytes_eq folder) root.1.include) (other i)
      (any_of folder root.1.include a.lies.among.place (a.lies.among.is ∙ ap Some same))
      (ap other (sym place) ∙ ap not a.lies.other))

  most_above : (folder above : List ℕ) → Rises at roots include folder → IsFolderOf above folder → (i : ℕ) (root : ℕ × Root) → slice_get (enumerate_from 0 roots) i ≡ Some root
      → length_above at (include ∷ []) root ≤ length above
  most_above folder above r up i root is =
      let less = r.less i root is in
      ⊎_elim
      (λ some.
      let e = from_enumerated 0 roots i root is in
      let a = above_by at (alone include) root.0 root.1 some in
      let long = a.long in
      let most = no_longer a.include above folder include (found i root.0 root.1 e.is a).ancestor r.ancestor up (omega arith) in
      omega arith)
      (λ none. omega arith)
      (cases_lt 0 (length_above at (include ∷ []) root))

  less_if : (folder above : List ℕ) → Rises at roots include folder → IsFolderOf above folder → (i : ℕ) (root : ℕ × Root) → slice_get (enumerate_from 0 roots) i ≡ Some root
      → counts other above true i root.1 ≡ false → length_above at (include ∷ []) root < length above
  less_if folder above r up i root is fails =
      let most = most_above folder above r up i root is in
      ⊎_elim
      (λ less. less)
      (λ no_less. absurd (true≢false (sym (passes_if above (above_ancestor above folder include r.ancestor up) i root is (omega arith)) ∙ fails)))
      (cases_lt (length_above at (include ∷ []) root) (length above))

  chosen_at : (folder above : List ℕ) (place : ℕ) → Rises at roots include folder → IsFolderOf above folder → length above < length folder
      → FirstAt (counts other above true) 0 roots place → BestAt (length_above at (include ∷ [])) (enumerate_from 0 roots) (length above, place)
  chosen_at folder above place r up down f =
      let here : place ≡ f.place = (let is = f.is_at in omega arith) in
      let is : slice_get roots place ≡ Some f.root = ap (slice_get roots) here ∙ f.is in
      let first = and_parts f.root.is_local (list_any (bytes_eq above) f.root.include && other place) f.passes in
      let rest = and_parts (list_any (bytes_eq above) f.root.include) (other place) first.1 in
      let ancestor = above_ancestor above folder include r.ancestor up in
      let some = path_some above ancestor.folder_is in
      let below = not_longer folder include r.ancestor in
      let apart : bytes_eq above include ≡ false =
      ⊎_elim
      (λ same. (let e = ap length ((bytes_eq-Decides above include).0 same) in absurd (omega arith)))
      (λ no. no)
      (cases_Bool (bytes_eq above include)) in
      let lies : LiesAbove at (alone include) place f.root above = record {
        among = among_from above f.root.include rest.0;
        some = some;
        above = or_left (is_below above include) false (and_from (is_within above include) (not (bytes_eq above include)) (ancestor_within above include include_is ancestor) (ap not apart));
        local = first.0;
        other = not_true (place == at) rest.1;
      } in
      let long = above_length at (alone include) place f.root above lies in
      let enumerated = at_place roots place f.root is in
      let most = most_above folder above r up place (place, f.root) enumerated in
      record {
        item = (place, f.root);
        is = enumerated;
        has = omega arith;
        positive = some;
        greatest = λ i root also. most_above folder above r up i root also;
        earlier = λ i root also before. less_if folder above r up i root also
            (f.earlier i i root.1 (from_enumerated 0 roots i root also).is (omega arith) (omega arith));
      }

-- ---- the same by the index

module _ (at : ℕ) (roots : List Root) (include : List ℕ) (index : Includes) (include_is : is_path include ≡ true) (x : IsIndex true roots index) where
  abbrev Search : List ℕ → Option ℕ
  Search folder = find (λ place. not (place == at)) (places index folder)

  searched : (folder : List ℕ) (o : Option ℕ) → Search folder ≡ o
      → MatchOption o (NoneAt (counts (λ place. not (place == at)) folder true) 0 roots) (FirstAt (counts (λ place. not (place == at)) folder true) 0 roots)
  searched folder o is =
      let keep : ℕ → Bool = λ place. not (place == at) in
      subst (λ s. MatchOption s (NoneAt (counts keep folder true) 0 roots) (FirstAt (counts keep folder true) 0 roots))
      (sym (find_from keep folder true 0 roots) ∙ sym (ap (find keep) (x.places folder)) ∙ is)
      (first_is (counts keep folder true) 0 roots)

  pub rise_begins : Rises at roots include include
  rise_begins = record { ancestor = path_itself include include_is; less = all_shorter at roots include include_is x.paths }

  pub rise_finds : (folder above : List ℕ) (place : ℕ) → Rises at roots include folder → IsFolderOf above folder → length above < length folder
      → Search above ≡ Some place → Some (length above, place) ≡ parent_above at (include ∷ []) roots
  rise_finds folder above place r up down is =
      best_is (length_above at (include ∷ [])) (enumerate_from 0 roots) (Some (length above, place))
      (chosen_at at roots include include_is x.paths folder above place r up down (searched above (Some place) is))

  pub rise_goes_on : (folder above : List ℕ) → Rises at roots include folder → IsFolderOf above folder → Search above ≡ None → Rises at roots include above
  rise_goes_on folder above r up none =
      let fails = searched above None none in
      record {
        ancestor = above_ancestor above folder include r.ancestor up;
        less = λ i root is. less_if at roots include include_is x.paths folder above r up i root is
            (fails i i root.1 (from_enumerated 0 roots i root is).is (omega arith));
      }

  pub rise_ends : (folder : List ℕ) → Rises at roots include folder → length folder ≡ 1 → None ≡ parent_above at (include ∷ []) roots
  rise_ends folder r one =
      best_is (length_above at (include ∷ [])) (enumerate_from 0 roots) None (λ i root is. (let less = r.less i root is in omega arith))
