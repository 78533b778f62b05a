-- What is chosen among roots, told by their includes and excludes.
use Rattle.std.specs.Prelude.{◌≡◌, ◌<◌, ◌≤◌, ℕ, true, false, ◌==◌, List, length, slice_get, Option, Some, MatchOption}
use Rattle.std.specs.List.{list_any}
use Rattle.docs_vfs.specs.Paths.{is_within}
use Rattle.docs_vfs.specs.Roots.{is_below}
use Rattle.docs_vfs.specs.declared.source_roots.Root.{Root}

-- the text stands in the list
pub record IsAmong {X : Type 0} (x : X) (xs : List X) : Type 0 where
  pub place : ℕ
  pub is : slice_get xs place ≡ Some x

-- an include of the root holds the path, and none of its excludes does
pub record Holds (path : List ℕ) (root : Root) (include : List ℕ) : Type 0 where
  pub among : IsAmong include root.include
  pub some : 0 < length include
  pub holds : is_within include path ≡ true
  pub kept : list_any (λ exclude. is_within exclude path) root.exclude ≡ false

-- the root has such an include; that of no other root is longer, and that of an earlier root is shorter
pub record IsRootOf (roots : List Root) (path : List ℕ) (at : ℕ) : Type 0 where
  pub root : Root
  pub is : slice_get roots at ≡ Some root
  pub include : List ℕ
  pub holds : Holds path root include
  pub longest : (i : ℕ) (other : Root) (also : List ℕ) → slice_get roots i ≡ Some other → Holds path other also → length also ≤ length include
  pub earlier : (i : ℕ) (other : Root) (also : List ℕ) → slice_get roots i ≡ Some other → i < at → Holds path other also
      → length also < length include

abbrev pub IsInNone : List Root → List ℕ → Type 0
IsInNone roots path = (i : ℕ) (other : Root) (also : List ℕ) → slice_get roots i ≡ Some other → Holds path other also → ⊥

-- the path is in such a root, or in none
pub record IsChosen (roots : List Root) (path : List ℕ) (at : ℕ) : Type 0 where
  pub root : at < length roots → IsRootOf roots path at
  pub none : length roots ≤ at → IsInNone roots path
  pub last : at ≤ length roots

-- an include of a local root other than the child lies properly above one of the child's includes
pub record LiesAbove (at : ℕ) (child : Root) (place : ℕ) (root : Root) (include : List ℕ) : Type 0 where
  pub among : IsAmong include root.include
  pub some : 0 < length include
  pub above : list_any (λ path. is_below include path) child.include ≡ true
  pub local : root.is_local ≡ true
  pub other : (place == at) ≡ false

-- the root has such an include; that of no other root is longer, and that of an earlier root is shorter
pub record IsParent (roots : List Root) (at : ℕ) (child : Root) (parent : ℕ) : Type 0 where
  pub root : Root
  pub is : slice_get roots parent ≡ Some root
  pub include : List ℕ
  pub lies : LiesAbove at child parent root include
  pub longest : (i : ℕ) (other : Root) (also : List ℕ) → slice_get roots i ≡ Some other → LiesAbove at child i other also
      → length also ≤ length include
  pub earlier : (i : ℕ) (other : Root) (also : List ℕ) → slice_get roots i ≡ Some other → i < parent → LiesAbove at child i other also
      → length also < length include

abbrev pub HasNoParent : List Root → ℕ → Root → Type 0
HasNoParent roots at child = (i : ℕ) (other : Root) (also : List ℕ) → slice_get roots i ≡ Some other → LiesAbove at child i other also → ⊥

-- a root's parent is such a root, if there is one
abbrev pub IsParentOf : List Root → ℕ → Root → Option ℕ → Type 0
IsParentOf roots at child parent = MatchOption parent (HasNoParent roots at child) (IsParent roots at child)
