-- The text of a path while segments are added to it: what stands before the next slash.
use Rattle.std.specs.Prelude.{◌≡◌, ℕ, Bool, true, false, ◌==◌, List, ◌∷◌, ◌++◌, length, codes, Option, Some, None, if◌then◌else◌}
use Rattle.std.specs.List.{list_any}
use Rattle.docs_vfs.specs.Paths.{is_path, is_slash}
use Rattle.docs_vfs.specs.Resolve.{front}

-- the path before whose next slash this stands
abbrev pub whole : List ℕ → List ℕ
whole text = if length text == 0 then codes "/" else text

-- this stands before the next slash of a path
pub record IsFront (text : List ℕ) : Type 0 where
  pub path : is_path (whole text) ≡ true
  pub same : front (whole text) ≡ text

-- the expected path was reached, or there is none
abbrev pub Reaches : Bool → Option (List ℕ) → List ℕ → Type 0
Reaches true expected text = (expected ≡ Some (whole text)) × IsFront text
Reaches false expected text = expected ≡ None

-- the path is a segment below the folder
pub record IsFolderOf (folder path : List ℕ) : Type 0 where
  pub front : List ℕ
  pub name : List ℕ
  pub is : path ≡ front ++ 47 ∷ name
  pub whole_name : list_any is_slash name ≡ false
  pub same : folder ≡ whole front
  pub folder_is : is_path folder ≡ true
