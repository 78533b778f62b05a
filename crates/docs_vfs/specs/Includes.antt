-- The places of the roots that have a text as an include.
use Rattle.std.specs.Prelude.{◌≡◌, ℕ, Bool, true, false, slice_get, ◌||◌, not, List, [], ◌∷◌, ◌++◌, ◌+◌, map, bytes_eq, if◌then◌else◌}
use Rattle.std.specs.List.{filter, list_any, list_all}
use Rattle.std.specs.Option.{option_map_or}
use Rattle.std.specs.BTreeMap.{get_by_text}
use Rattle.docs_vfs.specs.Paths.{is_path, is_within}
use Rattle.docs_vfs.specs.declared.source_roots.Root.{Root}
use Rattle.docs_vfs.specs.declared.includes.Includes.{Includes}

-- the places that an index has for a text
abbrev pub places : Includes → List ℕ → List ℕ
places index text = option_map_or (λ g. g.items) (get_by_text index.rows text) []

-- the place of a root, as often as the text is an include of it
abbrev pub places_in : List ℕ → ℕ → Root → List ℕ
places_in text at root = map (λ _. at) (filter (bytes_eq text) root.include)

-- whether a root is one of those that are asked for: all, or the local ones
abbrev pub is_asked : Bool → Root → Bool
is_asked only_local root = not only_local || root.is_local

-- the places of the roots from a place on, in order
abbrev pub places_from : Bool → List ℕ → ℕ → List Root → List ℕ
places_from only_local text at [] = []
places_from only_local text at (root ∷ roots) =
    (if is_asked only_local root then places_in text at root else []) ++ places_from only_local text (at + 1) roots

-- the includes of a root that is asked for are paths
abbrev pub has_paths : Bool → Root → Bool
has_paths only_local root = not (is_asked only_local root) || list_all is_path root.include

-- the index has the places of these roots, whose includes are paths
pub record IsIndex (only_local : Bool) (roots : List Root) (index : Includes) : Type 0 where
  pub places : (text : List ℕ) → places index text ≡ places_from only_local text 0 roots
  pub paths : list_all (has_paths only_local) roots ≡ true

-- whether none of the excludes of the root at this place holds the path
abbrev pub is_kept : List Root → List ℕ → ℕ → Bool
is_kept roots path at = option_map_or (λ root. not (list_any (λ exclude. is_within exclude path) root.exclude)) (slice_get roots at) false
