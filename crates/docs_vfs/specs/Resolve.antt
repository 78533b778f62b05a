-- Paths from paths: one segment below a path, and a text that is taken from a path.
use Rattle.std.specs.Prelude.{ℕ, Bool, true, false, not, ◌&&◌, ◌||◌, ◌==◌, List, [], ◌∷◌, ◌++◌, length, codes, bytes_eq}
use Rattle.std.specs.Prelude.{Option, Some, None, if◌then◌else◌}
use Rattle.std.specs.List.{fold, list_any}
use Rattle.std.specs.Option.{option_and_then}
use Rattle.docs_vfs.specs.Paths.{is_slash, parts, is_segment, parent_of, segments_of}
use Rattle.docs_vfs.specs.declared.relative.EmptySegments.{EmptySegments}
use Rattle.docs_vfs.specs.declared.relative.EmptySegments.TheVariants.{Refused, Dropped}

-- a path as it stands before a slash: `/` has nothing there
abbrev pub front : List ℕ → List ℕ
front path = if length path == 1 then [] else path

-- a text below a path, after a slash
abbrev pub below : List ℕ → List ℕ → List ℕ
below path text = front path ++ 47 ∷ text

-- a text that may be one segment
abbrev pub is_name : List ℕ → Bool
is_name text = is_segment text && not (list_any is_slash text)

abbrev pub drops : EmptySegments → Bool
drops Refused = false
drops Dropped = true

-- a segment that leads nowhere: `.`, and an empty one where such are dropped
abbrev pub stays : EmptySegments → List ℕ → Bool
stays empty segment = bytes_eq segment (codes ".") || (drops empty && length segment == 0)

-- one segment, taken at a path: `..` goes up, unless at `/`, and any other that doesn't stay goes down, where it may be one
abbrev pub step : EmptySegments → List ℕ → List ℕ → Option (List ℕ)
step empty path segment =
    if stays empty segment then Some path
    else (if bytes_eq segment (codes "..") then parent_of path
    else (if is_name segment then Some (below path segment) else None))

-- segments, taken one after another
abbrev pub walk : EmptySegments → List ℕ → List (List ℕ) → Option (List ℕ)
walk empty base segments = fold (λ at segment. option_and_then (λ path. step empty path segment) at) (Some base) segments

abbrev pub begins_with_slash : List ℕ → Bool
begins_with_slash [] = false
begins_with_slash (b ∷ rest) = is_slash b

-- the path that a text is: its segments are taken from `/` where it begins with a slash, else from the base
unfoldable pub resolve : EmptySegments → List ℕ → List ℕ → Option (List ℕ)
resolve empty base text =
    if begins_with_slash text then walk empty (codes "/") (segments_of text) else walk empty base (parts text)
