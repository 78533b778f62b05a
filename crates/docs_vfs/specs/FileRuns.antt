-- Runs of the table of files: what its calls did, one after another. A run has its last call first.
use Rattle.std.specs.Prelude.{ℕ, ◌+◌, Bool, ◌||◌, nat_le, bytes_eq, List, [], ◌∷◌, ◌++◌, length}
use Rattle.std.specs.Prelude.{Option, None, Some, Result, Ok, Err, if◌then◌else◌}
use Rattle.std.specs.List.{list_any}
use Rattle.std.specs.FinMap as map
use Rattle.docs_vfs.specs.declared.file_kinds.TableFault.{TableFault}
use Rattle.docs_vfs.specs.Files.{Files, new_files, set_in, mark_in}

pub data Call : Type 0 where
  -- contents come to a path, or are taken away
  Sets : List ℕ → Option (List ℕ) → Call
  -- a path is marked
  Marks : List ℕ → Call
  -- the changes are taken
  Takes : Call

-- the table that a call made; a full one stays
abbrev pub set_or : Files → Result (Files × Bool) TableFault → Files
set_or t (Ok made) = made.0
set_or t (Err e) = t

abbrev pub mark_or : Files → Result Files TableFault → Files
mark_or t (Ok made) = made
mark_or t (Err e) = t

-- what a call does to the table
abbrev pub step : Call → Files → Files
step (Sets path contents) t = set_or t (set_in t path contents)
step (Marks path) t = mark_or t (mark_in t path)
step Takes t = record t { before = map.empty }

-- the table after a run
abbrev pub after : ℕ → List Call → Files
after first [] = new_files first
after first (call ∷ before) = step call (after first before)

-- the run before the last take
abbrev pub before_take : List Call → List Call
before_take [] = []
before_take (Takes ∷ before) = before
before_take (Sets path contents ∷ before) = before_take before
before_take (Marks path ∷ before) = before_take before

-- a path behind those that have numbers, unless it has one or no number is left
abbrev pub add_name : ℕ → List ℕ → List (List ℕ) → List (List ℕ)
add_name first path names =
    if list_any (bytes_eq path) names || nat_le 4294967295 (first + length names) then names else names ++ path ∷ []

-- the paths in the order in which they first got contents or a mark
abbrev pub named : ℕ → List Call → List (List ℕ)
named first [] = []
named first (Sets path (Some bytes) ∷ before) = add_name first path (named first before)
named first (Sets path None ∷ before) = named first before
named first (Marks path ∷ before) = add_name first path (named first before)
named first (Takes ∷ before) = named first before
