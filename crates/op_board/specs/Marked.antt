-- The files that are marked: a set of their numbers.
use Rattle.std.specs.Prelude.{ℕ, Bool, List, [], ◌∷◌, Option, None, Some, map, cond}
use Rattle.std.specs.Ordering.{nat_cmp}
use Rattle.std.specs.FinMap as fin
use Rattle.docs_vfs.specs.declared.file_kinds.FileId.{FileId}

abbrev pub Marked : Type 0
Marked = fin.FinMap nat_cmp (Unit {0})

abbrev pub mark : FileId → Marked → Marked
mark file m = fin.insert m file.0 tt

abbrev pub mark_if : Bool → FileId → Marked → Marked
mark_if b file m = cond b (mark file m) m

abbrev pub file_at : ℕ → FileId
file_at number = record { 0 = number }

-- after the files of these numbers were marked
abbrev pub mark_all : List ℕ → Marked → Marked
mark_all [] m = m
mark_all (number ∷ more) m = mark_all more (mark (file_at number) m)

abbrev pub files_at : List ℕ → List FileId
files_at numbers = map file_at numbers

-- a list with something in it
abbrev pub if_any : {X : Type 0} → List X → Option (List X)
if_any [] = None
if_any (x ∷ xs) = Some (x ∷ xs)

-- what a take answers: the marked files in the order of their numbers, or none
abbrev pub taken : Marked → Option (List FileId)
taken m = if_any (files_at (fin.keys m))
