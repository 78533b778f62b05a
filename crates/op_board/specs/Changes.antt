-- When a list of the board changed, told by the acts alone: those of the passes, and those of each package of a check.
use Rattle.std.specs.Prelude.{◌≡◌, ◌≢◌, ◌↔◌, ◌⊎◌, ℕ, List, [], ◌∷◌, Option, None, Some, map}
use Rattle.std.specs.List.{Contains}
use Rattle.std.specs.List.Sorted.{IsStrictlySortedBy}
use Rattle.std.specs.Ordering.{nat_cmp}
use Rattle.docs_vfs.specs.declared.file_kinds.FileId.{FileId}
use Rattle.lsp_types.specs.declared.diagnostic.Diagnostic.{Diagnostic}
use Rattle.op_board.specs.declared.diagnostic.NativePass.{NativePass}
use Rattle.op_board.specs.Runs.{stored}
use Rattle.op_board.specs.CheckRuns.{entries, said_of}
use Rattle.op_board.specs.Acts.{Act}
use Rattle.op_board.specs.Acts.Act.{Adds, ForgetsOlderIn, Takes}

-- where a list stands: with a pass, or with a package of a check
pub data Place : Type 0 where
  OfPass : NativePass → Place
  OfPackage : ℕ → Option (List ℕ) → Place

abbrev pub said : Place → FileId → List Act → List Diagnostic
said (OfPass pass) file run = stored pass file run
said (OfPackage id name) file run = said_of file (entries id name run)

-- some list of the file isn't the same after both runs
abbrev pub Differs : FileId → List Act → List Act → Type 0
Differs file old new = (place : Place) × (said place file old ≢ said place file new)

-- an act changes a list of the file; an entry of a newer generation first empties its package
abbrev pub Changes : FileId → Act → List Act → Type 0
Changes file (Adds id generation name entry) before =
    let emptied = ForgetsOlderIn id name generation ∷ before in
    Differs file before emptied ⊎ Differs file emptied (Adds id generation name entry ∷ before)
Changes file act before = Differs file before (act ∷ before)

-- a list of the file changed since the last take
abbrev pub ChangedSince : FileId → List Act → Type 0
ChangedSince file [] = ⊥
ChangedSince file (Takes ∷ before) = ⊥
ChangedSince file (act ∷ before) = Changes file act before ⊎ ChangedSince file before

-- the files that a take answers
abbrev pub files_in : Option (List FileId) → List FileId
files_in None = []
files_in (Some files) = files

-- a take after a run answers exactly the files with a list that changed since the last take, by strictly rising numbers,
-- and none where there is none
pub record ListsChanges (answer : Option (List FileId)) (run : List Act) : Type 0 where
  pub changed : (file : FileId) → Contains (files_in answer) file ↔ ChangedSince file run
  pub rising : IsStrictlySortedBy nat_cmp (map (λ file. file.0) (files_in answer))
  pub none : (answer ≡ None) ↔ ((file : FileId) → ChangedSince file run → ⊥)
