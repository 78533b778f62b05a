-- What a run of the board leaves of a file and pass, told by its acts alone.
use Rattle.std.specs.Prelude.{ℕ, ◌+◌, Bool, true, false, ◌&&◌, List, [], ◌∷◌, Option, None, Some, cond, nat_eq, nat_lt, nat_le}
use Rattle.std.specs.List.{list_all}
use Rattle.docs_vfs.specs.declared.file_kinds.FileId.{FileId}
use Rattle.lsp_types.specs.declared.diagnostic.Diagnostic.{Diagnostic}
use Rattle.op_board.specs.declared.diagnostic.NativePass.{NativePass}
use Rattle.op_board.specs.declared.diagnostic.NativePass.TheVariants.{Syntax, Semantic}
use Rattle.op_board.specs.Diagnostics.{in_order}
use Rattle.op_board.specs.Acts.{Act}
use Rattle.op_board.specs.Acts.Act.{Counts, Gives, Clears}

abbrev pub same_pass : NativePass → NativePass → Bool
same_pass Syntax Syntax = true
same_pass Semantic Semantic = true
same_pass p q = false

abbrev pub same_file : FileId → FileId → Bool
same_file f g = nat_eq f.0 g.0

-- the last generation that was given
abbrev pub last_generation : List Act → ℕ
last_generation [] = 0
last_generation (Counts ∷ before) = last_generation before + 1
last_generation (act ∷ before) = last_generation before

-- the file's cleared mark: the generation that was the last when the file was last cleared
abbrev pub cleared_mark : FileId → List Act → Option ℕ
cleared_mark file [] = None
cleared_mark file (Clears cleared ∷ before) = cond (same_file file cleared) (Some (last_generation before)) (cleared_mark file before)
cleared_mark file (act ∷ before) = cleared_mark file before

abbrev pub above : Option ℕ → ℕ → Bool
above None generation = true
above (Some mark) generation = nat_lt mark generation

-- above the cleared mark, and not below any generation that was accepted before
abbrev pub fits : Option ℕ → List ℕ → ℕ → Bool
fits mark accepted generation = above mark generation && list_all (λ a. nat_le a generation) accepted

-- the generations whose lists were accepted
abbrev pub accepted : NativePass → FileId → List Act → List ℕ
accepted pass file [] = []
accepted pass file (Gives p generation f list ∷ before) =
    cond (same_pass pass p && same_file file f && fits (cleared_mark file before) (accepted pass file before) generation)
    (generation ∷ accepted pass file before)
    (accepted pass file before)
accepted pass file (act ∷ before) = accepted pass file before

-- whether a list of this generation is accepted after a run
abbrev pub accepts : NativePass → FileId → List Act → ℕ → Bool
accepts pass file run generation = fits (cleared_mark file run) (accepted pass file run) generation

-- the last list that was accepted since the last clear
abbrev pub last_list : NativePass → FileId → List Act → List Diagnostic
last_list pass file [] = []
last_list pass file (Gives p generation f list ∷ before) =
    cond (same_pass pass p && same_file file f && accepts pass file before generation) list (last_list pass file before)
last_list pass file (Clears cleared ∷ before) = cond (same_file file cleared) [] (last_list pass file before)
last_list pass file (act ∷ before) = last_list pass file before

-- what is stored
abbrev pub stored : NativePass → FileId → List Act → List Diagnostic
stored pass file run = in_order (last_list pass file run)
