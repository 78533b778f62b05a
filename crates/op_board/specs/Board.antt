-- The board of diagnostics: lists by file for each pass of the analysis, and the files whose lists changed.
use Rattle.std.specs.Prelude.{ℕ, Bool, true, false, ◌&&◌, ◌+◌, not, List, [], ◌∷◌, ◌++◌, Option, None, Some, cond, nat_lt, nat_le, if◌then◌else◌}
use Rattle.std.specs.Ordering.{nat_cmp}
use Rattle.std.specs.Cmp.Lexicographic.{pointwise}
use Rattle.std.specs.FinMap as map
use Rattle.docs_vfs.specs.declared.file_kinds.FileId.{FileId}
use Rattle.lsp_types.specs.declared.diagnostic.Diagnostic.{Diagnostic}
use Rattle.op_board.specs.declared.diagnostic.NativePass.{NativePass}
use Rattle.op_board.specs.declared.diagnostic.NativePass.TheVariants.{Syntax, Semantic}
use Rattle.op_board.specs.declared.pass_list.PassList.{PassList}
use Rattle.lsp_types.specs.Diagnostics.{same_diagnostic}
use Rattle.op_board.specs.Diagnostics.{in_order}
use Rattle.op_board.specs.Checks.{Checks, checks_of, mark_checks}
use Rattle.op_board.specs.Marked.{Marked, mark_if}

abbrev pub Lists : Type 0
Lists = map.FinMap nat_cmp PassList

pub record Board : Type 0 where
  -- the last generation given
  pub generation : ℕ
  pub syntax : Lists
  pub semantic : Lists
  -- the generation that was the last when a file was cleared
  pub cleared : map.FinMap nat_cmp ℕ
  pub checks : Checks
  pub marked : Marked

abbrev pub new_board : Board
new_board = record { generation = 0; syntax = map.empty; semantic = map.empty; cleared = map.empty; checks = map.empty; marked = map.empty }

-- the greatest generation
unfoldable pub most_generations : ℕ
most_generations = 18446744073709551615

-- the next generation, where one is left
abbrev pub next_generation : Board → Option ℕ
next_generation b = if nat_lt b.generation most_generations then Some (b.generation + 1) else None

abbrev pub list_of : Option PassList → List Diagnostic
list_of None = []
list_of (Some stored) = stored.list

-- not below any generation that was accepted
abbrev pub is_recent : Option PassList → ℕ → Bool
is_recent None generation = true
is_recent (Some stored) generation = nat_le stored.accepted generation

-- above the generation of the file's last clear
abbrev pub is_above : Option ℕ → ℕ → Bool
is_above None generation = true
is_above (Some last) generation = nat_lt last generation

abbrev pub is_accepted : Option ℕ → Option PassList → ℕ → Bool
is_accepted cleared stored generation = is_above cleared generation && is_recent stored generation

abbrev pub differs : List Diagnostic → List Diagnostic → Bool
differs old new = not (pointwise same_diagnostic old new)

-- after a list was given for a file
abbrev pub set_list : Option ℕ → ℕ → FileId → List Diagnostic → Lists × Marked → Lists × Marked
set_list cleared generation file list (lists, marked) =
    cond (is_accepted cleared (map.get lists file.0) generation) (
      map.insert lists file.0 (record { accepted = generation; list = in_order list }),
      mark_if (differs (list_of (map.get lists file.0)) (in_order list)) file marked,
    ) (lists, marked)

-- after a list was given for each of these files, one after another
abbrev pub set_lists : map.FinMap nat_cmp ℕ → ℕ → List (FileId × List Diagnostic) → Lists × Marked → Lists × Marked
set_lists cleared generation [] both = both
set_lists cleared generation (given ∷ more) both =
    set_lists cleared generation more (set_list (map.get cleared given.0.0) generation given.0 given.1 both)

abbrev pub has_some : List Diagnostic → Bool
has_some [] = false
has_some (x ∷ xs) = true

abbrev pub clear_stored : FileId → Option PassList → Lists × Marked → Lists × Marked
clear_stored file None both = both
clear_stored file (Some stored) (lists, marked) =
    (map.insert lists file.0 (record { accepted = stored.accepted; list = [] }), mark_if (has_some stored.list) file marked)

-- after a file's list was emptied
abbrev pub clear_list : FileId → Lists × Marked → Lists × Marked
clear_list file (lists, marked) = clear_stored file (map.get lists file.0) (lists, marked)

abbrev pub lists_of : NativePass → Board → Lists
lists_of Syntax b = b.syntax
lists_of Semantic b = b.semantic

abbrev pub with_lists : NativePass → Lists × Marked → Board → Board
with_lists Syntax (lists, marked) b = record b { syntax = lists; marked = marked }
with_lists Semantic (lists, marked) b = record b { semantic = lists; marked = marked }

abbrev pub set_native : NativePass → ℕ → List (FileId × List Diagnostic) → Board → Board
set_native pass generation given b =
    with_lists pass (set_lists b.cleared generation given (lists_of pass b, b.marked)) b

-- after both lists of a file were emptied
abbrev pub clear_pass : NativePass → FileId → Board → Board
clear_pass pass file b = with_lists pass (clear_list file (lists_of pass b, b.marked)) b

abbrev pub clear_native : FileId → Board → Board
clear_native file b =
    let c = clear_pass Semantic file (clear_pass Syntax file b) in record c { cleared = map.insert c.cleared file.0 c.generation }

-- after a call changed the lists of checks
abbrev pub with_checks : Checks × Marked → Board → Board
with_checks (checks, marked) b = record b { checks = checks; marked = marked }

abbrev pub clear_all_checks : Board → Board
clear_all_checks b = record b { checks = map.empty; marked = mark_checks (map.values b.checks) b.marked }

abbrev pub diagnostics_of : FileId → Board → List Diagnostic
diagnostics_of file b =
    list_of (map.get b.syntax file.0) ++ list_of (map.get b.semantic file.0) ++ checks_of file b.checks
