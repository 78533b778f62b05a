-- No list that the board stores, and no mark of a clear, is of a later generation than the last one.
use Rattle.std.proofs.Common.{◌≡◌, ℕ, ◌+◌, ◌≤◌, Bool, true, false, List, [], ◌∷◌, ◌++◌, refl, sym, ap, ◌∙◌, subst, arith}
use Rattle.std.specs.Prelude.{Option, None, Some, cond}
use Rattle.std.specs.Ordering.{eq_by_cmp, nat_cmp}
use Rattle.std.specs.Cmp.{nat_cmp_total}
use Rattle.std.specs.FinMap as map
use Rattle.docs_vfs.specs.Files.{Files, path_at}
use Rattle.docs_vfs.specs.declared.file_kinds.FileId.{FileId}
use Rattle.lsp_types.specs.declared.diagnostic.Diagnostic.{Diagnostic}
use Rattle.op_board.specs.Acts.{Act, step, steps}
use Rattle.op_board.specs.Acts.Act.{Adds, Clears, Counts, Forgets, ForgetsAll, ForgetsIn, ForgetsOlder, ForgetsOlderIn, Gives, Takes}
use Rattle.op_board.specs.Board.{Board, Lists, clear_list, clear_stored, is_accepted, lists_of, new_board, set_list}
use Rattle.op_board.specs.Marked.{Marked}
use Rattle.op_board.specs.declared.pass_list.PassList.{PassList}
use Rattle.op_board.specs.declared.diagnostic.NativePass.{NativePass}
use Rattle.op_board.specs.declared.diagnostic.NativePass.TheVariants.{Syntax, Semantic}
use Rattle.diagnostics_laws.proofs.KeyedBools.{none-some, some-is}
use Rattle.diagnostics_laws.proofs.StoringRuns.{TakesNone}

-- ---- acts that fit a session

-- a file that has a path
abbrev pub IsKnown : Files → FileId → Type 0
IsKnown table file = (path : List ℕ) × (path_at table file ≡ Some path)

-- what may come of an event: neither a generation is given nor are marks taken, lists are of no later generation than this, and files have paths
abbrev pub Fits : Files → ℕ → Act → Type 0
Fits table most Counts = ⊥
Fits table most (Gives pass generation file list) = (generation ≤ most) × IsKnown table file
Fits table most (Adds id generation name entry) = IsKnown table entry.file
Fits table most Takes = ⊥
Fits table most act = Unit {0}

abbrev pub AllFit : Files → ℕ → List Act → Type 0
AllFit table most [] = Unit {0}
AllFit table most (act ∷ acts) = Fits table most act × AllFit table most acts

pub all-fit-on : (table : Files) (most : ℕ) (more acts : List Act) → AllFit table most more → AllFit table most acts
    → AllFit table most (more ++ acts)
all-fit-on table most [] acts h k = k
all-fit-on table most (act ∷ more) acts h k = (h.0, all-fit-on table most more acts h.1 k)

-- a table has all paths of an older one
abbrev pub Grows : Files → Files → Type 0
Grows t u = (file : FileId) (path : List ℕ) → path_at t file ≡ Some path → path_at u file ≡ Some path

fit-grown : (t u : Files) (most : ℕ) (act : Act) → Grows t u → Fits t most act → Fits u most act
fit-grown t u most Counts grows h = h
fit-grown t u most (Gives pass g file list) grows h = (h.0, (h.1.0, grows file h.1.0 h.1.1))
fit-grown t u most (Clears file) grows h = tt
fit-grown t u most (Adds id g name entry) grows h = (h.0, grows entry.file h.0 h.1)
fit-grown t u most (Forgets id) grows h = tt
fit-grown t u most (ForgetsIn id name) grows h = tt
fit-grown t u most (ForgetsOlder id g) grows h = tt
fit-grown t u most (ForgetsOlderIn id name g) grows h = tt
fit-grown t u most ForgetsAll grows h = tt
fit-grown t u most Takes grows h = h

pub all-fit-grown : (t u : Files) (most : ℕ) (acts : List Act) → Grows t u → AllFit t most acts → AllFit u most acts
all-fit-grown t u most [] grows h = tt
all-fit-grown t u most (act ∷ acts) grows h = (fit-grown t u most act grows h.0, all-fit-grown t u most acts grows h.1)

pub fit-takes-none : (table : Files) (most : ℕ) (acts : List Act) → AllFit table most acts → TakesNone acts
fit-takes-none table most [] h = tt
fit-takes-none table most (Counts ∷ acts) h = absurd h.0
fit-takes-none table most (Gives pass g file list ∷ acts) h = fit-takes-none table most acts h.1
fit-takes-none table most (Clears file ∷ acts) h = fit-takes-none table most acts h.1
fit-takes-none table most (Adds id g name entry ∷ acts) h = fit-takes-none table most acts h.1
fit-takes-none table most (Forgets id ∷ acts) h = fit-takes-none table most acts h.1
fit-takes-none table most (ForgetsIn id name ∷ acts) h = fit-takes-none table most acts h.1
fit-takes-none table most (ForgetsOlder id g ∷ acts) h = fit-takes-none table most acts h.1
fit-takes-none table most (ForgetsOlderIn id name g ∷ acts) h = fit-takes-none table most acts h.1
fit-takes-none table most (ForgetsAll ∷ acts) h = fit-takes-none table most acts h.1
fit-takes-none table most (Takes ∷ acts) h = absurd h.0

-- ---- generations

abbrev AreLow : ℕ → Lists → Type 0
AreLow most lists = (file : ℕ) (list : PassList) → map.get lists file ≡ Some list → list.accepted ≤ most

pub record IsTimely (b : Board) : Type 0 where
  pub stored : (pass : NativePass) (file : ℕ) (list : PassList) → map.get (lists_of pass b) file ≡ Some list → list.accepted ≤ b.generation
  pub cleared : (file last : ℕ) → map.get b.cleared file ≡ Some last → last ≤ b.generation

put-low-by : (b : Bool) (most : ℕ) (old : Option PassList) (new list : PassList) → new.accepted ≤ most → (old ≡ Some list → list.accepted ≤ most)
    → cond b (Some new) old ≡ Some list → list.accepted ≤ most
put-low-by true most old new list low h is = subst (λ (l : PassList). l.accepted ≤ most) (some-is new list is) low
put-low-by false most old new list low h is = h is

put-low : (most : ℕ) (lists : Lists) (k : ℕ) (new : PassList) → new.accepted ≤ most → AreLow most lists → AreLow most (map.insert lists k new)
put-low most lists k new low h = λ file list is.
    put-low-by (eq_by_cmp nat_cmp file k) most (map.get lists file) new list
    low (h file list) (sym (map.get-insert nat_cmp_total lists k new file) ∙ is)

set-low-by : (b : Bool) (most : ℕ) (x y : Lists) (u v : Marked) → AreLow most x → AreLow most y
    → AreLow most (cond {A = Lists × Marked} b (x, u) (y, v)).0
set-low-by true most x y u v h k = h
set-low-by false most x y u v h k = k

set-low : (most : ℕ) (cleared : Option ℕ) (g : ℕ) (f : FileId) (l : List Diagnostic) (lists : Lists) (marked : Marked) → g ≤ most → AreLow most lists
    → AreLow most (set_list cleared g f l (lists, marked)).0
set-low most cleared g f l lists marked low h =
    set-low-by (is_accepted cleared (map.get lists f.0) g) most (map.insert lists f.0 _) lists _ marked (put-low most lists f.0 _ low h) h

clear-low-by : (most : ℕ) (f : FileId) (o : Option PassList) (lists : Lists) (marked : Marked) → map.get lists f.0 ≡ o → AreLow most lists
    → AreLow most (clear_stored f o (lists, marked)).0
clear-low-by most f None lists marked is h = h
clear-low-by most f (Some s) lists marked is h = put-low most lists f.0 _ (h f.0 s is) h

clear-low : (most : ℕ) (f : FileId) (lists : Lists) (marked : Marked) → AreLow most lists → AreLow most (clear_list f (lists, marked)).0
clear-low most f lists marked h = clear-low-by most f (map.get lists f.0) lists marked refl h

put-mark-by : (b : Bool) (most : ℕ) (old : Option ℕ) (new last : ℕ) → new ≤ most → (old ≡ Some last → last ≤ most) → cond b (Some new) old ≡ Some last
    → last ≤ most
put-mark-by true most old new last low h is = subst (λ n. n ≤ most) (some-is new last is) low
put-mark-by false most old new last low h is = h is

itself : (n : ℕ) → n ≤ n
itself n = omega arith

one-more : (a n : ℕ) → a ≤ n → a ≤ n + 1
one-more a n h = omega (arith, h)

-- a board with the same lists, marks of clears and generation
other-timely : (b c : Board) → c.syntax ≡ b.syntax → c.semantic ≡ b.semantic → c.cleared ≡ b.cleared → c.generation ≡ b.generation → IsTimely b
    → IsTimely c
other-timely b c syntax_is semantic_is cleared_is generation_is h = record {
  stored = λ pass. by-pass pass;
  cleared = λ file last is.
      subst (λ n. last ≤ n) (sym generation_is) (h.cleared file last (ap (λ (m : map.FinMap nat_cmp ℕ). map.get m file) (sym cleared_is) ∙ is));
}
  where
    by-pass : (pass : NativePass) (file : ℕ) (list : PassList) → map.get (lists_of pass c) file ≡ Some list → list.accepted ≤ c.generation
    by-pass Syntax = λ file list is.
        subst (λ n. list.accepted ≤ n) (sym generation_is) (h.stored Syntax file list (ap (λ (m : Lists). map.get m file) (sym syntax_is) ∙ is))
    by-pass Semantic = λ file list is.
        subst (λ n. list.accepted ≤ n) (sym generation_is) (h.stored Semantic file list (ap (λ (m : Lists). map.get m file) (sym semantic_is) ∙ is))

-- lists of no later generation keep it so
pub act-timely : (table : Files) (act : Act) (b : Board) → Fits table b.generation act → IsTimely b → IsTimely (step act b)
act-timely table Counts b fits h = absurd fits
act-timely table (Gives Syntax g f l) b fits h = record {
  stored = λ pass. by-pass pass;
  cleared = h.cleared;
}
  where
    by-pass : (pass : NativePass) (file : ℕ) (list : PassList) → map.get (lists_of pass (step (Gives Syntax g f l) b)) file ≡ Some list
        → list.accepted ≤ b.generation
    by-pass Syntax = set-low b.generation (map.get b.cleared f.0) g f l b.syntax b.marked fits.0 (h.stored Syntax)
    by-pass Semantic = h.stored Semantic
act-timely table (Gives Semantic g f l) b fits h = record {
  stored = λ pass. by-pass pass;
  cleared = h.cleared;
}
  where
    by-pass : (pass : NativePass) (file : ℕ) (list : PassList) → map.get (lists_of pass (step (Gives Semantic g f l) b)) file ≡ Some list
        → list.accepted ≤ b.generation
    by-pass Syntax = h.stored Syntax
    by-pass Semantic = set-low b.generation (map.get b.cleared f.0) g f l b.semantic b.marked fits.0 (h.stored Semantic)
act-timely table (Clears f) b fits h = record {
  stored = λ pass. by-pass pass;
  cleared = λ file last is.
      put-mark-by (eq_by_cmp nat_cmp file f.0) b.generation (map.get b.cleared file) b.generation last (itself b.generation) (h.cleared file last)
      (sym (map.get-insert nat_cmp_total b.cleared f.0 b.generation file) ∙ is);
}
  where
    by-pass : (pass : NativePass) (file : ℕ) (list : PassList) → map.get (lists_of pass (step (Clears f) b)) file ≡ Some list
        → list.accepted ≤ b.generation
    by-pass Syntax = clear-low b.generation f b.syntax b.marked (h.stored Syntax)
    by-pass Semantic = clear-low b.generation f b.semantic (clear_list f (b.syntax, b.marked)).1 (h.stored Semantic)
act-timely table (Adds id g name entry) b fits h = other-timely b (step (Adds id g name entry) b) refl refl refl refl h
act-timely table (Forgets id) b fits h = other-timely b (step (Forgets id) b) refl refl refl refl h
act-timely table (ForgetsIn id name) b fits h = other-timely b (step (ForgetsIn id name) b) refl refl refl refl h
act-timely table (ForgetsOlder id g) b fits h = other-timely b (step (ForgetsOlder id g) b) refl refl refl refl h
act-timely table (ForgetsOlderIn id name g) b fits h = other-timely b (step (ForgetsOlderIn id name g) b) refl refl refl refl h
act-timely table ForgetsAll b fits h = other-timely b (step ForgetsAll b) refl refl refl refl h
act-timely table Takes b fits h = absurd fits

count-generation : (table : Files) (most : ℕ) (act : Act) (b : Board) → Fits table most act → (step act b).generation ≡ b.generation
count-generation table most Counts b fits = absurd fits
count-generation table most (Gives Syntax g f l) b fits = refl
count-generation table most (Gives Semantic g f l) b fits = refl
count-generation table most (Clears f) b fits = refl
count-generation table most (Adds id g name entry) b fits = refl
count-generation table most (Forgets id) b fits = refl
count-generation table most (ForgetsIn id name) b fits = refl
count-generation table most (ForgetsOlder id g) b fits = refl
count-generation table most (ForgetsOlderIn id name g) b fits = refl
count-generation table most ForgetsAll b fits = refl
count-generation table most Takes b fits = absurd fits

-- no generation is given
pub steps-generation : (table : Files) (most : ℕ) (acts : List Act) (b : Board) → AllFit table most acts → (steps acts b).generation ≡ b.generation
steps-generation table most [] b fits = refl
steps-generation table most (act ∷ acts) b fits =
    count-generation table most act (steps acts b) fits.0 ∙ steps-generation table most acts b fits.1

pub steps-timely : (table : Files) (acts : List Act) (b : Board) → AllFit table b.generation acts → IsTimely b → IsTimely (steps acts b)
steps-timely table [] b fits h = h
steps-timely table (act ∷ acts) b fits h =
    act-timely table act (steps acts b)
    (subst (λ n. Fits table n act) (sym (steps-generation table b.generation acts b fits.1)) fits.0) (steps-timely table acts b fits.1 h)

pub counts-timely : (b : Board) → IsTimely b → IsTimely (step Counts b)
counts-timely b h = record {
  stored = λ pass. by-pass pass;
  cleared = λ file last is. one-more last b.generation (h.cleared file last is);
}
  where
    by-pass : (pass : NativePass) (file : ℕ) (list : PassList) → map.get (lists_of pass (step Counts b)) file ≡ Some list
        → list.accepted ≤ b.generation + 1
    by-pass Syntax = λ file list is. one-more list.accepted b.generation (h.stored Syntax file list is)
    by-pass Semantic = λ file list is. one-more list.accepted b.generation (h.stored Semantic file list is)

pub takes-timely : (b : Board) → IsTimely b → IsTimely (step Takes b)
takes-timely b h = other-timely b (step Takes b) refl refl refl refl h

pub new-timely : IsTimely new_board
new-timely = record {
  stored = λ pass. by-pass pass;
  cleared = λ file last is. none-some last (sym (map.get-empty nat_cmp file) ∙ is);
}
  where
    by-pass : (pass : NativePass) (file : ℕ) (list : PassList) → map.get (lists_of pass new_board) file ≡ Some list → list.accepted ≤ 0
    by-pass Syntax = λ file list is. none-some list (sym (map.get-empty nat_cmp file) ∙ is)
    by-pass Semantic = λ file list is. none-some list (sym (map.get-empty nat_cmp file) ∙ is)
