-- The list that came last for a file in the last generation is the one that the board stores, unless the file was cleared since.
use Rattle.std.proofs.Common.{◌≡◌, ℕ, ◌+◌, ◌≤◌, ◌<◌, Bool, true, false, ◌&&◌, List, [], ◌∷◌, ◌++◌, refl, sym, ap, ◌∙◌, subst, arith}
use Rattle.std.specs.Prelude.{Option, None, Some, cond, nat_eq, nat_le}
use Rattle.std.specs.List.{list_all}
use Rattle.std.proofs.lemmas.Bool.{cond-false, eqb-true, eq-eqb, le-leb, leb-true, ltb-true}
use Rattle.docs_vfs.specs.Files.{Files}
use Rattle.docs_vfs.specs.declared.file_kinds.FileId.{FileId}
use Rattle.lsp_types.specs.declared.diagnostic.Diagnostic.{Diagnostic}
use Rattle.op_board.specs.Acts.{Act, after}
use Rattle.op_board.specs.Acts.Act.{Adds, Clears, Counts, Forgets, ForgetsAll, ForgetsIn, ForgetsOlder, ForgetsOlderIn, Gives, Takes}
use Rattle.op_board.specs.Runs.{above, accepted, accepts, cleared_mark, last_generation, last_list, same_file, same_pass}
use Rattle.op_board.specs.declared.diagnostic.NativePass.{NativePass}
use Rattle.op_board.specs.declared.diagnostic.NativePass.TheVariants.{Syntax, Semantic}
use Rattle.diagnostics_laws.proofs.KeyedBools.{and-both, and-left, and-right, by-cases, none-some, some-is, true-false}
use Rattle.diagnostics_laws.proofs.StoringGenerations.{AllFit}

-- ---- what came

abbrev pub Lists : Type 0
Lists = Option (List Diagnostic)

-- the last list that came of a generation
abbrev pub last_given : NativePass → ℕ → FileId → List Act → Lists
last_given pass g file [] = None
last_given pass g file (Gives p h f list ∷ before) =
    cond (same_pass pass p && same_file file f && nat_eq g h) (Some list) (last_given pass g file before)
last_given pass g file (act ∷ before) = last_given pass g file before

-- lists come of no later generation than the last one
abbrev pub InTime : List Act → Type 0
InTime [] = Unit {0}
InTime (Gives p h f list ∷ before) = (h ≤ last_generation before) × InTime before
InTime (act ∷ before) = InTime before

-- ---- generations that were accepted

abbrev Low : ℕ → List ℕ → Type 0
Low g [] = Unit {0}
Low g (a ∷ gs) = (a ≤ g) × Low g gs

low-if : (g : ℕ) (b : Bool) (a : ℕ) (gs : List ℕ) → a ≤ g → Low g gs → Low g (cond b (a ∷ gs) gs)
low-if g true a gs h k = (h, k)
low-if g false a gs h k = k

at-most : (a b c : ℕ) → a ≤ b → b ≤ c → a ≤ c
at-most a b c p q = omega (arith, p, q)

one-less : (a b : ℕ) → a + 1 ≤ b → a ≤ b
one-less a b h = omega (arith, h)

accepted-low : (pass : NativePass) (file : FileId) (g : ℕ) (run : List Act) → InTime run → last_generation run ≤ g → Low g (accepted pass file run)
accepted-low pass file g [] h low = tt
accepted-low pass file g (Counts ∷ run) h low = accepted-low pass file g run h (one-less (last_generation run) g low)
accepted-low pass file g (Gives p k f list ∷ run) h low =
    low-if g _ k (accepted pass file run) (at-most k (last_generation run) g h.0 low) (accepted-low pass file g run h.1 low)
accepted-low pass file g (Clears f ∷ run) h low = accepted-low pass file g run h low
accepted-low pass file g (Adds id k name e ∷ run) h low = accepted-low pass file g run h low
accepted-low pass file g (Forgets id ∷ run) h low = accepted-low pass file g run h low
accepted-low pass file g (ForgetsIn id name ∷ run) h low = accepted-low pass file g run h low
accepted-low pass file g (ForgetsOlder id k ∷ run) h low = accepted-low pass file g run h low
accepted-low pass file g (ForgetsOlderIn id name k ∷ run) h low = accepted-low pass file g run h low
accepted-low pass file g (ForgetsAll ∷ run) h low = accepted-low pass file g run h low
accepted-low pass file g (Takes ∷ run) h low = accepted-low pass file g run h low

low-all : (g : ℕ) (gs : List ℕ) → Low g gs → list_all (λ a. nat_le a g) gs ≡ true
low-all g [] h = refl
low-all g (a ∷ gs) h = and-both (nat_le a g) (list_all (λ a. nat_le a g) gs) (le-leb a g h.0) (low-all g gs h.1)

-- ---- no list of a generation that was not given

not-same : (a b : Bool) (g h : ℕ) → h < g → (a && b && nat_eq g h) ≡ false
not-same true true g h less = by-cases (nat_eq g h) (λ same. let is = eqb-true g h same in absurd (omega (arith, less, is))) (λ other. other)
not-same true false g h less = refl
not-same false b g h less = refl

none-given : (pass : NativePass) (g : ℕ) (file : FileId) (run : List Act) → InTime run → last_generation run < g → last_given pass g file run ≡ None
none-given pass g file [] h less = refl
none-given pass g file (Counts ∷ run) h less = none-given pass g file run h (omega (arith, less))
none-given pass g file (Gives p k f list ∷ run) h less =
    cond-false _ _ _ (not-same (same_pass pass p) (same_file file f) g k (let low = h.0 in omega (arith, low, less)))
    ∙ none-given pass g file run h.1 less
none-given pass g file (Clears f ∷ run) h less = none-given pass g file run h less
none-given pass g file (Adds id k name e ∷ run) h less = none-given pass g file run h less
none-given pass g file (Forgets id ∷ run) h less = none-given pass g file run h less
none-given pass g file (ForgetsIn id name ∷ run) h less = none-given pass g file run h less
none-given pass g file (ForgetsOlder id k ∷ run) h less = none-given pass g file run h less
none-given pass g file (ForgetsOlderIn id name k ∷ run) h less = none-given pass g file run h less
none-given pass g file (ForgetsAll ∷ run) h less = none-given pass g file run h less
none-given pass g file (Takes ∷ run) h less = none-given pass g file run h less

-- ---- what is stored

-- the list is the last one, and no list of an earlier generation is accepted any more
record Stays (g : ℕ) (list last : List Diagnostic) (gs : List ℕ) : Type 0 where
  is : last ≡ list
  newest : (h : ℕ) → list_all (λ a. nat_le a h) gs ≡ true → g ≤ h

-- by whether the list that comes is one of these, and of the generation
by-given : (t u v : Bool) (g h : ℕ) (list new last : List Diagnostic) (gs : List ℕ) (old : Lists) (fits : Bool) → v ≡ nat_eq g h → h ≤ g
    → cond (t && u && v) (Some new) old ≡ Some list → (t ≡ true → u ≡ true → v ≡ true → fits ≡ true)
    → (fits ≡ true → list_all (λ a. nat_le a h) gs ≡ true)
    → (old ≡ Some list → Stays g list last gs)
    → Stays g list (cond (t && u && fits) new last) (cond (t && u && fits) (h ∷ gs) gs)
by-given true true true g h list new last gs old true v_is low is fit all_low rest = record {
  is = some-is new list is;
  newest = λ k all. let same = eqb-true g h (sym v_is) in let first = leb-true h k (and-left (nat_le h k) _ all) in omega (arith, same, first);
}
by-given true true true g h list new last gs old false v_is low is fit all_low rest = true-false (sym (fit refl refl refl))
by-given true true false g h list new last gs old true v_is low is fit all_low rest =
    let most = (rest is).newest h (all_low refl) in
    true-false (sym (eq-eqb g h (omega (arith, most, low))) ∙ sym v_is)
by-given true true false g h list new last gs old false v_is low is fit all_low rest = rest is
by-given true false v g h list new last gs old fits v_is low is fit all_low rest = rest is
by-given false u v g h list new last gs old fits v_is low is fit all_low rest = rest is

by-clear : (b : Bool) (m g : ℕ) (mark : Option ℕ) (list last : List Diagnostic) (gs : List ℕ) → m ≡ g → above (cond b (Some m) mark) g ≡ true
    → (above mark g ≡ true → Stays g list last gs) → Stays g list (cond b [] last) gs
by-clear true m g mark list last gs same clear rest = let less = ltb-true m g clear in absurd (omega (arith, same, less))
by-clear false m g mark list last gs same clear rest = rest clear

stays : (pass : NativePass) (file : FileId) (g : ℕ) (list : List Diagnostic) (run : List Act) → InTime run → last_generation run ≡ g
    → last_given pass g file run ≡ Some list → above (cleared_mark file run) g ≡ true
    → Stays g list (last_list pass file run) (accepted pass file run)
stays pass file g list [] h last is clear = none-some list is
stays pass file g list (Counts ∷ run) h last is clear = none-some list (sym (none-given pass g file run h (omega (arith, last))) ∙ is)
stays pass file g list (Gives p k f new ∷ run) h last is clear =
    let low : k ≤ g = let first = h.0 in omega (arith, first, last) in
    by-given (same_pass pass p) (same_file file f) (nat_eq g k) g k list
    new (last_list pass file run) (accepted pass file run) (last_given pass g file run)
    (accepts pass file run k) refl low is
    (λ p_is f_is g_is. subst (λ n. accepts pass file run n ≡ true) (eqb-true g k g_is)
    (and-both (above (cleared_mark file run) g) _ clear
    (low-all g (accepted pass file run) (accepted-low pass file g run h.1 (omega (arith, last))))))
    (λ fits. and-right (above (cleared_mark file run) k) _ fits)
    (λ before. stays pass file g list run h.1 last before clear)
stays pass file g list (Clears f ∷ run) h last is clear =
    by-clear (same_file file f) (last_generation run) g (cleared_mark file run) list (last_list pass file run) (accepted pass file run) last clear
    (λ before. stays pass file g list run h last is before)
stays pass file g list (Adds id k name e ∷ run) h last is clear = stays pass file g list run h last is clear
stays pass file g list (Forgets id ∷ run) h last is clear = stays pass file g list run h last is clear
stays pass file g list (ForgetsIn id name ∷ run) h last is clear = stays pass file g list run h last is clear
stays pass file g list (ForgetsOlder id k ∷ run) h last is clear = stays pass file g list run h last is clear
stays pass file g list (ForgetsOlderIn id name k ∷ run) h last is clear = stays pass file g list run h last is clear
stays pass file g list (ForgetsAll ∷ run) h last is clear = stays pass file g list run h last is clear
stays pass file g list (Takes ∷ run) h last is clear = stays pass file g list run h last is clear

-- the list of the last generation that came last is the last that was accepted
pub batch-stays : (pass : NativePass) (file : FileId) (list : List Diagnostic) (run : List Act) → InTime run
    → last_given pass (last_generation run) file run ≡ Some list → above (cleared_mark file run) (last_generation run) ≡ true
    → last_list pass file run ≡ list
batch-stays pass file list run h is clear = (stays pass file (last_generation run) list run h refl is clear).is

-- ---- acts that fit come in time

pub fit-generation : (table : Files) (most : ℕ) (acts run : List Act) → AllFit table most acts → last_generation (acts ++ run) ≡ last_generation run
fit-generation table most [] run h = refl
fit-generation table most (Counts ∷ acts) run h = absurd h.0
fit-generation table most (Gives p g f l ∷ acts) run h = fit-generation table most acts run h.1
fit-generation table most (Clears f ∷ acts) run h = fit-generation table most acts run h.1
fit-generation table most (Adds id g name e ∷ acts) run h = fit-generation table most acts run h.1
fit-generation table most (Forgets id ∷ acts) run h = fit-generation table most acts run h.1
fit-generation table most (ForgetsIn id name ∷ acts) run h = fit-generation table most acts run h.1
fit-generation table most (ForgetsOlder id g ∷ acts) run h = fit-generation table most acts run h.1
fit-generation table most (ForgetsOlderIn id name g ∷ acts) run h = fit-generation table most acts run h.1
fit-generation table most (ForgetsAll ∷ acts) run h = fit-generation table most acts run h.1
fit-generation table most (Takes ∷ acts) run h = absurd h.0

pub fit-in-time : (table : Files) (acts run : List Act) → AllFit table (last_generation run) acts → InTime run → InTime (acts ++ run)
fit-in-time table [] run h k = k
fit-in-time table (Counts ∷ acts) run h k = absurd h.0
fit-in-time table (Gives p g f l ∷ acts) run h k =
    (subst (λ n. g ≤ n) (sym (fit-generation table (last_generation run) acts run h.1)) h.0.0, fit-in-time table acts run h.1 k)
fit-in-time table (Clears f ∷ acts) run h k = fit-in-time table acts run h.1 k
fit-in-time table (Adds id g name e ∷ acts) run h k = fit-in-time table acts run h.1 k
fit-in-time table (Forgets id ∷ acts) run h k = fit-in-time table acts run h.1 k
fit-in-time table (ForgetsIn id name ∷ acts) run h k = fit-in-time table acts run h.1 k
fit-in-time table (ForgetsOlder id g ∷ acts) run h k = fit-in-time table acts run h.1 k
fit-in-time table (ForgetsOlderIn id name g ∷ acts) run h k = fit-in-time table acts run h.1 k
fit-in-time table (ForgetsAll ∷ acts) run h k = fit-in-time table acts run h.1 k
fit-in-time table (Takes ∷ acts) run h k = absurd h.0

pub run-generation : (run : List Act) → (after run).generation ≡ last_generation run
run-generation [] = refl
run-generation (Counts ∷ run) = ap (λ n. n + 1) (run-generation run)
run-generation (Gives Syntax g f l ∷ run) = run-generation run
run-generation (Gives Semantic g f l ∷ run) = run-generation run
run-generation (Clears f ∷ run) = run-generation run
run-generation (Adds id g name e ∷ run) = run-generation run
run-generation (Forgets id ∷ run) = run-generation run
run-generation (ForgetsIn id name ∷ run) = run-generation run
run-generation (ForgetsOlder id g ∷ run) = run-generation run
run-generation (ForgetsOlderIn id name g ∷ run) = run-generation run
run-generation (ForgetsAll ∷ run) = run-generation run
run-generation (Takes ∷ run) = run-generation run
