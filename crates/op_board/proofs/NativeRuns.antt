-- What is stored of a file and pass after a run.
use Rattle.std.proofs.Common.{◌≡◌, ℕ, ◌+◌, ◌≤◌, Bool, true, false, ◌&&◌, List, [], ◌∷◌, ◌++◌, refl, ap, sym, ◌∙◌, arith}
use Rattle.std.specs.Prelude.{Option, None, Some, cond, nat_eq, nat_le}
use Rattle.std.specs.List.{list_all}
use Rattle.std.specs.Ordering.{nat_cmp}
use Rattle.std.specs.Cmp.{nat_cmp_total, unsigned_tied}
use Rattle.std.specs.FinMap as map
use Rattle.std.proofs.lemmas.Bool.{cond-true, cond-false, true≢false, eqb-true, leb-true, le-leb, and_parts, and_from}
use Rattle.docs_vfs.specs.declared.file_kinds.FileId.{FileId}
use Rattle.lsp_types.specs.declared.diagnostic.Diagnostic.{Diagnostic}
use Rattle.op_board.specs.declared.diagnostic.NativePass.{NativePass}
use Rattle.op_board.specs.declared.diagnostic.NativePass.TheVariants.{Syntax, Semantic}
use Rattle.op_board.specs.declared.pass_list.PassList.{PassList}
use Rattle.op_board.specs.Diagnostics.{in_order}
use Rattle.op_board.specs.Marked.{Marked, mark_if}
use Rattle.op_board.specs.Board.{Board, Lists, list_of, differs, is_recent, is_above, is_accepted, set_list, clear_list, clear_stored, lists_of, with_lists, set_lists, set_native}
use Rattle.op_board.specs.Acts.{Act, step, steps, after, gives}
use Rattle.op_board.specs.Acts.Act.{Counts, Gives, Clears, Adds, Forgets, ForgetsIn, ForgetsOlder, ForgetsOlderIn, ForgetsAll, Takes}
use Rattle.op_board.specs.Runs.{same_pass, same_file, last_generation, cleared_mark, above, fits, accepted, accepts, last_list, stored}

-- ---- what is kept of a file, by the accepted generations and the last list

abbrev pub entry_of : List ℕ → List Diagnostic → Option PassList
entry_of [] list = None
entry_of (a ∷ before) list = Some (record { accepted = a; list = in_order list })

-- none of them is above the first
abbrev pub Falls : List ℕ → Type 0
Falls [] = Unit {0}
Falls (a ∷ before) = list_all (λ b. nat_le b a) before ≡ true

all_below : (bs : List ℕ) (a g : ℕ) → a ≤ g → list_all (λ b. nat_le b a) bs ≡ true → list_all (λ b. nat_le b g) bs ≡ true
all_below [] a g le all = refl
all_below (b ∷ bs) a g le all =
    let parts = and_parts _ _ all in
    let low : b ≤ a = leb-true b a parts.0 in
    and_from _ _ (le-leb b g (omega (arith, low, le))) (all_below bs a g le parts.1)

recent_by : (x y : Bool) → (x ≡ true → y ≡ true) → x ≡ (x && y)
recent_by true y h = sym (h refl)
recent_by false y h = refl

recent_is : (gs : List ℕ) (l : List Diagnostic) (g : ℕ) → Falls gs → is_recent (entry_of gs l) g ≡ list_all (λ a. nat_le a g) gs
recent_is [] l g falls = refl
recent_is (a ∷ gs) l g falls = recent_by (nat_le a g) _ (λ is. all_below gs a g (leb-true a g is) falls)

above_is : (mark : Option ℕ) (g : ℕ) → is_above mark g ≡ above mark g
above_is None g = refl
above_is (Some m) g = refl

accepted_is : (mark : Option ℕ) (gs : List ℕ) (l : List Diagnostic) (g : ℕ) → Falls gs → is_accepted mark (entry_of gs l) g ≡ fits mark gs g
accepted_is mark gs l g falls = λ i. above_is mark g i && recent_is gs l g falls i

taken_in : (t : Bool) (gs : List ℕ) (l new : List Diagnostic) (g : ℕ)
    → cond t (Some (record { accepted = g; list = in_order new })) (entry_of gs l) ≡ entry_of (cond t (g ∷ gs) gs) (cond t new l)
taken_in true gs l new g = refl
taken_in false gs l new g = refl

falls_on : (t : Bool) (mark : Option ℕ) (gs : List ℕ) (g : ℕ) → (t ≡ true → fits mark gs g ≡ true) → Falls gs → Falls (cond t (g ∷ gs) gs)
falls_on true mark gs g fit falls = (and_parts _ _ (fit refl)).1
falls_on false mark gs g fit falls = falls

-- ---- the maps

at_put : {V : Type 0} (m : map.FinMap nat_cmp V) (k q : ℕ) (v : V) → map.get (map.insert m k v) q ≡ cond (nat_eq q k) (Some v) (map.get m q)
at_put m k q v = map.get-insert nat_cmp_total m k v q ∙ ap (λ b. cond b (Some v) (map.get m q)) (unsigned_tied q k)

-- a map whose entry at a file changes by a test there
put_if : (t here : Bool) (m : Lists) (k q : ℕ) (v : PassList) → nat_eq q k ≡ here
    → map.get (cond t (map.insert m k v) m) q ≡ cond (here && t) (Some v) (map.get m q)
put_if true true m k q v is = at_put m k q v ∙ cond-true _ _ _ is
put_if true false m k q v is = at_put m k q v ∙ cond-false _ _ _ is
put_if false true m k q v is = refl
put_if false false m k q v is = refl

first_of : {A B : Type 0} (t : Bool) (x y : A) (u v : B) → (cond {A = A × B} t (x, u) (y, v)).0 ≡ cond t x y
first_of true x y u v = refl
first_of false x y u v = refl

set_at : (mark : Option ℕ) (g : ℕ) (f : FileId) (l : List Diagnostic) (m : Lists) (marked : Marked) (q : ℕ)
    → map.get (set_list mark g f l (m, marked)).0 q
    ≡ cond (nat_eq q f.0 && is_accepted mark (map.get m f.0) g) (Some (record { accepted = g; list = in_order l })) (map.get m q)
set_at mark g f l m marked q =
    ap (λ (m : Lists). map.get m q) (first_of {A = Lists} {B = Marked} (is_accepted mark (map.get m f.0) g) (map.insert m f.0 (record { accepted = g; list = in_order l })) m (mark_if (differs (list_of (map.get m f.0)) (in_order l)) f marked) marked)
    ∙ put_if (is_accepted mark (map.get m f.0) g) (nat_eq q f.0) m f.0 q _ refl

-- an entry without its list
abbrev emptied : Option PassList → Option PassList
emptied None = None
emptied (Some s) = Some (record { accepted = s.accepted; list = [] })

clear_by : (here : Bool) (f : FileId) (m : Lists) (marked : Marked) (q : ℕ) (o : Option PassList) → map.get m f.0 ≡ o → nat_eq q f.0 ≡ here
    → map.get (clear_stored f o (m, marked)).0 q ≡ cond here (emptied o) (map.get m q)
clear_by true f m marked q None is here = ap (map.get m) (eqb-true _ _ here) ∙ is
clear_by false f m marked q None is here = refl
clear_by true f m marked q (Some s) is here = at_put m f.0 q _ ∙ cond-true _ _ _ here
clear_by false f m marked q (Some s) is here = at_put m f.0 q _ ∙ cond-false _ _ _ here

clear_at : (f : FileId) (m : Lists) (marked : Marked) (q : ℕ)
    → map.get (clear_list f (m, marked)).0 q ≡ cond (nat_eq q f.0) (emptied (map.get m f.0)) (map.get m q)
clear_at f m marked q = clear_by (nat_eq q f.0) f m marked q (map.get m f.0) refl refl

-- ---- the lists of a pass in the board

lists_with : (pass p : NativePass) (m : Lists) (marked : Marked) (b : Board) → lists_of pass (with_lists p (m, marked) b) ≡ cond (same_pass pass p) m (lists_of pass b)
lists_with Syntax Syntax m marked b = refl
lists_with Syntax Semantic m marked b = refl
lists_with Semantic Syntax m marked b = refl
lists_with Semantic Semantic m marked b = refl

cleared_with : (p : NativePass) (m : Lists) (marked : Marked) (b : Board) → (with_lists p (m, marked) b).cleared ≡ b.cleared
cleared_with Syntax m marked b = refl
cleared_with Semantic m marked b = refl

generation_with : (p : NativePass) (m : Lists) (marked : Marked) (b : Board) → (with_lists p (m, marked) b).generation ≡ b.generation
generation_with Syntax m marked b = refl
generation_with Semantic m marked b = refl

-- the lists of a pass, in a board with the same lists
same_lists : (pass : NativePass) (b c : Board) → b.syntax ≡ c.syntax → b.semantic ≡ c.semantic → lists_of pass b ≡ lists_of pass c
same_lists Syntax b c s t = s
same_lists Semantic b c s t = t

-- ---- the invariant

record Keeps (pass : NativePass) (file : FileId) (last : ℕ) (mark : Option ℕ) (gs : List ℕ) (list : List Diagnostic) (b : Board) : Type 0 where
  generation : b.generation ≡ last
  cleared : map.get b.cleared file.0 ≡ mark
  entry : map.get (lists_of pass b) file.0 ≡ entry_of gs list
  falls : Falls gs

abbrev KeepsRun : NativePass → FileId → List Act → Board → Type 0
KeepsRun pass file run b = Keeps pass file (last_generation run) (cleared_mark file run) (accepted pass file run) (last_list pass file run) b

by_test : (here : Bool) (m n : Lists) (q : ℕ) → map.get (cond here m n) q ≡ cond here (map.get m q) (map.get n q)
by_test true m n q = refl
by_test false m n q = refl

pass_is : (pass p : NativePass) → same_pass pass p ≡ true → pass ≡ p
pass_is Syntax Syntax e = refl
pass_is Semantic Semantic e = refl
pass_is Syntax Semantic e = absurd (true≢false (sym e))
pass_is Semantic Syntax e = absurd (true≢false (sym e))

third_of : (a b t : Bool) → (a && b && t) ≡ true → t ≡ true
third_of true true t e = e
third_of true false t e = absurd (true≢false (sym e))
third_of false b t e = absurd (true≢false (sym e))

given_is : (sp sf t u : Bool) (gs : List ℕ) (l new : List Diagnostic) (g : ℕ) (here there : Option PassList)
    → (sp ≡ true → here ≡ entry_of gs l) → there ≡ entry_of gs l → (sp ≡ true → sf ≡ true → u ≡ t)
    → cond sp (cond (sf && u) (Some (record { accepted = g; list = in_order new })) here) there
    ≡ entry_of (cond (sp && sf && t) (g ∷ gs) gs) (cond (sp && sf && t) new l)
given_is true true t u gs l new g here there is other same =
    ap (λ u. cond u (Some (record { accepted = g; list = in_order new })) here) (same refl refl)
    ∙ ap (cond t (Some (record { accepted = g; list = in_order new }))) (is refl)
    ∙ taken_in t gs l new g
given_is true false t u gs l new g here there is other same = is refl
given_is false sf t u gs l new g here there is other same = other

module _ (pass : NativePass) (file : FileId) where
  given : (p : NativePass) (g : ℕ) (f : FileId) (new : List Diagnostic) (before : List Act) (b : Board)
      → KeepsRun pass file before b → KeepsRun pass file (Gives p g f new ∷ before) (step (Gives p g f new) b)
  given p g f new before b k =
      let gs = accepted pass file before in
      let l = last_list pass file before in
      let mark = cleared_mark file before in
      let test = is_accepted (map.get b.cleared f.0) (map.get (lists_of p b) f.0) g in
      let set = set_list (map.get b.cleared f.0) g f new (lists_of p b, b.marked) in
      let here : same_pass pass p ≡ true → map.get (lists_of p b) file.0 ≡ entry_of gs l = λ e. ap (λ p. map.get (lists_of p b) file.0) (sym (pass_is pass p e)) ∙ k.entry in
      let same : same_pass pass p ≡ true → same_file file f ≡ true → test ≡ fits mark gs g =
      λ e h.
      ap (λ q. is_accepted (map.get b.cleared q) (map.get (lists_of p b) q) g) (sym (eqb-true file.0 f.0 h))
      ∙ (λ i. is_accepted (k.cleared i) (here e i) g)
      ∙ accepted_is mark gs l g k.falls in
      record {
        generation = generation_with p set.0 set.1 b ∙ k.generation;
        cleared = ap (λ m. map.get m file.0) (cleared_with p set.0 set.1 b) ∙ k.cleared;
        entry =
            ap (λ m. map.get m file.0) (lists_with pass p set.0 set.1 b)
            ∙ by_test (same_pass pass p) set.0 (lists_of pass b) file.0
            ∙ ap (λ o. cond (same_pass pass p) o (map.get (lists_of pass b) file.0)) (set_at (map.get b.cleared f.0) g f new (lists_of p b) b.marked file.0)
            ∙ given_is (same_pass pass p) (same_file file f) (fits mark gs g) test gs l new g _ _ here k.entry same;
        falls = falls_on (same_pass pass p && same_file file f && fits mark gs g) mark gs g (third_of (same_pass pass p) (same_file file f) (fits mark gs g)) k.falls;
      }

  emptied_is : (gs : List ℕ) (l : List Diagnostic) → emptied (entry_of gs l) ≡ entry_of gs []
  emptied_is [] l = refl
  emptied_is (g ∷ gs) l = refl

  cleared_is : (here : Bool) (gs : List ℕ) (l : List Diagnostic) (o n : Option PassList) → (here ≡ true → o ≡ entry_of gs l) → n ≡ entry_of gs l
      → cond here (emptied o) n ≡ entry_of gs (cond here [] l)
  cleared_is true gs l o n is other = ap emptied (is refl) ∙ emptied_is gs l
  cleared_is false gs l o n is other = other

  cleared_in : (f : FileId) (m : Lists) (marked : Marked) (gs : List ℕ) (l : List Diagnostic) → map.get m file.0 ≡ entry_of gs l
      → map.get (clear_list f (m, marked)).0 file.0 ≡ entry_of gs (cond (same_file file f) [] l)
  cleared_in f m marked gs l is =
      clear_at f m marked file.0
      ∙ cleared_is (same_file file f) gs l _ _ (λ h. ap (map.get m) (sym (eqb-true file.0 f.0 h)) ∙ is) is

  cleared_of : (f : FileId) (p : NativePass) (b : Board) (gs : List ℕ) (l : List Diagnostic) → map.get (lists_of p b) file.0 ≡ entry_of gs l
      → map.get (lists_of p (step (Clears f) b)) file.0 ≡ entry_of gs (cond (same_file file f) [] l)
  cleared_of f Syntax b gs l is = cleared_in f b.syntax b.marked gs l is
  cleared_of f Semantic b gs l is = cleared_in f b.semantic (clear_list f (b.syntax, b.marked)).1 gs l is

  clears : (f : FileId) (before : List Act) (b : Board) → KeepsRun pass file before b → KeepsRun pass file (Clears f ∷ before) (step (Clears f) b)
  clears f before b k = record {
    generation = k.generation;
    cleared =
        at_put b.cleared f.0 file.0 b.generation
        ∙ (λ i. cond (nat_eq file.0 f.0) (Some (k.generation i)) (k.cleared i));
    entry = cleared_of f pass b _ _ k.entry;
    falls = k.falls;
  }

  -- another act changes none of this
  other : (n : ℕ) (mark : Option ℕ) (gs : List ℕ) (l : List Diagnostic) (b c : Board)
      → c.generation ≡ b.generation → c.cleared ≡ b.cleared → c.syntax ≡ b.syntax → c.semantic ≡ b.semantic
      → Keeps pass file n mark gs l b → Keeps pass file n mark gs l c
  other n mark gs l b c g cl s t k = record {
    generation = g ∙ k.generation;
    cleared = ap (λ m. map.get m file.0) cl ∙ k.cleared;
    entry = ap (λ m. map.get m file.0) (same_lists pass c b s t) ∙ k.entry;
    falls = k.falls;
  }

  none_of : (p : NativePass) → map.get (lists_of p (after [])) file.0 ≡ None
  none_of Syntax = map.get-empty nat_cmp file.0
  none_of Semantic = map.get-empty nat_cmp file.0

  keeps : (run : List Act) → KeepsRun pass file run (after run)
  keeps [] = record {
    generation = refl;
    cleared = map.get-empty nat_cmp file.0;
    entry = none_of pass;
    falls = tt;
  }
  keeps (Counts ∷ before) =
      let k = keeps before in
      record {
        generation = ap (λ n. n + 1) k.generation;
        cleared = k.cleared;
        entry = ap (λ m. map.get m file.0) (same_lists pass (step Counts (after before)) (after before) refl refl) ∙ k.entry;
        falls = k.falls;
      }
  keeps (Gives p g f l ∷ before) = given p g f l before (after before) (keeps before)
  keeps (Clears f ∷ before) = clears f before (after before) (keeps before)
  keeps (Adds id g name e ∷ before) = other _ _ _ _ (after before) (step (Adds id g name e) (after before)) refl refl refl refl (keeps before)
  keeps (Forgets id ∷ before) = other _ _ _ _ (after before) (step (Forgets id) (after before)) refl refl refl refl (keeps before)
  keeps (ForgetsIn id name ∷ before) = other _ _ _ _ (after before) (step (ForgetsIn id name) (after before)) refl refl refl refl (keeps before)
  keeps (ForgetsOlder id g ∷ before) = other _ _ _ _ (after before) (step (ForgetsOlder id g) (after before)) refl refl refl refl (keeps before)
  keeps (ForgetsOlderIn id name g ∷ before) = other _ _ _ _ (after before) (step (ForgetsOlderIn id name g) (after before)) refl refl refl refl (keeps before)
  keeps (ForgetsAll ∷ before) = other _ _ _ _ (after before) (step ForgetsAll (after before)) refl refl refl refl (keeps before)
  keeps (Takes ∷ before) = other _ _ _ _ (after before) (step Takes (after before)) refl refl refl refl (keeps before)

  listed_is : (gs : List ℕ) (l : List Diagnostic) → (gs ≡ [] → l ≡ []) → list_of (entry_of gs l) ≡ in_order l
  listed_is [] l none = sym (ap in_order (none refl))
  listed_is (g ∷ gs) l none = refl

  -- where no list was accepted, there is none
  none_taken : (t here : Bool) (g : ℕ) (gs : List ℕ) (new l : List Diagnostic) → (gs ≡ [] → l ≡ []) → cond t (g ∷ gs) gs ≡ [] → cond t new l ≡ []
  none_taken true here g gs new l none e = absurd cc
  none_taken false here g gs new l none e = none e

  none_cleared : (here : Bool) (l : List Diagnostic) → l ≡ [] → cond here [] l ≡ []
  none_cleared true l e = refl
  none_cleared false l e = e

  none : (run : List Act) → accepted pass file run ≡ [] → last_list pass file run ≡ []
  none [] e = refl
  none (Counts ∷ before) e = none before e
  none (Gives p g f l ∷ before) e = none_taken _ true g _ l _ (none before) e
  none (Clears f ∷ before) e = none_cleared (same_file file f) _ (none before e)
  none (Adds id g name entry ∷ before) e = none before e
  none (Forgets id ∷ before) e = none before e
  none (ForgetsIn id name ∷ before) e = none before e
  none (ForgetsOlder id g ∷ before) e = none before e
  none (ForgetsOlderIn id name g ∷ before) e = none before e
  none (ForgetsAll ∷ before) e = none before e
  none (Takes ∷ before) e = none before e

  -- whether a list that comes is accepted
  pub accepts_is : (run : List Act) (g : ℕ) → is_accepted (map.get (after run).cleared file.0) (map.get (lists_of pass (after run)) file.0) g ≡ accepts pass file run g
  accepts_is run g =
      let k = keeps run in
      (λ i. is_accepted (k.cleared i) (k.entry i) g) ∙ accepted_is (cleared_mark file run) (accepted pass file run) (last_list pass file run) g k.falls

  -- what is stored after a run
  pub stored_is : (run : List Act) → list_of (map.get (lists_of pass (after run)) file.0) ≡ stored pass file run
  stored_is run = ap list_of (keeps run).entry ∙ listed_is (accepted pass file run) (last_list pass file run) (none run)

-- ---- a call that gives several lists

with_both : (p : NativePass) (x : Lists × Marked) (b : Board) → (lists_of p (with_lists p x b), (with_lists p x b).marked) ≡ x
with_both Syntax x b = refl
with_both Semantic x b = refl

with_twice : (p : NativePass) (x y : Lists × Marked) (b : Board) → with_lists p y (with_lists p x b) ≡ with_lists p y b
with_twice Syntax x y b = refl
with_twice Semantic x y b = refl

with_own : (p : NativePass) (b : Board) → with_lists p (lists_of p b, b.marked) b ≡ b
with_own Syntax b = refl
with_own Semantic b = refl

pub gives_is : (p : NativePass) (g : ℕ) (given : List (FileId × List Diagnostic)) (run : List Act) (start : Board)
    → set_native p g given (steps run start) ≡ steps (gives p g given run) start
gives_is p g [] run start = with_own p (steps run start)
gives_is p g (x ∷ more) run start =
    let b = steps run start in
    let first = set_list (map.get b.cleared x.0.0) g x.0 x.1 (lists_of p b, b.marked) in
    let c = with_lists p first b in
    sym (
    (λ i. with_lists p (set_lists (cleared_with p first.0 first.1 b i) g more (with_both p first b i)) c)
    ∙ with_twice p first (set_lists b.cleared g more first) b
    )
    ∙ gives_is p g more (Gives p g x.0 x.1 ∷ run) start

-- a run after a run
pub continued : (more run : List Act) (start : Board) → steps more (steps run start) ≡ steps (more ++ run) start
continued [] run start = refl
continued (act ∷ more) run start = ap (step act) (continued more run start)
