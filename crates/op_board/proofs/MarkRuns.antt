-- The acts of the passes mark a file where they change what is stored of it.
use Rattle.std.proofs.Common.{◌≡◌, ℕ, Bool, true, false, ◌&&◌, ◌||◌, List, [], ◌∷◌, refl, ap, sym, ◌∙◌}
use Rattle.std.specs.Prelude.{Option, None, Some, cond, not, is_some, nat_eq}
use Rattle.std.specs.Cmp.{nat_cmp_total, unsigned_tied}
use Rattle.std.specs.Cmp.Lexicographic.{pointwise, pointwise_decides}
use Rattle.std.specs.FinMap as map
use Rattle.std.proofs.lemmas.Bool.{eqb-true}
use Rattle.docs_vfs.specs.declared.file_kinds.FileId.{FileId}
use Rattle.lsp_types.specs.declared.diagnostic.Diagnostic.{Diagnostic}
use Rattle.op_board.specs.declared.diagnostic.NativePass.{NativePass}
use Rattle.op_board.specs.declared.diagnostic.NativePass.TheVariants.{Syntax, Semantic}
use Rattle.op_board.specs.declared.pass_list.PassList.{PassList}
use Rattle.lsp_types.specs.Diagnostics.{same_diagnostic, diagnostic_told}
use Rattle.op_board.specs.Diagnostics.{in_order}
use Rattle.op_board.specs.Marked.{Marked, mark, mark_if}
use Rattle.op_board.specs.Board.{Board, Lists, list_of, differs, is_accepted, set_list, clear_list, clear_stored, has_some, lists_of, with_lists}
use Rattle.op_board.specs.Acts.{Act, after}
use Rattle.op_board.specs.Acts.Act.{Gives, Clears}
use Rattle.op_board.specs.Runs.{same_file, accepts, last_list, stored}
use Rattle.op_board.proofs.NativeRuns.{accepts_is, stored_is}

abbrev pub differ : List Diagnostic → List Diagnostic → Bool
differ old new = not (pointwise same_diagnostic old new)

-- whether a file is marked
abbrev pub is_marked : FileId → Board → Bool
is_marked file b = is_some (map.get b.marked file.0)

-- whether an act changes what is stored of the file, by either pass
abbrev pub changes : FileId → Act → List Act → Bool
changes file act before =
    differ (stored Syntax file before) (stored Syntax file (act ∷ before)) || differ (stored Semantic file before) (stored Semantic file (act ∷ before))

-- ---- one mark

mark_at : (f : FileId) (m : Marked) (q : ℕ) → map.get (mark f m) q ≡ cond (nat_eq q f.0) (Some tt) (map.get m q)
mark_at f m q = map.get-insert nat_cmp_total m f.0 tt q ∙ ap (λ b. cond b (Some tt) (map.get m q)) (unsigned_tied q f.0)

some_by : (here : Bool) (o : Option (Unit {0})) → is_some (cond here (Some tt) o) ≡ (here || is_some o)
some_by true o = refl
some_by false o = refl

pub marked_by : (f : FileId) (m : Marked) (q : ℕ) → is_some (map.get (mark f m) q) ≡ (nat_eq q f.0 || is_some (map.get m q))
marked_by f m q = ap is_some (mark_at f m q) ∙ some_by (nat_eq q f.0) (map.get m q)

pub and_true : (b : Bool) → b ≡ (b && true)
and_true true = refl
and_true false = refl

or_none : (a : Bool) → (a || false) ≡ a
or_none true = refl
or_none false = refl

none_and : (b x : Bool) → x ≡ ((b && false) || x)
none_and true x = refl
none_and false x = refl

pub marked_if : (t : Bool) (f : FileId) (m : Marked) (q : ℕ) → is_some (map.get (mark_if t f m) q) ≡ ((nat_eq q f.0 && t) || is_some (map.get m q))
marked_if true f m q = marked_by f m q ∙ ap (λ b. b || is_some (map.get m q)) (and_true (nat_eq q f.0))
marked_if false f m q = none_and (nat_eq q f.0) _

-- ---- lists that differ

pub itself : (x : List Diagnostic) → differ x x ≡ false
itself x = ap not ((pointwise_decides diagnostic_told x x).1 refl)

given_differs : (here t : Bool) (last new : List Diagnostic)
    → differ (in_order last) (in_order (cond (here && t) new last)) ≡ (here && (t && differ (in_order last) (in_order new)))
given_differs true true last new = refl
given_differs true false last new = itself (in_order last)
given_differs false t last new = itself (in_order last)

empty_differs : (x : List Diagnostic) → differ x [] ≡ has_some x
empty_differs [] = refl
empty_differs (d ∷ ds) = refl

clear_differs : (here : Bool) (last : List Diagnostic) → differ (in_order last) (in_order (cond here [] last)) ≡ (here && has_some (in_order last))
clear_differs true last = empty_differs (in_order last)
clear_differs false last = itself (in_order last)

-- ---- a list that comes

set_marks : (a d : Bool) (f : FileId) (m : Marked) (q : ℕ) → is_some (map.get (cond a (mark_if d f m) m) q) ≡ ((nat_eq q f.0 && (a && d)) || is_some (map.get m q))
set_marks true d f m q = marked_if d f m q
set_marks false d f m q = none_and (nat_eq q f.0) _

second_of : {A B : Type 0} (t : Bool) (x y : A) (u v : B) → (cond {A = A × B} t (x, u) (y, v)).1 ≡ cond t u v
second_of true x y u v = refl
second_of false x y u v = refl

here_same : (here a b : Bool) → (here ≡ true → a ≡ b) → (here && a) ≡ (here && b)
here_same true a b same = same refl
here_same false a b same = refl

marked_with : (p : NativePass) (x : Lists × Marked) (b : Board) → (with_lists p x b).marked ≡ x.1
marked_with Syntax x b = refl
marked_with Semantic x b = refl

changes_given : (file : FileId) (p : NativePass) (g : ℕ) (f : FileId) (new : List Diagnostic) (before : List Act)
    → changes file (Gives p g f new) before ≡ (same_file file f && (accepts p file before g && differ (stored p file before) (in_order new)))
changes_given file Syntax g f new before =
    (λ i. given_differs (same_file file f) (accepts Syntax file before g) (last_list Syntax file before) new i || itself (stored Semantic file before) i)
    ∙ or_none _
changes_given file Semantic g f new before =
    (λ i. itself (stored Syntax file before) i || given_differs (same_file file f) (accepts Semantic file before g) (last_list Semantic file before) new i)

pub given_marks : (file : FileId) (p : NativePass) (g : ℕ) (f : FileId) (new : List Diagnostic) (before : List Act)
    → is_marked file (after (Gives p g f new ∷ before)) ≡ (changes file (Gives p g f new) before || is_marked file (after before))
given_marks file p g f new before =
    let b = after before in
    let ls = lists_of p b in
    let test = is_accepted (map.get b.cleared f.0) (map.get ls f.0) g in
    let apart = differs (list_of (map.get ls f.0)) (in_order new) in
    let set = set_list (map.get b.cleared f.0) g f new (ls, b.marked) in
    ap (λ (m : Marked). is_some (map.get m file.0)) (
    marked_with p set b
    ∙ second_of {A = Lists} {B = Marked} test (map.insert ls f.0 (record { accepted = g; list = in_order new })) ls (mark_if apart f b.marked) b.marked
    )
    ∙ set_marks test apart f b.marked file.0
    ∙ ap (λ t. t || is_marked file b) (
    here_same (same_file file f) (test && apart) (accepts p file before g && differ (stored p file before) (in_order new)) (λ h.
    ap (λ q. is_accepted (map.get b.cleared q) (map.get ls q) g && differs (list_of (map.get ls q)) (in_order new)) (sym (eqb-true file.0 f.0 h))
    ∙ (λ i. accepts_is p file before g i && differ (stored_is p file before i) (in_order new)))
    ∙ sym (changes_given file p g f new before)
    )

-- ---- a clear

clear_marks : (f : FileId) (o : Option PassList) (ls : Lists) (m : Marked) (q : ℕ)
    → is_some (map.get (clear_stored f o (ls, m)).1 q) ≡ ((nat_eq q f.0 && has_some (list_of o)) || is_some (map.get m q))
clear_marks f None ls m q = none_and (nat_eq q f.0) _
clear_marks f (Some s) ls m q = marked_if (has_some s.list) f m q

pub turned : (a b m : Bool) → (b || (a || m)) ≡ ((a || b) || m)
turned true true m = refl
turned true false m = refl
turned false true m = refl
turned false false m = refl

clear_marks_is : (file f : FileId) (p : NativePass) (before : List Act)
    → (same_file file f && has_some (list_of (map.get (lists_of p (after before)) f.0))) ≡ differ (stored p file before) (stored p file (Clears f ∷ before))
clear_marks_is file f p before =
    here_same (same_file file f) _ _ (λ h.
    ap (λ q. has_some (list_of (map.get (lists_of p (after before)) q))) (sym (eqb-true file.0 f.0 h)) ∙ ap has_some (stored_is p file before))
    ∙ sym (clear_differs (same_file file f) (last_list p file before))

pub clears_mark : (file f : FileId) (before : List Act)
    → is_marked file (after (Clears f ∷ before)) ≡ (changes file (Clears f) before || is_marked file (after before))
clears_mark file f before =
    let b = after before in
    let first = clear_list f (b.syntax, b.marked) in
    clear_marks f (map.get b.semantic f.0) b.semantic first.1 file.0
    ∙ ap (λ t. (same_file file f && has_some (list_of (map.get b.semantic f.0))) || t) (clear_marks f (map.get b.syntax f.0) b.syntax b.marked file.0)
    ∙ turned (same_file file f && has_some (list_of (map.get b.syntax f.0))) (same_file file f && has_some (list_of (map.get b.semantic f.0))) (is_marked file b)
    ∙ (λ i. (clear_marks_is file f Syntax before i || clear_marks_is file f Semantic before i) || is_marked file b)
