-- What a text that is taken from a path comes to is a path, and where it is what was written.
use Rattle.std.proofs.Common.{◌≡◌, ℕ, ◌<◌, Bool, true, false, not, ◌&&◌, ◌||◌, ◌==◌, List, [], ◌∷◌, ◌++◌, length, All, Option, Some, None, sym, refl, ap, ◌∙◌, arith, ⊎_elim, append_assoc, append-nil}
use Rattle.std.specs.Prelude.{codes, bytes_eq, if◌then◌else◌}
use Rattle.std.specs.List.{fold, list_all, list_any}
use Rattle.std.specs.Option.{option_and_then}
use Rattle.std.proofs.lemmas.Bool.{cond-true, cond-false, and_from, and_parts, and_right, cases_Bool, eqb-true, true≢false}
use Rattle.std.proofs.lemmas.List.{nil_from_length}
use Rattle.std.proofs.lemmas.List.Elements.{All-head, All-tail}
use Rattle.std.proofs.lemmas.List.Folds.{list_any_none}
use Rattle.std.proofs.lemmas.List.Splits.{slice_split-cons_yes}
use Rattle.std.proofs.lemmas.Option.{none-some, same_Some}
use Rattle.docs_vfs.specs.Paths.{is_slash, is_dots, has_nul, parts, is_segment, is_path, parent_of, segments_of}
use Rattle.docs_vfs.specs.FileUrls.{joined}
use Rattle.docs_vfs.specs.declared.relative.EmptySegments.{EmptySegments}
use Rattle.docs_vfs.specs.Resolve.{front, below, is_name, drops, stays, step, walk, begins_with_slash, resolve}
use Rattle.docs_vfs.specs.Fronts.{whole, IsFront}
use Rattle.docs_vfs.proofs.PathLemmas.{or_left_false, or_right_false, or_right_true, parts_some, root_is_path}
use Rattle.docs_vfs.proofs.PartLemmas.{IsWhole, parts_whole, joined_parts}
use Rattle.docs_vfs.proofs.FrontLemmas.{front_root, front_of_path, whole_front, below_is_path, up_none, up_some}
use Rattle.docs_vfs.proofs.Walks.{down_reaches}
use Rattle.docs_vfs.proofs.Resolved.{relative_is, root_alone_is, absolute_is}

-- ---- a walk leads from paths to paths

parent_path : (path next : List ℕ) → is_path path ≡ true → parent_of path ≡ Some next → is_path next ≡ true
parent_path path next is up =
    let f = front_of_path path is in
    let here = whole_front path is in
    ⊎_elim
    (λ some. let u = up_some (front path) f some in ap is_path (same_Some _ _ (sym up ∙ ap parent_of (sym here) ∙ u.parent)) ∙ u.front.path)
    (λ none. absurd (none-some next (sym (ap parent_of (sym here) ∙ up_none (front path) f none) ∙ up)))
    (cases_Bool (list_any is_slash (front path)))

down_path : (path segment next : List ℕ) → is_path path ≡ true → (if is_name segment then Some (below path segment) else None) ≡ Some next → is_path next ≡ true
down_path path segment next is down =
    ⊎_elim
    (λ name. ap is_path (sym (same_Some _ _ (sym (cond-true _ _ _ name) ∙ down))) ∙ below_is_path path segment is name)
    (λ no. absurd (none-some next (sym (cond-false _ _ _ no) ∙ down)))
    (cases_Bool (is_name segment))

step_path : (empty : EmptySegments) (path segment next : List ℕ) → is_path path ≡ true → step empty path segment ≡ Some next → is_path next ≡ true
step_path empty path segment next is to =
    ⊎_elim
    (λ stay. ap is_path (sym (same_Some _ _ (sym (cond-true _ _ _ stay) ∙ to))) ∙ is)
    (λ go. ⊎_elim
    (λ dots. parent_path path next is (sym (cond-false _ _ _ go ∙ cond-true _ _ _ dots) ∙ to))
    (λ other. down_path path segment next is (sym (cond-false _ _ _ go ∙ cond-false _ _ _ other) ∙ to))
    (cases_Bool (bytes_eq segment (codes ".."))))
    (cases_Bool (stays empty segment))

abbrev IsPathAt : Option (List ℕ) → Type 0
IsPathAt at = (path : List ℕ) → at ≡ Some path → is_path path ≡ true

onward : (empty : EmptySegments) (at : Option (List ℕ)) (segment : List ℕ) → IsPathAt at → IsPathAt (option_and_then (λ path. step empty path segment) at)
onward empty None segment is path to = absurd (none-some path to)
onward empty (Some x) segment is path to = step_path empty x segment path (is x refl) to

walk_path : (empty : EmptySegments) (segments : List (List ℕ)) (at : Option (List ℕ)) → IsPathAt at → IsPathAt (fold (λ a s. option_and_then (λ path. step empty path s) a) at segments)
walk_path empty [] at is = is
walk_path empty (s ∷ segments) at is = walk_path empty segments (option_and_then (λ path. step empty path s) at) (onward empty at s is)

base_path : (base : List ℕ) → is_path base ≡ true → IsPathAt (Some base)
base_path base is path same = ap is_path (sym (same_Some _ _ same)) ∙ is

pub resolve_path : (empty : EmptySegments) (base text path : List ℕ) → is_path base ≡ true → resolve empty base text ≡ Some path → is_path path ≡ true
unfolding resolve
resolve_path empty base text path is to =
    ⊎_elim
    (λ yes. walk_path empty (segments_of text) (Some (codes "/")) (base_path (codes "/") (root_is_path [] refl)) path (sym (cond-true _ _ _ yes) ∙ to))
    (λ no. walk_path empty (parts text) (Some base) (base_path base is) path (sym (cond-false _ _ _ no) ∙ to))
    (cases_Bool (begins_with_slash text))

-- ---- plain segments are appended

not_is : (b : Bool) → not b ≡ true → b ≡ false
not_is true e = sym e
not_is false e = refl

record IsPlain (empty : EmptySegments) (s : List ℕ) : Type 0 where
  goes : stays empty s ≡ false
  dots : bytes_eq s (codes "..") ≡ false
  name : is_name s ≡ true

plain_segment : (empty : EmptySegments) (s : List ℕ) → is_segment s ≡ true → IsWhole s → IsPlain empty s
plain_segment empty s is whole_s =
    let a = and_parts (not (length s == 0) && not (is_dots s)) (not (has_nul s)) is in
    let b = and_parts (not (length s == 0)) (not (is_dots s)) a.0 in
    let dots : is_dots s ≡ false = not_is (is_dots s) b.1 in
    let some : (length s == 0) ≡ false = not_is (length s == 0) b.0 in
    let one : bytes_eq s (codes ".") ≡ false = or_left_false (bytes_eq s (codes ".")) (bytes_eq s (codes "..")) dots in
    let dropped : (drops empty && length s == 0) ≡ false = and_right (drops empty) (length s == 0) some in
    record {
      goes = ap (λ x. x || (drops empty && length s == 0)) one ∙ dropped;
      dots = or_right_false (bytes_eq s (codes ".")) (bytes_eq s (codes "..")) dots;
      name = and_from (is_segment s) (not (list_any is_slash s)) is (ap not (list_any_none is_slash s whole_s));
    }

walk_plain : (empty : EmptySegments) (text : List ℕ) (segments : List (List ℕ)) → IsFront text → list_all is_segment segments ≡ true → All IsWhole segments → 0 < length segments
    → walk empty (whole text) segments ≡ Some (text ++ joined segments)
walk_plain empty text [] f good whole_all some = absurd (omega arith)
walk_plain empty text (s ∷ []) f good whole_all some =
    let p = plain_segment empty s (and_parts (is_segment s) true good).0 (All-head IsWhole s [] whole_all) in
    cond-false _ _ _ p.goes ∙ cond-false _ _ _ p.dots ∙ cond-true _ _ _ p.name ∙ ap (λ l. Some (l ++ 47 ∷ s)) f.same
    ∙ ap (λ l. Some (text ++ 47 ∷ l)) (sym (append-nil s))
walk_plain empty text (s ∷ t ∷ rest) f good whole_all some =
    let both = and_parts (is_segment s) (list_all is_segment (t ∷ rest)) good in
    let p = plain_segment empty s both.0 (All-head IsWhole s (t ∷ rest) whole_all) in
    let down = down_reaches empty text s (text ++ 47 ∷ s) f p.goes p.dots p.name refl in
    ap (λ at. fold (λ a x. option_and_then (λ path. step empty path x) a) at (t ∷ rest)) down.0
    ∙ walk_plain empty (text ++ 47 ∷ s) (t ∷ rest) down.1 both.1 (All-tail IsWhole s (t ∷ rest) whole_all) (omega arith)
    ∙ ap Some (append_assoc text (47 ∷ s) (joined (t ∷ rest)))

pub resolve_plain : (empty : EmptySegments) (base text : List ℕ) → is_path base ≡ true → list_all is_segment (parts text) ≡ true → resolve empty base text ≡ Some (below base text)
resolve_plain empty base text is good =
    relative_is empty base text (λ rest e. true≢false (sym (ap (λ t. list_all is_segment (parts t)) (sym e) ∙ good) ∙ ap (list_all is_segment) (slice_split-cons_yes is_slash 47 rest refl)))
    ∙ ap (λ b. walk empty b (parts text)) (sym (whole_front base is))
    ∙ walk_plain empty (front base) (parts text) (front_of_path base is) good (parts_whole text) (parts_some text)
    ∙ ap (λ l. Some (front base ++ l)) (joined_parts text)

pub resolve_absolute : (empty : EmptySegments) (base text : List ℕ) → is_path text ≡ true → resolve empty base text ≡ Some text
unfolding is_path
resolve_absolute empty base [] is = absurd (true≢false (sym is))
resolve_absolute empty base (b ∷ rest) is =
    let both = and_parts (is_slash b) _ is in
    let same : b ∷ rest ≡ 47 ∷ rest = ap (λ x. x ∷ rest) (eqb-true b 47 both.0) in
    ⊎_elim
    (λ none. root_alone_is empty base (b ∷ rest) rest same none ∙ ap Some (sym (same ∙ ap (λ l. 47 ∷ l) (nil_from_length rest (eqb-true (length rest) 0 none)))))
    (λ some. absolute_is empty base (b ∷ rest) rest same some
    ∙ walk_plain empty [] (parts rest) front_root (or_right_true (length rest == 0) _ both.1 some) (parts_whole rest) (parts_some rest)
    ∙ ap Some (joined_parts rest ∙ sym same))
    (cases_Bool (length rest == 0))
