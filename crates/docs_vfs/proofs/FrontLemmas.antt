-- The text of a path while segments are added to it.
use Rattle.std.proofs.Common.{◌≡◌, ℕ, ◌<◌, Bool, true, false, not, ◌||◌, ◌==◌, List, [], ◌∷◌, ◌++◌, length, Some, None, sym, refl, ap, ◌∙◌, subst, arith, ⊎_elim, length-append}
use Rattle.std.specs.Prelude.{codes, if◌then◌else◌}
use Rattle.std.proofs.lemmas.Bool.{cond-true, cond-false, and_from, and_parts, cases_Bool, ne_eqb, eq-eqb, eqb-true, true≢false, or_right}
use Rattle.std.proofs.lemmas.List.Elements.{All-weaker}
use Rattle.std.proofs.lemmas.List.Folds.{list_all-append}
use Rattle.std.proofs.lemmas.List.Splits.{slice_split_none, slice_split-cons_yes}
use Rattle.std.specs.List.{list_all, list_any, before_last}
use Rattle.docs_vfs.specs.Paths.{is_slash, parts, is_segment, is_path, parent_of}
use Rattle.docs_vfs.specs.Resolve.{front, below, is_name}
use Rattle.docs_vfs.specs.Fronts.{whole, IsFront}
use Rattle.docs_vfs.proofs.PathLemmas.{slash_inside, or_right_true, none_is, parts-append, parent_text, root_is_path}
use Rattle.docs_vfs.proofs.LastLemmas.{before_last_at}

some_length : (b : ℕ) (rest : List ℕ) → (length (b ∷ rest) == 0) ≡ false
some_length b rest = ne_eqb (length (b ∷ rest)) 0 (λ e. omega arith)

pub whole_cons : (b : ℕ) (rest : List ℕ) → whole (b ∷ rest) ≡ b ∷ rest
whole_cons b rest = cond-false _ _ _ (some_length b rest)

pub front_root : IsFront []
front_root = record { path = root_is_path [] refl; same = refl }

-- ---- a text is cut at its last slash

record IsCut (text : List ℕ) : Type 0 where
  folder : List ℕ
  name : List ℕ
  is : text ≡ folder ++ 47 ∷ name
  whole_name : list_any is_slash name ≡ false

or_left_true : (a b : Bool) → (a || b) ≡ true → b ≡ false → a ≡ true
or_left_true true b some none = refl
or_left_true false b some none = absurd (true≢false (sym some ∙ none))

cut_text : (text : List ℕ) → list_any is_slash text ≡ true → IsCut text
cut_text [] some = absurd (true≢false (sym some))
cut_text (x ∷ xs) some =
    ⊎_elim
    (λ more. let c = cut_text xs more in record { folder = x ∷ c.folder; name = c.name; is = ap (λ l. x ∷ l) c.is; whole_name = c.whole_name })
    (λ none. record { folder = []; name = xs; is = ap (λ y. y ∷ xs) (eqb-true x 47 (or_left_true (is_slash x) (list_any is_slash xs) some none)); whole_name = none })
    (cases_Bool (list_any is_slash xs))

cut_last : (folder name : List ℕ) → list_any is_slash name ≡ false → before_last is_slash (folder ++ 47 ∷ name) ≡ folder
cut_last folder name none =
    before_last_at is_slash folder 47 name refl (All-weaker (λ b. is_slash b ≡ false) (λ b. not (is_slash b) ≡ true) (λ b no. ap not no) name (none_is is_slash name none))

-- ---- the folder of a path stands before a slash

not_alone : (b : ℕ) (rest name : List ℕ) → is_path (b ∷ rest ++ 47 ∷ name) ≡ true → length (b ∷ rest) ≡ 1 → ⊥
unfolding is_path
not_alone b [] name is one =
    let both = and_parts (is_slash b) _ is in
    let segments = or_right_true (length (47 ∷ name) == 0) _ both.1 (some_length 47 name) in
    true≢false (sym segments ∙ ap (list_all is_segment) (slice_split-cons_yes is_slash 47 name refl))
not_alone b (x ∷ rest) name is one = omega arith

pub front_above : (folder name : List ℕ) → list_any is_slash name ≡ false → is_path (folder ++ 47 ∷ name) ≡ true → IsFront folder
front_above [] name none is = front_root
front_above (b ∷ rest) name none is = record {
  path = ap is_path (whole_cons b rest) ∙ parent_text (b ∷ rest) name none is (omega arith);
  same = ap front (whole_cons b rest) ∙ cond-false _ _ _ (ne_eqb (length (b ∷ rest)) 1 (λ one. not_alone b rest name is one));
}

whole_some : (l : List ℕ) → (if length l == 0 then Some (codes "/") else Some l) ≡ Some (whole l)
whole_some [] = refl
whole_some (x ∷ xs) = cond-false _ _ _ (some_length x xs) ∙ ap Some (sym (whole_cons x xs))

pub parent_is : (path folder name : List ℕ) → (length path == 1) ≡ false → path ≡ folder ++ 47 ∷ name → list_any is_slash name ≡ false → parent_of path ≡ Some (whole folder)
parent_is path folder name root is none =
    cond-false _ _ _ root
    ∙ ap (λ l. if length l == 0 then Some (codes "/") else Some l) (ap (before_last is_slash) is ∙ cut_last folder name none)
    ∙ whole_some folder

-- ---- the last segment is taken away

path_of_front : (text : List ℕ) → IsFront text → list_any is_slash text ≡ true → is_path text ≡ true
path_of_front [] f some = absurd (true≢false (sym some))
path_of_front (b ∷ rest) f some = ap is_path (sym (whole_cons b rest)) ∙ f.path

long_front : (b : ℕ) (rest : List ℕ) → IsFront (b ∷ rest) → (length (b ∷ rest) == 1) ≡ false
long_front b rest f =
    ⊎_elim
    (λ one. let none : [] ≡ b ∷ rest = sym (ap front (whole_cons b rest) ∙ cond-true _ _ _ one) ∙ f.same in absurd (omega (arith, ap length none)))
    (λ no. no)
    (cases_Bool (length (b ∷ rest) == 1))

pub up_none : (text : List ℕ) → IsFront text → list_any is_slash text ≡ false → parent_of (whole text) ≡ None
up_none [] f none = refl
up_none (b ∷ rest) f none = absurd (true≢false (sym (slash_inside (b ∷ rest) (ap is_path (sym (whole_cons b rest)) ∙ f.path)) ∙ none))

pub record GoesUp (text new : List ℕ) : Type 0 where
  pub parent : parent_of (whole text) ≡ Some (whole new)
  pub front : IsFront new

pub up_some : (text : List ℕ) → IsFront text → list_any is_slash text ≡ true → GoesUp text (before_last is_slash text)
up_some [] f some = absurd (true≢false (sym some))
up_some (b ∷ rest) f some =
    let c = cut_text (b ∷ rest) some in
    let last : before_last is_slash (b ∷ rest) ≡ c.folder = ap (before_last is_slash) c.is ∙ cut_last c.folder c.name c.whole_name in
    record {
      parent = ap parent_of (whole_cons b rest) ∙ parent_is (b ∷ rest) c.folder c.name (long_front b rest f) c.is c.whole_name ∙ ap (λ l. Some (whole l)) (sym last);
      front = subst IsFront (sym last) (front_above c.folder c.name c.whole_name (ap is_path (sym c.is) ∙ path_of_front (b ∷ rest) f some));
    }

-- ---- a segment is added

pub record IsName (text : List ℕ) : Type 0 where
  pub segment : is_segment text ≡ true
  pub whole_name : list_any is_slash text ≡ false

not_is : (b : Bool) → not b ≡ true → b ≡ false
not_is true e = sym e
not_is false e = refl

pub name_from : (text : List ℕ) → is_name text ≡ true → IsName text
name_from text is =
    let both = and_parts (is_segment text) (not (list_any is_slash text)) is in
    record { segment = both.0; whole_name = not_is (list_any is_slash text) both.1 }

some_segment : (text : List ℕ) → is_segment text ≡ true → 0 < length text
some_segment [] is = absurd (true≢false (sym is))
some_segment (x ∷ text) is = omega arith

pub name_parts : (text : List ℕ) → IsName text → list_all is_segment (parts text) ≡ true
name_parts text n =
    ap (list_all is_segment) (slice_split_none is_slash text (none_is is_slash text n.whole_name)) ∙ and_from (is_segment text) true n.segment refl

-- segments after a slash make a path of what stands before it
pub path_below : (text more : List ℕ) → IsFront text → list_all is_segment (parts more) ≡ true → is_path (text ++ 47 ∷ more) ≡ true
unfolding is_path
path_below [] more f good = or_right (length more == 0) _ good
path_below (b ∷ rest) more f good =
    let path : is_path (b ∷ rest) ≡ true = ap is_path (sym (whole_cons b rest)) ∙ f.path in
    let both = and_parts (is_slash b) _ path in
    let long : (length rest == 0) ≡ false = ne_eqb (length rest) 0 (λ e. true≢false (sym (eq-eqb (length (b ∷ rest)) 1 (omega (arith, e))) ∙ long_front b rest f)) in
    let segments = or_right_true (length rest == 0) _ both.1 long in
    and_from _ _ both.0
    (or_right (length (rest ++ 47 ∷ more) == 0) _
    (ap (list_all is_segment) (parts-append rest more) ∙ list_all-append is_segment (parts rest) (parts more) ∙ and_from _ _ segments good))

pub whole_below : (text more : List ℕ) → whole (text ++ 47 ∷ more) ≡ text ++ 47 ∷ more
whole_below text more = cond-false _ _ _ (ne_eqb (length (text ++ 47 ∷ more)) 0 (λ e. omega (arith, length-append text (47 ∷ more))))

pub front_below : (text more : List ℕ) → IsFront text → list_all is_segment (parts more) ≡ true → 0 < length more → IsFront (text ++ 47 ∷ more)
front_below text more f good some = record {
  path = ap is_path (whole_below text more) ∙ path_below text more f good;
  same = ap front (whole_below text more) ∙ cond-false _ _ _ (ne_eqb (length (text ++ 47 ∷ more)) 1 (λ e. omega (arith, length-append text (47 ∷ more))));
}

pub name_below : (text segment : List ℕ) → IsFront text → IsName segment → IsFront (text ++ 47 ∷ segment)
name_below text segment f n = front_below text segment f (name_parts segment n) (some_segment segment n.segment)

-- a path stands before a slash by its front
pub front_of_path : (path : List ℕ) → is_path path ≡ true → IsFront (front path)
unfolding is_path
front_of_path [] is = absurd (true≢false (sym is))
front_of_path (b ∷ rest) is =
    ⊎_elim
    (λ one. subst IsFront (sym (cond-true _ _ _ one)) front_root)
    (λ long. subst IsFront (sym (cond-false _ _ _ long)) (record { path = ap is_path (whole_cons b rest) ∙ is; same = ap front (whole_cons b rest) ∙ cond-false _ _ _ long }))
    (cases_Bool (length (b ∷ rest) == 1))

root_text : (b : ℕ) (rest : List ℕ) → is_path (b ∷ rest) ≡ true → length (b ∷ rest) ≡ 1 → codes "/" ≡ b ∷ rest
unfolding is_path
root_text b [] is one = ap (λ x. x ∷ []) (sym (eqb-true b 47 (and_parts (is_slash b) _ is).0))
root_text b (x ∷ rest) is one = absurd (omega arith)

pub whole_front : (path : List ℕ) → is_path path ≡ true → whole (front path) ≡ path
unfolding is_path
whole_front [] is = absurd (true≢false (sym is))
whole_front (b ∷ rest) is =
    ⊎_elim
    (λ one. ap whole (cond-true _ _ _ one) ∙ root_text b rest is (eqb-true (length (b ∷ rest)) 1 one))
    (λ long. ap whole (cond-false _ _ _ long) ∙ whole_cons b rest)
    (cases_Bool (length (b ∷ rest) == 1))

-- a name below a path
pub below_is_path : (path segment : List ℕ) → is_path path ≡ true → is_name segment ≡ true → is_path (below path segment) ≡ true
below_is_path path segment is name = path_below (front path) segment (front_of_path path is) (name_parts segment (name_from segment name))
