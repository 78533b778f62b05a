-- The changes that are taken are the difference of the table at the last take and now.
use Rattle.std.proofs.Common.{◌≡◌, ◌≢◌, ◌↔◌, ℕ, Bool, true, false, ◌&&◌, List, [], ◌∷◌, map, Option, Some, None, sym, refl, ap, subst, ◌∙◌, ⊎_elim}
use Rattle.std.specs.Prelude.{bytes_eq, is_some, T}
use Rattle.std.specs.Option.{option_and_then}
use Rattle.std.specs.List.{filter_map, cons_option, AllByRecursion}
use Rattle.std.specs.List.Sorted.{IsStrictlySortedBy}
use Rattle.std.specs.Ordering.{is_lt, is_eq}
use Rattle.std.specs.FinMap as map
use Rattle.std.specs.FinMap.Entries.{below_all}
use Rattle.std.proofs.Common.{Ordering}
use Rattle.std.specs.declared.cmp.Ordering.TheVariants.{Less, Equal, Greater}
use Rattle.std.proofs.lemmas.Bool.{cases_Bool, cond-true, cond-false, true≢false}
use Rattle.std.proofs.lemmas.Option.{none-some}
use Rattle.docs_vfs.specs.declared.file_kinds.ChangeKind.{ChangeKind}
use Rattle.docs_vfs.specs.declared.file_kinds.ChangedFile.{ChangedFile}
use Rattle.docs_vfs.specs.declared.file_kinds.FileId.{FileId}
use Rattle.docs_vfs.specs.declared.file_kinds.FileRow.{FileRow}
use Rattle.docs_vfs.specs.declared.file_kinds.FileWas.{FileWas}
use Rattle.docs_vfs.specs.Paths.{path_cmp}
use Rattle.docs_vfs.specs.Files.{Files, contents_at, kind_between, change_with, change_of, changes}
use Rattle.docs_vfs.specs.FileLaws.{number_at, IsNumbered, taken, taken_at, change_at, listed, IsDifference}
use Rattle.docs_vfs.proofs.PutLemmas.{same_path, one_path, itself}

abbrev Rows : Type 0
Rows = map.FinMap path_cmp FileRow

abbrev path_of : ChangedFile → List ℕ
path_of c = c.path

-- ---- a change names its path

abbrev path_or : Option ChangedFile → List ℕ → List ℕ
path_or None path = path
path_or (Some c) path = c.path

change_path : (file : FileId) (path : List ℕ) (now : Option (List ℕ)) (kind : Option ChangeKind) (c : ChangedFile) → change_with file path now kind ≡ Some c → c.path ≡ path
change_path file path now None c is = absurd (none-some c is)
change_path file path now (Some kind) c is = sym (ap (λ o. path_or o path) is)

-- ---- rising keys

first_true : (a b : Bool) → T (a && b) → T a
first_true true b h = tt
first_true false b h = h

second_true : (a b : Bool) → T (a && b) → T b
second_true true b h = h
second_true false b h = absurd h

less_is : (o : Ordering) → T (is_lt o) → o ≡ Less
less_is Less h = refl
less_is Equal h = absurd h
less_is Greater h = absurd h

less_apart : (o : Ordering) → T (is_lt o) → is_eq o ≡ false
less_apart Less h = refl
less_apart Equal h = absurd h
less_apart Greater h = absurd h

absent : (k : List ℕ) (es : List (List ℕ × FileWas)) → T (below_all path_cmp k es) → map.find path_cmp k es ≡ None
absent k [] below = refl
absent k (e ∷ es) below =
    cond-false _ _ _ (less_apart (path_cmp k e.0) (first_true _ _ below)) ∙ absent k es (second_true _ _ below)

below_with : (k q : List ℕ) (o : Option ChangedFile) (rest : List ChangedFile) → path_cmp k q ≡ Less → ((c : ChangedFile) → o ≡ Some c → c.path ≡ q)
    → AllByRecursion (λ y. path_cmp k y ≡ Less) (map path_of rest) → AllByRecursion (λ y. path_cmp k y ≡ Less) (map path_of (cons_option o rest))
below_with k q None rest less path all = all
below_with k q (Some c) rest less path all = (ap (path_cmp k) (path c refl) ∙ less, all)

order_with : (q : List ℕ) (o : Option ChangedFile) (rest : List ChangedFile) → ((c : ChangedFile) → o ≡ Some c → c.path ≡ q)
    → AllByRecursion (λ y. path_cmp q y ≡ Less) (map path_of rest) → IsStrictlySortedBy path_cmp (map path_of rest) → IsStrictlySortedBy path_cmp (map path_of (cons_option o rest))
unfolding IsStrictlySortedBy
order_with q None rest path all sorted = sorted
order_with q (Some c) rest path all sorted =
    (subst (λ k. AllByRecursion (λ y. path_cmp k y ≡ Less) (map path_of rest)) (sym (path c refl)) all, sorted)

all_below : (rows : Rows) (k : List ℕ) (es : List (List ℕ × FileWas)) → T (below_all path_cmp k es) → AllByRecursion (λ y. path_cmp k y ≡ Less) (map path_of (filter_map (change_of rows) es))
all_below rows k [] below = tt
all_below rows k ((q, was) ∷ es) below =
    let rest = all_below rows k es (second_true _ _ below) in
    below_with k q (change_of rows (q, was)) (filter_map (change_of rows) es) (less_is (path_cmp k q) (first_true _ _ below)) (change_path was.file q _ _) rest

in_order : (rows : Rows) (es : List (List ℕ × FileWas)) → T (map.is_sorted path_cmp es) → IsStrictlySortedBy path_cmp (map path_of (filter_map (change_of rows) es))
unfolding IsStrictlySortedBy
in_order rows [] sorted = tt
in_order rows ((q, was) ∷ es) sorted =
    let rest = in_order rows es (second_true _ _ sorted) in
    order_with q (change_of rows (q, was)) (filter_map (change_of rows) es) (change_path was.file q _ _) (all_below rows q es (first_true _ _ sorted)) rest

-- ---- the change of a path

here : (q k : List ℕ) (o : Option ChangedFile) (rest : List ChangedFile) → ((c : ChangedFile) → o ≡ Some c → c.path ≡ k) → bytes_eq q k ≡ true → listed q rest ≡ None → listed q (cons_option o rest) ≡ o
here q k None rest path same none = none
here q k (Some c) rest path same none = cond-true _ _ _ (ap (bytes_eq q) (path c refl) ∙ same)

there : (q k : List ℕ) (o : Option ChangedFile) (rest : List ChangedFile) → ((c : ChangedFile) → o ≡ Some c → c.path ≡ k) → bytes_eq q k ≡ false → listed q (cons_option o rest) ≡ listed q rest
there q k None rest path other = refl
there q k (Some c) rest path other = cond-false _ _ _ (ap (bytes_eq q) (path c refl) ∙ other)

change_by : (rows : Rows) (q : List ℕ) (es : List (List ℕ × FileWas)) → T (map.is_sorted path_cmp es)
    → listed q (filter_map (change_of rows) es) ≡ option_and_then (λ was. change_of rows (q, was)) (map.find path_cmp q es)
change_by rows q [] sorted = refl
change_by rows q ((k, was) ∷ es) sorted =
    let rest = change_by rows q es (second_true _ _ sorted) in
    let o = change_of rows (k, was) in
    let later = filter_map (change_of rows) es in
    let bind = option_and_then (λ (w : FileWas). change_of rows (q, w)) in
    ⊎_elim
    (λ same.
    let is = one_path q k same in
    let none : map.find path_cmp q es ≡ None = ap (λ x. map.find path_cmp x es) is ∙ absent k es (first_true _ _ sorted) in
    here q k o later (change_path was.file k _ _) same (rest ∙ ap bind none)
    ∙ ap (λ x. change_of rows (x, was)) (sym is)
    ∙ sym (ap bind (cond-true _ _ _ (same_path q k ∙ same))))
    (λ other.
    there q k o later (change_path was.file k _ _) other ∙ rest
    ∙ sym (ap bind (cond-false _ _ _ (same_path q k ∙ other))))
    (cases_Bool (bytes_eq q k))

kind_same : (a : Option (List ℕ)) → kind_between a a ≡ None
kind_same None = refl
kind_same (Some a) = cond-true _ _ _ (itself a)

kind_none : (a b : Option (List ℕ)) → is_some (kind_between a b) ≡ false → a ≡ b
kind_none None None none = refl
kind_none None (Some b) none = absurd (true≢false none)
kind_none (Some a) None none = absurd (true≢false none)
kind_none (Some a) (Some b) none =
    ⊎_elim
    (λ same. ap Some (one_path a b same))
    (λ other. absurd (true≢false (sym (ap is_some (cond-false _ _ _ other)) ∙ none)))
    (cases_Bool (bytes_eq a b))

abbrev change_from : Files → List ℕ → Option FileId → Option (List ℕ) → Option ChangedFile
change_from t q number before =
    option_and_then (λ file. change_with file q (contents_at t q) (kind_between before (contents_at t q))) number

no_change : (t : Files) (q : List ℕ) (number : Option FileId) → change_from t q number (contents_at t q) ≡ None
no_change t q None = refl
no_change t q (Some file) = ap (change_with file q (contents_at t q)) (kind_same (contents_at t q))

by_row : (t : Files) → IsNumbered t → (q : List ℕ) (o : Option FileWas) → map.get t.before q ≡ o → option_and_then (λ was. change_of t.rows (q, was)) o ≡ change_from t q (number_at t q) (taken o (contents_at t q))
by_row t numbered q None is = sym (no_change t q (number_at t q))
by_row t numbered q (Some was) is = ap (λ n. change_from t q n was.contents) (sym (numbered.touched q was is))

change_is : (t : Files) → IsNumbered t → (q : List ℕ) → listed q (changes t) ≡ change_at t q
change_is t numbered q =
    change_by t.rows q (map.entries t.before) (map.entries_sorted t.before)
    ∙ ap (option_and_then (λ was. change_of t.rows (q, was))) (sym (map.get-entries t.before q))
    ∙ by_row t numbered q (map.get t.before q) refl

some_kind : (file : FileId) (q : List ℕ) (now : Option (List ℕ)) (kind : Option ChangeKind) → is_some (change_with file q now kind) ≡ is_some kind
some_kind file q now None = refl
some_kind file q now (Some kind) = refl

apart_kind : (a b : Option (List ℕ)) → a ≢ b → is_some (kind_between a b) ≡ true
apart_kind a b apart = ⊎_elim (λ some. some) (λ none. absurd (apart (kind_none a b none))) (cases_Bool (is_some (kind_between a b)))

apart_change : (t : Files) → IsNumbered t → (q : List ℕ) (o : Option FileWas) → map.get t.before q ≡ o → taken o (contents_at t q) ≢ contents_at t q → is_some (change_from t q (number_at t q) (taken o (contents_at t q))) ≡ true
apart_change t numbered q None is apart = absurd (apart refl)
apart_change t numbered q (Some was) is apart =
    ap (λ n. is_some (change_from t q n was.contents)) (numbered.touched q was is)
    ∙ some_kind was.file q (contents_at t q) (kind_between was.contents (contents_at t q)) ∙ apart_kind was.contents (contents_at t q) apart

exact : (t : Files) → IsNumbered t → (q : List ℕ) → (is_some (listed q (changes t)) ≡ true) ↔ (taken_at t q ≢ contents_at t q)
exact t numbered q = (
  λ some same. true≢false (sym some ∙ ap is_some (change_is t numbered q) ∙ ap (λ b. is_some (change_from t q (number_at t q) b)) same ∙ ap is_some (no_change t q (number_at t q))),
  λ apart. ap is_some (change_is t numbered q) ∙ apart_change t numbered q (map.get t.before q) refl apart,
)

pub is_difference : (t : Files) → IsNumbered t → IsDifference t (changes t)
is_difference t numbered = record {
  in_order = in_order t.rows (map.entries t.before) (map.entries_sorted t.before);
  changes = change_is t numbered;
  exact = exact t numbered;
}

pub nothing_taken : (t : Files) (path : List ℕ) → taken_at (record t { before = map.empty }) path ≡ contents_at t path
nothing_taken t path = ap (λ o. taken o (contents_at t path)) (map.get-empty path_cmp path)
