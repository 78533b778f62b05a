-- What a call of the table of files changes.
use Rattle.std.proofs.Common.{◌≡◌, ℕ, ◌+◌, Bool, true, false, ◌||◌, List, [], ◌∷◌, ◌++◌, length, Option, Some, None, Ok, Err, Result, sym, refl, ap, subst, ◌∙◌, ⊎_elim, inl, inr}
use Rattle.std.specs.Prelude.{◌⊎◌, is_some, nat_le, bytes_eq, cond}
use Rattle.std.specs.Ordering.{eq_by_cmp}
use Rattle.std.specs.Option.{option_map}
use Rattle.std.specs.Cmp.Lexicographic.{nat_list_cmp_total}
use Rattle.std.specs.FinMap as map
use Rattle.std.proofs.lemmas.Bool.{cases_Bool, cond_both, cond-true, cond-false, true≢false}
use Rattle.std.proofs.lemmas.Map.Text.{is_eq-slice_cmp}
use Rattle.std.proofs.lemmas.Slice.Eq.{bytes_eq-Decides}
use Rattle.docs_vfs.specs.declared.file_kinds.FileId.{FileId}
use Rattle.docs_vfs.specs.declared.file_kinds.FileRow.{FileRow}
use Rattle.docs_vfs.specs.declared.file_kinds.FileWas.{FileWas}
use Rattle.docs_vfs.specs.declared.file_kinds.RowState.{RowState}
use Rattle.docs_vfs.specs.declared.file_kinds.RowState.TheVariants.{Nothing, Contents, Excluded}
use Rattle.docs_vfs.specs.declared.file_kinds.TableFault.{TableFault}
use Rattle.docs_vfs.specs.Paths.{path_cmp}
use Rattle.docs_vfs.specs.Files.{Files, kept_in, kept_at, contents_of, contents_at, is_marked, kept_of, same_contents, number_in, next_file, before_of, put_at, put_in, set_in, mark_in, table_then}
use Rattle.docs_vfs.specs.FileLaws.{Keeps, number_at, taken, taken_at, KeepsTaken}

pub same_path : (q k : List ℕ) → eq_by_cmp path_cmp q k ≡ bytes_eq q k
same_path q k = is_eq-slice_cmp q k

pub one_path : (q k : List ℕ) → bytes_eq q k ≡ true → q ≡ k
one_path q k = (bytes_eq-Decides q k).0

pub itself : (k : List ℕ) → bytes_eq k k ≡ true
itself k = (bytes_eq-Decides k k).1 refl

-- the table after something was kept of a path
pub record Put (t : Files) (path : List ℕ) (kept : RowState) (u : Files) : Type 0 where
  pub file : FileId
  pub rows : u.rows ≡ map.insert t.rows path (record { file = file; kept = kept })
  pub before : u.before ≡ before_of t.before path (record { file = file; contents = contents_at t path })
  pub first : u.first ≡ t.first
  pub number : ((number_at t path ≡ Some file) × (u.paths ≡ t.paths)) ⊎ ((number_at t path ≡ None) × (file ≡ next_file t) × (u.paths ≡ t.paths ++ path ∷ []))

abbrev PutIf : Files → List ℕ → RowState → Result Files TableFault → Type 0
PutIf t path kept (Ok u) = Put t path kept u
PutIf t path kept (Err e) = Unit {0}

put_by : (t : Files) (path : List ℕ) (kept : RowState) (o : Option FileRow) → map.get t.rows path ≡ o → PutIf t path kept (table_then (number_in t path o) (λ n. Ok (put_at n.0 n.1 path kept)))
put_by t path kept (Some row) is =
    record { file = row.file; rows = refl; before = refl; first = refl; number = inl (ap (option_map (λ (r : FileRow). r.file)) is, refl) }
put_by t path kept None is =
    cond_both (nat_le 4294967295 (t.first + length t.paths)) _ _ (λ r. PutIf t path kept (table_then r (λ n. Ok (put_at n.0 n.1 path kept)))) (λ _. tt)
    (λ _. record { file = next_file t; rows = refl; before = refl; first = refl; number = inr (ap (option_map (λ (r : FileRow). r.file)) is, refl, refl) })

pub put_is : (t : Files) (path : List ℕ) (kept : RowState) (u : Files) → put_in t path kept ≡ Ok u → Put t path kept u
put_is t path kept u is = subst (PutIf t path kept) is (put_by t path kept (map.get t.rows path) refl)

-- ---- what is kept

pub row_after : (t : Files) (path : List ℕ) (kept : RowState) (u : Files) (put : Put t path kept u) (q : List ℕ) → map.get u.rows q ≡ cond (bytes_eq q path) (Some (record { file = put.file; kept = kept })) (map.get t.rows q)
row_after t path kept u put q =
    ap (λ (m : map.FinMap path_cmp FileRow). map.get m q) put.rows
    ∙ map.get-insert nat_list_cmp_total t.rows path (record { file = put.file; kept = kept }) q
    ∙ ap (λ b. cond b (Some (record { file = put.file; kept = kept })) (map.get t.rows q)) (same_path q path)

kept_cond : (b : Bool) (row : FileRow) (o : Option FileRow) → kept_in (cond b (Some row) o) ≡ cond b row.kept (kept_in o)
kept_cond true row o = refl
kept_cond false row o = refl

pub put_keeps : (t : Files) (path : List ℕ) (kept : RowState) (u : Files) → Put t path kept u → Keeps t path kept u
put_keeps t path kept u put q =
    ap kept_in (row_after t path kept u put q) ∙ kept_cond (bytes_eq q path) (record { file = put.file; kept = kept }) (map.get t.rows q)

-- a table that keeps of a path what it kept already
pub same_keeps : (t : Files) (path : List ℕ) (kept : RowState) → kept_at t path ≡ kept → Keeps t path kept t
same_keeps t path kept is q =
    ⊎_elim
    (λ same. ap (kept_at t) (one_path q path same) ∙ is ∙ sym (cond-true _ _ _ same))
    (λ other. sym (cond-false _ _ _ other))
    (cases_Bool (bytes_eq q path))

pub marked_is : (kept : RowState) → is_marked kept ≡ true → kept ≡ Excluded
marked_is Nothing marked = absurd (true≢false (sym marked))
marked_is (Contents bytes) marked = absurd (true≢false (sym marked))
marked_is Excluded marked = refl

-- ---- the last take

pub before_after : (t : Files) (path : List ℕ) (was : FileWas) (q : List ℕ) → map.get (before_of t.before path was) q ≡ cond (is_some (map.get t.before path)) (map.get t.before q) (cond (bytes_eq q path) (Some was) (map.get t.before q))
before_after t path was q =
    ⊎_elim
    (λ some. ap (λ (m : map.FinMap path_cmp FileWas). map.get m q) (cond-true _ _ _ some) ∙ sym (cond-true _ _ _ some))
    (λ none.
    ap (λ (m : map.FinMap path_cmp FileWas). map.get m q) (cond-false _ _ _ none)
    ∙ map.get-insert nat_list_cmp_total t.before path was q
    ∙ ap (λ b. cond b (Some was) (map.get t.before q)) (same_path q path)
    ∙ sym (cond-false _ _ _ none))
    (cases_Bool (is_some (map.get t.before path)))

kept_was : (o : Option FileWas) (a b : Option (List ℕ)) → is_some o ≡ true → taken o a ≡ taken o b
kept_was None a b some = absurd (true≢false (sym some))
kept_was (Some was) a b some = refl

no_was : (o : Option FileWas) (now : Option (List ℕ)) → is_some o ≡ false → taken o now ≡ now
no_was None now none = refl
no_was (Some was) now none = absurd (true≢false none)

taken_here : (t : Files) (path : List ℕ) (kept : RowState) (u : Files) → Put t path kept u → taken_at u path ≡ taken_at t path
taken_here t path kept u put =
    let was : FileWas = record { file = put.file; contents = contents_at t path } in
    let rows = ap (λ (m : map.FinMap path_cmp FileWas). map.get m path) put.before ∙ before_after t path was path in
    ⊎_elim
    (λ some. ap (λ o. taken o (contents_at u path)) (rows ∙ cond-true _ _ _ some) ∙ kept_was (map.get t.before path) _ _ some)
    (λ none. ap (λ o. taken o (contents_at u path)) (rows ∙ cond-false _ _ _ none ∙ cond-true _ _ _ (itself path)) ∙ sym (no_was (map.get t.before path) _ none))
    (cases_Bool (is_some (map.get t.before path)))

same_cond : {A : Type 0} (b : Bool) (x : A) → cond b x x ≡ x
same_cond true x = refl
same_cond false x = refl

taken_elsewhere : (t : Files) (path : List ℕ) (kept : RowState) (u : Files) → Put t path kept u → (q : List ℕ) → bytes_eq q path ≡ false → taken_at u q ≡ taken_at t q
taken_elsewhere t path kept u put q other =
    let was : FileWas = record { file = put.file; contents = contents_at t path } in
    let rows =
    ap (λ (m : map.FinMap path_cmp FileWas). map.get m q) put.before ∙ before_after t path was q
    ∙ ap (cond (is_some (map.get t.before path)) (map.get t.before q)) (cond-false _ _ _ other) ∙ same_cond (is_some (map.get t.before path)) (map.get t.before q) in
    let kept_same = put_keeps t path kept u put q ∙ cond-false _ _ _ other in
    λ i. taken (rows i) (contents_of (kept_same i))

pub put_keeps_taken : (t : Files) (path : List ℕ) (kept : RowState) (u : Files) → Put t path kept u → KeepsTaken t u
put_keeps_taken t path kept u put q =
    ⊎_elim
    (λ same. let is = one_path q path same in ap (taken_at u) is ∙ taken_here t path kept u put ∙ ap (taken_at t) (sym is))
    (taken_elsewhere t path kept u put q)
    (cases_Bool (bytes_eq q path))

-- ---- a set, and a mark: it is a put, or the table stays

abbrev SetIf : Files → List ℕ → Option (List ℕ) → Result (Files × Bool) TableFault → Type 0
SetIf t path contents (Ok pair) =
    ((pair.1 ≡ false) × (pair.0 ≡ t) × ((is_marked (kept_at t path) || same_contents (contents_at t path) contents) ≡ true))
    ⊎ ((pair.1 ≡ true) × Put t path (kept_of contents) pair.0 × ((is_marked (kept_at t path) || same_contents (contents_at t path) contents) ≡ false))
SetIf t path contents (Err e) = Unit {0}

set_by : (t : Files) (path : List ℕ) (contents : Option (List ℕ)) (r : Result Files TableFault) → PutIf t path (kept_of contents) r
    → (is_marked (kept_at t path) || same_contents (contents_at t path) contents) ≡ false → SetIf t path contents (table_then r (λ u. Ok (u, true)))
set_by t path contents (Ok u) put changes = inr (refl, put, changes)
set_by t path contents (Err e) put changes = tt

set_if : (t : Files) (path : List ℕ) (contents : Option (List ℕ)) → SetIf t path contents (set_in t path contents)
set_if t path contents =
    cond_both (is_marked (kept_at t path) || same_contents (contents_at t path) contents) (Ok (t, false)) _ (SetIf t path contents)
    (λ stays. inl (refl, refl, stays))
    (λ changes. set_by t path contents (put_in t path (kept_of contents)) (put_by t path (kept_of contents) (map.get t.rows path) refl) changes)

pub set_is : (t u : Files) (path : List ℕ) (contents : Option (List ℕ)) (changed : Bool) → set_in t path contents ≡ Ok (u, changed) → SetIf t path contents (Ok (u, changed))
set_is t u path contents changed is = subst (SetIf t path contents) is (set_if t path contents)

abbrev MarkIf : Files → List ℕ → Result Files TableFault → Type 0
MarkIf t path (Ok u) = ((u ≡ t) × (is_marked (kept_at t path) ≡ true)) ⊎ Put t path Excluded u
MarkIf t path (Err e) = Unit {0}

mark_by : (t : Files) (path : List ℕ) (r : Result Files TableFault) → PutIf t path Excluded r → MarkIf t path r
mark_by t path (Ok u) put = inr put
mark_by t path (Err e) put = tt

mark_if : (t : Files) (path : List ℕ) → MarkIf t path (mark_in t path)
mark_if t path =
    cond_both (is_marked (kept_at t path)) (Ok t) _ (MarkIf t path) (λ marked. inl (refl, marked))
    (λ _. mark_by t path (put_in t path Excluded) (put_by t path Excluded (map.get t.rows path) refl))

pub mark_is : (t u : Files) (path : List ℕ) → mark_in t path ≡ Ok u → MarkIf t path (Ok u)
mark_is t u path is = subst (MarkIf t path) is (mark_if t path)
