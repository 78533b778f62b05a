-- What a call of the table of files makes of its parts, and what it leaves where there is no memory.
use Rattle.std.proofs.Common.{◌≡◌, ℕ, Bool, true, false, ◌||◌, List, [], ◌∷◌, ◌++◌, Option, Some, None, Ok, Err, Result, sym, refl, ap, subst, ◌∙◌, ⊎_elim}
use Rattle.std.specs.Prelude.{is_some, OnSome, if◌then◌else◌}
use Rattle.std.specs.Borrow.{MutBor}
use Rattle.std.specs.Option.{option_map}
use Rattle.std.specs.Ordering.{eq_by_cmp}
use Rattle.std.specs.Cmp.Lexicographic.{nat_list_cmp_total}
use Rattle.std.specs.FinMap as map
use Rattle.std.proofs.lemmas.Bool.{cases_Bool, cond-true, cond-false}
use Rattle.std.proofs.lemmas.Option.{none-some}
use Rattle.docs_vfs.specs.declared.file_kinds.FileId.{FileId}
use Rattle.docs_vfs.specs.declared.file_kinds.FileRow.{FileRow}
use Rattle.docs_vfs.specs.declared.file_kinds.FileWas.{FileWas}
use Rattle.docs_vfs.specs.declared.file_kinds.RowState.{RowState}
use Rattle.docs_vfs.specs.declared.file_kinds.RowState.TheVariants.{Contents, Excluded}
use Rattle.docs_vfs.specs.declared.file_kinds.TableFault.{TableFault}
use Rattle.docs_vfs.specs.declared.file_kinds.TableFault.TheVariants.{Full}
use Rattle.docs_vfs.specs.Paths.{path_cmp}
use Rattle.docs_vfs.specs.Files.{Files, kept_in, contents_of, contents_at, is_marked, kept_of, same_contents, id_by, id_in, file_id_of, is_full, next_file, number_in, before_of, put_at, put_in, table_then, set_in, add_in, mark_in, set_row, add_row, mark_row}
use Rattle.docs_vfs.specs.FileLaws.{IsNumbered}
use Rattle.docs_vfs.proofs.PutLemmas.{itself, one_path, same_path, put_is, set_is, mark_is}
use Rattle.docs_vfs.proofs.NumberLaws.{put_numbers}

-- what was inserted at a new key is taken out again
pub undone : {X : Type 0} (m : map.FinMap path_cmp X) (path : List ℕ) (v : X) → map.get m path ≡ None → map.remove (map.insert m path v) path ≡ m
undone m path v none =
    map.same_map nat_list_cmp_total (map.slice_cmp-IsAntisymmetric map.nat_cmp-IsAntisymmetric) (map.remove (map.insert m path v) path) m (λ q.
    map.get-remove nat_list_cmp_total (map.insert m path v) path q
    ∙ ⊎_elim
    (λ same. cond-true _ _ _ same ∙ sym none ∙ ap (map.get m) (sym (one_path q path (sym (same_path q path) ∙ same))))
    (λ other. cond-false _ _ _ other ∙ map.get-insert nat_list_cmp_total m path v q ∙ cond-false _ _ _ other)
    (cases_Bool (eq_by_cmp path_cmp q path)))

pub undone_by : {X : Type 0} (old mid new : map.FinMap path_cmp X) (path key : List ℕ) (v : X) → map.get old path ≡ None → key ≡ path → mid ≡ map.insert old key v → new ≡ map.remove mid path → new ≡ old
undone_by old mid new path key v none same put out =
    out ∙ ap (λ m. map.remove m path) (put ∙ ap (λ k. map.insert old k v) same) ∙ undone old path v none

-- what is there already may be inserted again
pub inserted_again : {X : Type 0} (m : map.FinMap path_cmp X) (path : List ℕ) (v : X) → map.get m path ≡ Some v → map.insert m path v ≡ m
inserted_again m path v is =
    map.same_map nat_list_cmp_total (map.slice_cmp-IsAntisymmetric map.nat_cmp-IsAntisymmetric) (map.insert m path v) m (λ q.
    map.get-insert nat_list_cmp_total m path v q
    ∙ ⊎_elim
    (λ same. cond-true _ _ _ same ∙ sym is ∙ ap (map.get m) (sym (one_path q path (sym (same_path q path) ∙ same))))
    (λ other. cond-false _ _ _ other)
    (cases_Bool (eq_by_cmp path_cmp q path)))

get_inserted : {X : Type 0} (m : map.FinMap path_cmp X) (path : List ℕ) (v : X) → map.get (map.insert m path v) path ≡ Some v
get_inserted m path v = map.get-insert nat_list_cmp_total m path v path ∙ cond-true _ _ _ (same_path path path ∙ itself path)

-- the row that was put at a path is there
pub row_here : (m rows : map.FinMap path_cmp FileRow) (path : List ℕ) (row : FileRow) → rows ≡ map.insert m path row → map.get rows path ≡ Some row
row_here m rows path row is = ap (λ (n : map.FinMap path_cmp FileRow). map.get n path) is ∙ get_inserted m path row

pub id_here : (m rows : map.FinMap path_cmp FileRow) (path : List ℕ) (row : FileRow) → rows ≡ map.insert m path row → id_in (map.get rows path) ≡ id_by row.file row.kept
id_here m rows path row is = ap id_in (row_here m rows path row is)

-- a table with the same parts
pub same_table : (t : Files) (paths : List (List ℕ)) (rows : map.FinMap path_cmp FileRow) (before : map.FinMap path_cmp FileWas) → paths ≡ t.paths → rows ≡ t.rows → before ≡ t.before
    → record { first = t.first; paths = paths; rows = rows; before = before } ≡ t
same_table t paths rows before p r b i = record { first = t.first; paths = p i; rows = r i; before = b i }

pub same_numbered : (t : Files) (paths : List (List ℕ)) (rows : map.FinMap path_cmp FileRow) (before : map.FinMap path_cmp FileWas) → paths ≡ t.paths → rows ≡ t.rows → before ≡ t.before
    → IsNumbered t → IsNumbered (record { first = t.first; paths = paths; rows = rows; before = before })
same_numbered t paths rows before p r b numbered = subst IsNumbered (sym (same_table t paths rows before p r b)) numbered

pub put_numbered : (t u : Files) (path : List ℕ) (kept : RowState) → IsNumbered t → put_in t path kept ≡ Ok u → IsNumbered u
put_numbered t u path kept numbered is = (put_numbers t path kept u numbered (put_is t path kept u is)).numbered

pub set_numbered : (t u : Files) (path : List ℕ) (contents : Option (List ℕ)) (changed : Bool) → IsNumbered t → set_in t path contents ≡ Ok (u, changed) → IsNumbered u
set_numbered t u path contents changed numbered is =
    ⊎_elim
    (λ (_, same, _). subst IsNumbered (sym same) numbered)
    (λ (_, put, _). (put_numbers t path (kept_of contents) u numbered put).numbered)
    (set_is t u path contents changed is)

pub mark_numbered : (t u : Files) (path : List ℕ) → IsNumbered t → mark_in t path ≡ Ok u → IsNumbered u
mark_numbered t u path numbered is =
    ⊎_elim
    (λ (same, _). subst IsNumbered (sym same) numbered)
    (λ put. (put_numbers t path Excluded u numbered put).numbered)
    (mark_is t u path is)

-- the calls, by the row of the path

abbrev with_kept : List ℕ → RowState → Result (Files × FileId) TableFault → Result Files TableFault
with_kept path kept n = table_then n (λ m. Ok (put_at m.0 m.1 path kept))

abbrev as_change : Result Files TableFault → Result (Files × Bool) TableFault
as_change r = table_then r (λ u. Ok (u, true))

abbrev put_by_row : Files → List ℕ → RowState → Option FileRow → Result Files TableFault
put_by_row t path kept o = with_kept path kept (number_in t path o)

abbrev set_by_row : Files → List ℕ → Option (List ℕ) → Option FileRow → Result (Files × Bool) TableFault
set_by_row t path contents o =
    if is_marked (kept_in o) || same_contents (contents_of (kept_in o)) contents then Ok (t, false)
    else as_change (put_by_row t path (kept_of contents) o)

abbrev mark_by_row : Files → List ℕ → Option FileRow → Result Files TableFault
mark_by_row t path o = if is_marked (kept_in o) then Ok t else put_by_row t path Excluded o

put_by : (t : Files) (path : List ℕ) (kept : RowState) (o : Option FileRow) → map.get t.rows path ≡ o → put_in t path kept ≡ put_by_row t path kept o
put_by t path kept o is = ap (put_by_row t path kept) is

set_by : (t : Files) (path : List ℕ) (contents : Option (List ℕ)) (o : Option FileRow) → map.get t.rows path ≡ o → set_in t path contents ≡ set_by_row t path contents o
set_by t path contents o is = ap (set_by_row t path contents) is

mark_by : (t : Files) (path : List ℕ) (o : Option FileRow) → map.get t.rows path ≡ o → mark_in t path ≡ mark_by_row t path o
mark_by t path o is = ap (mark_by_row t path) is

-- ---- a path without a row

none_if_never : (o : Option FileWas) → ((was : FileWas) → o ≡ Some was → ⊥) → o ≡ None
none_if_never None never = refl
none_if_never (Some was) never = absurd (never was refl)

-- it wasn't touched
pub untouched : (t : Files) (path : List ℕ) → IsNumbered t → map.get t.rows path ≡ None → map.get t.before path ≡ None
untouched t path numbered none =
    none_if_never (map.get t.before path) (λ was is. none-some was.file (sym (ap (option_map (λ (r : FileRow). r.file)) none) ∙ numbered.touched path was is))

pub put_full : (t : Files) (path : List ℕ) (kept : RowState) → map.get t.rows path ≡ None → is_full t ≡ true → put_in t path kept ≡ Err Full
put_full t path kept none full =
    put_by t path kept None none ∙ ap (with_kept path kept) (cond-true _ _ _ full)

-- the parts that make the table that a put makes
pub put_made : (t : Files) (path : List ℕ) (kept : RowState) (file : FileId) (paths : List (List ℕ)) (rows : map.FinMap path_cmp FileRow) (before : map.FinMap path_cmp FileWas)
    → IsNumbered t → map.get t.rows path ≡ None → file ≡ next_file t → is_full t ≡ false → paths ≡ t.paths ++ path ∷ [] → rows ≡ map.insert t.rows path (record { file = file; kept = kept })
    → before ≡ map.insert t.before path (record { file = file; contents = None }) → put_in t path kept ≡ Ok (record { first = t.first; paths = paths; rows = rows; before = before })
put_made t path kept file paths rows before numbered none next room p r b =
    let rows_are : map.insert t.rows path (record { file = next_file t; kept = kept }) ≡ rows = (λ i. map.insert t.rows path (record { file = sym next i; kept = kept })) ∙ sym r in
    let was : map.insert t.before path (record { file = next_file t; contents = contents_at t path }) ≡ before =
    (λ i. map.insert t.before path (record { file = sym next i; contents = contents_of (kept_in (none i)) })) ∙ sym b in
    let before_is : before_of t.before path (record { file = next_file t; contents = contents_at t path }) ≡ before = cond-false _ _ _ (ap is_some (untouched t path numbered none)) ∙ was in
    put_by t path kept None none ∙ ap (with_kept path kept) (cond-false _ _ _ room)
    ∙ ap Ok (λ i. record { first = t.first; paths = sym p i; rows = rows_are i; before = before_is i })

pub set_nothing : (t : Files) (path : List ℕ) → map.get t.rows path ≡ None → set_in t path None ≡ Ok (t, false)
set_nothing t path none = set_by t path None None none

pub set_first : (t u : Files) (path bytes : List ℕ) → map.get t.rows path ≡ None → put_in t path (Contents bytes) ≡ Ok u → set_in t path (Some bytes) ≡ Ok (u, true)
set_first t u path bytes none put =
    set_by t path (Some bytes) None none ∙ ap as_change (sym (put_by t path (Contents bytes) None none) ∙ put)

pub set_full : (t : Files) (path bytes : List ℕ) → map.get t.rows path ≡ None → put_in t path (Contents bytes) ≡ Err Full → set_in t path (Some bytes) ≡ Err Full
set_full t path bytes none put =
    set_by t path (Some bytes) None none ∙ ap as_change (sym (put_by t path (Contents bytes) None none) ∙ put)

pub mark_first : (t : Files) (path : List ℕ) → map.get t.rows path ≡ None → mark_in t path ≡ put_in t path Excluded
mark_first t path none = mark_by t path None none ∙ sym (put_by t path Excluded None none)

pub add_first : (t : Files) (path : List ℕ) (contents : Option (List ℕ)) → map.get t.rows path ≡ None → add_in t path contents ≡ set_in t path contents
add_first t path contents none = cond-false _ _ _ (ap (λ o. is_some (id_in o)) none)

-- ---- a path with a row

abbrev Parts : Type 0
Parts = FileRow × map.FinMap path_cmp FileWas × Bool

-- the table that has these parts at a path
abbrev with_parts : Files → List ℕ → Parts → Files × Bool
with_parts t path (row, before, changed) = (record t { rows = map.insert t.rows path row; before = before }, changed)

pub set_there : (t : Files) (path : List ℕ) (contents : Option (List ℕ)) (row : FileRow) → map.get t.rows path ≡ Some row → set_in t path contents ≡ Ok (with_parts t path (set_row row t.before path contents))
set_there t path contents row is =
    let test = is_marked row.kept || same_contents (contents_of row.kept) contents in
    let was : contents_at t path ≡ contents_of row.kept = ap (λ o. contents_of (kept_in o)) is in
    set_by t path contents (Some row) is
    ∙ ⊎_elim
    (λ stays.
    cond-true _ _ _ stays
    ∙ ap (λ (m : map.FinMap path_cmp FileRow). Ok (record t { rows = m }, false)) (sym (inserted_again t.rows path row is))
    ∙ ap (λ (p : Parts). Ok (with_parts t path p)) (sym (cond-true _ _ _ stays)))
    (λ changes.
    cond-false _ _ _ changes
    ∙ ap (λ c. Ok (record t { rows = map.insert t.rows path (record { file = row.file; kept = kept_of contents }); before = before_of t.before path (record { file = row.file; contents = c }) }, true)) was
    ∙ ap (λ (p : Parts). Ok (with_parts t path p)) (sym (cond-false _ _ _ changes)))
    (cases_Bool test)

-- the parts that make the table that a set makes
pub set_made : (t : Files) (path : List ℕ) (contents : Option (List ℕ)) (row now : FileRow) (rows : map.FinMap path_cmp FileRow) (before : map.FinMap path_cmp FileWas) (changed : Bool)
    → map.get t.rows path ≡ Some row → (now, before, changed) ≡ set_row row t.before path contents → rows ≡ map.insert t.rows path now
    → set_in t path contents ≡ Ok (record { first = t.first; paths = t.paths; rows = rows; before = before }, changed)
set_made t path contents row now rows before changed is made put =
    set_there t path contents row is ∙ ap (λ (p : Parts). Ok (with_parts t path p)) (sym made)
    ∙ ap (λ (m : map.FinMap path_cmp FileRow). Ok (record { first = t.first; paths = t.paths; rows = m; before = before }, changed)) (sym put)

abbrev Marked : Type 0
Marked = FileRow × map.FinMap path_cmp FileWas

abbrev with_marked : Files → List ℕ → Marked → Files
with_marked t path (row, before) = record t { rows = map.insert t.rows path row; before = before }

mark_there : (t : Files) (path : List ℕ) (row : FileRow) → map.get t.rows path ≡ Some row → mark_in t path ≡ Ok (with_marked t path (mark_row row t.before path))
mark_there t path row is =
    let was : contents_at t path ≡ contents_of row.kept = ap (λ o. contents_of (kept_in o)) is in
    mark_by t path (Some row) is
    ∙ ⊎_elim
    (λ stays.
    cond-true _ _ _ stays
    ∙ ap (λ (m : map.FinMap path_cmp FileRow). Ok (record t { rows = m })) (sym (inserted_again t.rows path row is))
    ∙ ap (λ (p : Marked). Ok (with_marked t path p)) (sym (cond-true _ _ _ stays)))
    (λ changes.
    cond-false _ _ _ changes
    ∙ ap (λ c. Ok (record t { rows = map.insert t.rows path (record { file = row.file; kept = Excluded }); before = before_of t.before path (record { file = row.file; contents = c }) })) was
    ∙ ap (λ (p : Marked). Ok (with_marked t path p)) (sym (cond-false _ _ _ changes)))
    (cases_Bool (is_marked row.kept))

pub mark_made : (t : Files) (path : List ℕ) (row now : FileRow) (rows : map.FinMap path_cmp FileRow) (before : map.FinMap path_cmp FileWas)
    → map.get t.rows path ≡ Some row → (now, before) ≡ mark_row row t.before path → rows ≡ map.insert t.rows path now → mark_in t path ≡ Ok (record { first = t.first; paths = t.paths; rows = rows; before = before })
mark_made t path row now rows before is made put =
    mark_there t path row is ∙ ap (λ (p : Marked). Ok (with_marked t path p)) (sym made)
    ∙ ap (λ (m : map.FinMap path_cmp FileRow). Ok (record { first = t.first; paths = t.paths; rows = m; before = before })) (sym put)

add_there : (t : Files) (path : List ℕ) (contents : Option (List ℕ)) (row : FileRow) → map.get t.rows path ≡ Some row → add_in t path contents ≡ Ok (with_parts t path (add_row row t.before path contents))
add_there t path contents row is =
    let here : is_some (file_id_of t path) ≡ is_some (id_by row.file row.kept) = ap (λ o. is_some (id_in o)) is in
    ⊎_elim
    (λ known.
    cond-true _ _ _ (here ∙ known)
    ∙ ap (λ (m : map.FinMap path_cmp FileRow). Ok (record t { rows = m }, false)) (sym (inserted_again t.rows path row is))
    ∙ ap (λ (p : Parts). Ok (with_parts t path p)) (sym (cond-true _ _ _ known)))
    (λ unknown.
    cond-false _ _ _ (here ∙ unknown)
    ∙ set_there t path contents row is
    ∙ ap (λ (p : Parts). Ok (with_parts t path p)) (sym (cond-false _ _ _ unknown)))
    (cases_Bool (is_some (id_by row.file row.kept)))

pub add_made : (t : Files) (path : List ℕ) (contents : Option (List ℕ)) (row now : FileRow) (rows : map.FinMap path_cmp FileRow) (before : map.FinMap path_cmp FileWas) (changed : Bool)
    → map.get t.rows path ≡ Some row → (now, before, changed) ≡ add_row row t.before path contents → rows ≡ map.insert t.rows path now
    → add_in t path contents ≡ Ok (record { first = t.first; paths = t.paths; rows = rows; before = before }, changed)
add_made t path contents row now rows before changed is made put =
    add_there t path contents row is ∙ ap (λ (p : Parts). Ok (with_parts t path p)) (sym made)
    ∙ ap (λ (m : map.FinMap path_cmp FileRow). Ok (record { first = t.first; paths = t.paths; rows = m; before = before }, changed)) (sym put)

-- nothing was put
pub stays_same : (t : Files) (path : List ℕ) (row now : FileRow) (rows : map.FinMap path_cmp FileRow) (before : map.FinMap path_cmp FileWas)
    → map.get t.rows path ≡ Some row → now ≡ row → before ≡ t.before → rows ≡ map.insert t.rows path now → record { first = t.first; paths = t.paths; rows = rows; before = before } ≡ t
stays_same t path row now rows before is same b put =
    same_table t t.paths rows before refl (put ∙ ap (map.insert t.rows path) same ∙ inserted_again t.rows path row is) b

abbrev made_by : Files → Result (Files × Bool) TableFault → Files
made_by t (Ok made) = made.0
made_by t (Err e) = t

pub add_numbered : (t u : Files) (path : List ℕ) (contents : Option (List ℕ)) (changed : Bool) → IsNumbered t → add_in t path contents ≡ Ok (u, changed) → IsNumbered u
add_numbered t u path contents changed numbered is =
    ⊎_elim
    (λ known. subst IsNumbered (ap (made_by t) (sym (cond-true _ _ _ known) ∙ is)) numbered)
    (λ unknown. set_numbered t u path contents changed numbered (sym (cond-false _ _ _ unknown) ∙ is))
    (cases_Bool (is_some (file_id_of t path)))

-- what is lent at a path's row, where there is one
pub lent : {P : Type 0} (r : Option (MutBor FileRow)) (row : MutBor FileRow) → r ≡ Some row → OnSome r P → P
lent {P = P} r row is h = subst (λ o. OnSome o P) is h

pub ruleset parts = (undone, row_here, id_here, same_table, same_numbered, put_numbered, set_numbered, mark_numbered, add_numbered, untouched, put_full, put_made, set_nothing, set_first, set_full, mark_first, add_first, set_made, mark_made, add_made, stays_same)
