-- After every run the paths stand in the order in which they first got contents or a mark.
use Rattle.std.proofs.Common.{◌≡◌, ℕ, ◌+◌, ◌-◌, Bool, true, false, ◌||◌, List, [], ◌∷◌, ◌++◌, length, Option, Some, None, Ok, Err, Result, sym, refl, ap, subst, ◌∙◌, ⊎_elim, arith, zero, suc}
use Rattle.std.specs.Prelude.{bytes_eq, is_some, nat_le, slice_get}
use Rattle.std.specs.List.{list_any}
use Rattle.std.specs.Option.{option_map}
use Rattle.std.specs.FinMap as map
use Rattle.std.proofs.lemmas.Bool.{cases_Bool, cond-true, cond-false, or_left, or_right, true≢false}
use Rattle.std.proofs.lemmas.Option.{none-some, same_Some}
use Rattle.std.specs.Result.{is_ok}
use Rattle.docs_vfs.specs.declared.file_kinds.FileId.{FileId}
use Rattle.docs_vfs.specs.declared.file_kinds.FileRow.{FileRow}
use Rattle.docs_vfs.specs.declared.file_kinds.RowState.{RowState}
use Rattle.docs_vfs.specs.declared.file_kinds.RowState.TheVariants.{Nothing, Excluded}
use Rattle.docs_vfs.specs.declared.file_kinds.TableFault.{TableFault}
use Rattle.docs_vfs.specs.declared.file_kinds.TableFault.TheVariants.{Full}
use Rattle.docs_vfs.specs.Files.{Files, kept_in, kept_at, contents_of, contents_at, is_marked, kept_of, same_contents, number_in, put_at, put_in, set_in, mark_in, table_then}
use Rattle.docs_vfs.specs.FileLaws.{number_at, IsNumbered}
use Rattle.docs_vfs.specs.FileRuns.{Call, set_or, mark_or, after, add_name, named}
use Rattle.docs_vfs.specs.FileRuns.Call.{Sets, Marks, Takes}
use Rattle.docs_vfs.proofs.PutLemmas.{put_is, itself, one_path}
use Rattle.docs_vfs.proofs.NumberLaws.{found_at, place_at}
use Rattle.docs_vfs.proofs.RunLaws.{run_numbered}

err_is_not_ok : {A : Type 0} (e : TableFault) (x : A) → Err e ≡ Ok x → ⊥
err_is_not_ok e x same = true≢false (sym (ap is_ok same))

-- ---- a path that has a number is among the paths

any_there : (xs : List (List ℕ)) (i : ℕ) (x : List ℕ) → slice_get xs i ≡ Some x → list_any (bytes_eq x) xs ≡ true
any_there [] i x is = absurd (none-some x is)
any_there (y ∷ xs) zero x is = or_left (bytes_eq x y) (list_any (bytes_eq x) xs) (ap (bytes_eq x) (same_Some y x is) ∙ itself x)
any_there (y ∷ xs) (suc i) x is = or_right (bytes_eq x y) (list_any (bytes_eq x) xs) (any_there xs i x is)

later : (a b : Bool) → (a || b) ≡ true → a ≡ false → b ≡ true
later true b some none = absurd (true≢false none)
later false b some none = some

record Stands (xs : List (List ℕ)) (x : List ℕ) : Type 0 where
  place : ℕ
  is : slice_get xs place ≡ Some x

there : (xs : List (List ℕ)) (x : List ℕ) → list_any (bytes_eq x) xs ≡ true → Stands xs x
there [] x some = absurd (true≢false (sym some))
there (y ∷ xs) x some =
    ⊎_elim
    (λ here. record { place = 0; is = ap Some (sym (one_path x y here)) })
    (λ other. let s = there xs x (later (bytes_eq x y) (list_any (bytes_eq x) xs) some other) in record { place = suc s.place; is = s.is })
    (cases_Bool (bytes_eq x y))

known : (t : Files) (path : List ℕ) (file : FileId) → IsNumbered t → number_at t path ≡ Some file → list_any (bytes_eq path) t.paths ≡ true
known t path file numbered is =
    any_there t.paths (file.0 - t.first) path (found_at t.first file.0 t.paths path (numbered.path_of path file is)).1

unknown : (t : Files) (path : List ℕ) → IsNumbered t → number_at t path ≡ None → list_any (bytes_eq path) t.paths ≡ false
unknown t path numbered none =
    ⊎_elim
    (λ some.
    let s = there t.paths path some in
    let at : (t.first + s.place) - t.first ≡ s.place = omega arith in
    let file : FileId = record { 0 = t.first + s.place } in
    absurd (none-some file (sym none ∙ numbered.number_of path file (place_at t.first (t.first + s.place) t.paths path (omega arith) (ap (slice_get t.paths) at ∙ s.is)))))
    (λ no. no)
    (cases_Bool (list_any (bytes_eq path) t.paths))

-- ---- a put names its path

add_known : (t : Files) (path : List ℕ) (file : FileId) → IsNumbered t → number_at t path ≡ Some file → t.paths ≡ add_name t.first path t.paths
add_known t path file numbered is = sym (cond-true _ _ _ (or_left _ (nat_le 4294967295 (t.first + length t.paths)) (known t path file numbered is)))

add_full : (t : Files) (path : List ℕ) → nat_le 4294967295 (t.first + length t.paths) ≡ true → t.paths ≡ add_name t.first path t.paths
add_full t path full = sym (cond-true _ _ _ (or_right (list_any (bytes_eq path) t.paths) _ full))

add_next : (t : Files) (path : List ℕ) → IsNumbered t → number_at t path ≡ None → nat_le 4294967295 (t.first + length t.paths) ≡ false → t.paths ++ path ∷ [] ≡ add_name t.first path t.paths
add_next t path numbered none room =
    sym (cond-false _ _ _ (ap (λ b. b || nat_le 4294967295 (t.first + length t.paths)) (unknown t path numbered none) ∙ room))

no_row : (o : Option FileRow) → option_map (λ (r : FileRow). r.file) o ≡ None → o ≡ None
no_row None none = refl
no_row (Some row) none = absurd (none-some row.file (sym none))

-- a path without a number, put into a full table and into one that isn't
full_put : (t : Files) (path : List ℕ) (kept : RowState) → number_at t path ≡ None → nat_le 4294967295 (t.first + length t.paths) ≡ true → put_in t path kept ≡ Err Full
full_put t path kept none full =
    ap (λ o. table_then (number_in t path o) (λ n. Ok (put_at n.0 n.1 path kept))) (no_row (map.get t.rows path) none)
    ∙ ap (λ r. table_then r (λ n. Ok (put_at n.0 n.1 path kept))) (cond-true _ _ _ full)

record Named (t : Files) (path : List ℕ) (u : Files) : Type 0 where
  first : u.first ≡ t.first
  paths : u.paths ≡ add_name t.first path t.paths

refused : (t : Files) (path : List ℕ) (kept : RowState) → IsNumbered t → (e : TableFault) (o : Option FileRow) → map.get t.rows path ≡ o → put_in t path kept ≡ Err e → t.paths ≡ add_name t.first path t.paths
refused t path kept numbered e (Some row) has is = add_known t path row.file numbered (ap (option_map (λ (r : FileRow). r.file)) has)
refused t path kept numbered e None has is =
    ⊎_elim
    (λ full. add_full t path full)
    (λ room. absurd (err_is_not_ok e _ (sym is ∙ ap (λ o. table_then (number_in t path o) (λ n. Ok (put_at n.0 n.1 path kept))) has ∙ ap (λ r. table_then r (λ n. Ok (put_at n.0 n.1 path kept))) (cond-false _ _ _ room))))
    (cases_Bool (nat_le 4294967295 (t.first + length t.paths)))

put_named : (t : Files) (path : List ℕ) (kept : RowState) → IsNumbered t → (r : Result Files TableFault) → put_in t path kept ≡ r → Named t path (mark_or t r)
put_named t path kept numbered (Ok u) is =
    let put = put_is t path kept u is in
    record {
      first = put.first;
      paths = ⊎_elim
          (λ (old, paths). paths ∙ add_known t path put.file numbered old)
          (λ (none, next, paths). ⊎_elim
          (λ full. absurd (err_is_not_ok Full u (sym (full_put t path kept none full) ∙ is)))
          (λ room. paths ∙ add_next t path numbered none room)
          (cases_Bool (nat_le 4294967295 (t.first + length t.paths))))
          put.number;
    }
put_named t path kept numbered (Err e) is = record { first = refl; paths = refused t path kept numbered e (map.get t.rows path) refl is }

-- ---- the calls

has_row : (t : Files) (path : List ℕ) (o : Option FileRow) → map.get t.rows path ≡ o → IsNumbered t → is_some o ≡ true → Named t path t
has_row t path None is numbered some = absurd (true≢false (sym some))
has_row t path (Some row) is numbered some = record { first = refl; paths = add_known t path row.file numbered (ap (option_map (λ (r : FileRow). r.file)) is) }

kept_row : (o : Option FileRow) (bytes : List ℕ) → (is_marked (kept_in o) || same_contents (contents_of (kept_in o)) (Some bytes)) ≡ true → is_some o ≡ true
kept_row None bytes stays = absurd (true≢false (sym stays))
kept_row (Some row) bytes stays = refl

marked_row : (o : Option FileRow) → is_marked (kept_in o) ≡ true → is_some o ≡ true
marked_row None marked = absurd (true≢false (sym marked))
marked_row (Some row) marked = refl

full_row : (o : Option FileRow) → (is_marked (kept_in o) || same_contents (contents_of (kept_in o)) None) ≡ false → is_some o ≡ true
full_row None apart = absurd (true≢false apart)
full_row (Some row) apart = refl

set_or_put : (t : Files) (r : Result Files TableFault) → set_or t (table_then r (λ u. Ok (u, true))) ≡ mark_or t r
set_or_put t (Ok u) = refl
set_or_put t (Err e) = refl

set_named : (t : Files) (path bytes : List ℕ) → IsNumbered t → Named t path (set_or t (set_in t path (Some bytes)))
set_named t path bytes numbered =
    ⊎_elim
    (λ stays. subst (Named t path) (sym (ap (set_or t) (cond-true _ _ _ stays))) (has_row t path (map.get t.rows path) refl numbered (kept_row (map.get t.rows path) bytes stays)))
    (λ apart. subst (Named t path) (sym (ap (set_or t) (cond-false _ _ _ apart) ∙ set_or_put t (put_in t path (kept_of (Some bytes)))))
    (put_named t path (kept_of (Some bytes)) numbered (put_in t path (kept_of (Some bytes))) refl))
    (cases_Bool (is_marked (kept_at t path) || same_contents (contents_at t path) (Some bytes)))

record Same (t u : Files) : Type 0 where
  first : u.first ≡ t.first
  paths : u.paths ≡ t.paths

unset_named : (t : Files) (path : List ℕ) → IsNumbered t → Same t (set_or t (set_in t path None))
unset_named t path numbered =
    ⊎_elim
    (λ stays. subst (Same t) (sym (ap (set_or t) (cond-true _ _ _ stays))) (record { first = refl; paths = refl }))
    (λ apart.
    let n = put_named t path Nothing numbered (put_in t path Nothing) refl in
    let has = has_row t path (map.get t.rows path) refl numbered (full_row (map.get t.rows path) apart) in
    subst (Same t) (sym (ap (set_or t) (cond-false _ _ _ apart) ∙ set_or_put t (put_in t path Nothing))) (record { first = n.first; paths = n.paths ∙ sym has.paths }))
    (cases_Bool (is_marked (kept_at t path) || same_contents (contents_at t path) None))

mark_named : (t : Files) (path : List ℕ) → IsNumbered t → Named t path (mark_or t (mark_in t path))
mark_named t path numbered =
    ⊎_elim
    (λ marked. subst (Named t path) (sym (ap (mark_or t) (cond-true _ _ _ marked))) (has_row t path (map.get t.rows path) refl numbered (marked_row (map.get t.rows path) marked)))
    (λ plain. subst (Named t path) (sym (ap (mark_or t) (cond-false _ _ _ plain))) (put_named t path Excluded numbered (put_in t path Excluded) refl))
    (cases_Bool (is_marked (kept_at t path)))

-- ---- runs

record Ordered (first : ℕ) (run : List Call) : Type 0 where
  same : (after first run).first ≡ first
  order : (after first run).paths ≡ named first run

one_named : (first : ℕ) (run : List Call) (path : List ℕ) (u : Files) → Ordered first run → Named (after first run) path u → (u.first ≡ first) × (u.paths ≡ add_name first path (named first run))
one_named first run path u o n = (n.first ∙ o.same, n.paths ∙ (λ i. add_name (o.same i) path (o.order i)))

ordered : (first : ℕ) (run : List Call) → Ordered first run
ordered first [] = record { same = refl; order = refl }
ordered first (Takes ∷ run) = let o = ordered first run in record { same = o.same; order = o.order }
ordered first (Sets path None ∷ run) =
    let o = ordered first run in
    let s = unset_named (after first run) path (run_numbered first run) in
    record { same = s.first ∙ o.same; order = s.paths ∙ o.order }
ordered first (Sets path (Some bytes) ∷ run) =
    let n = one_named first run path _ (ordered first run) (set_named (after first run) path bytes (run_numbered first run)) in
    record { same = n.0; order = n.1 }
ordered first (Marks path ∷ run) =
    let n = one_named first run path _ (ordered first run) (mark_named (after first run) path (run_numbered first run)) in
    record { same = n.0; order = n.1 }

pub run_named : (first : ℕ) (run : List Call) → (after first run).paths ≡ named first run
run_named first run = (ordered first run).order
