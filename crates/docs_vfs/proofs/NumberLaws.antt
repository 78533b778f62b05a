-- Numbers and paths are inverse.
use Rattle.std.proofs.Common.{◌≡◌, ℕ, ◌+◌, ◌-◌, ◌<◌, ◌≤◌, Bool, true, false, List, [], ◌∷◌, ◌++◌, length, Option, Some, None, Ok, sym, refl, ap, subst, ◌∙◌, ⊎_elim, arith, zero, suc, length-append, unwrap_or}
use Rattle.std.specs.Prelude.{bytes_eq, cond, is_some, nat_lt, slice_get}
use Rattle.std.specs.Option.{option_map}
use Rattle.std.specs.FinMap as map
use Rattle.std.proofs.lemmas.Bool.{cases_Bool, cond-true, cond-false, true≢false}
use Rattle.std.proofs.lemmas.Bool.Decides.{nat_tests}
use Rattle.std.proofs.lemmas.Option.{none-some, slice_get_within}
use Rattle.docs_vfs.specs.declared.file_kinds.FileId.{FileId}
use Rattle.docs_vfs.specs.declared.file_kinds.FileRow.{FileRow}
use Rattle.docs_vfs.specs.declared.file_kinds.FileWas.{FileWas}
use Rattle.docs_vfs.specs.declared.file_kinds.RowState.{RowState}
use Rattle.docs_vfs.specs.declared.file_kinds.RowState.TheVariants.{Excluded}
use Rattle.docs_vfs.specs.Paths.{path_cmp}
use Rattle.docs_vfs.specs.Files.{Files, new_files, kept_in, contents_at, is_marked, kept_of, path_at, next_file, set_in, mark_in}
use Rattle.docs_vfs.specs.FileLaws.{number_at, IsNumbered, KeepsNumbers}
use Rattle.docs_vfs.proofs.PutLemmas.{Put, row_after, before_after, one_path, itself, set_is, mark_is}

abbrev number_of_row : Option FileRow → Option FileId
number_of_row o = option_map (λ (r : FileRow). r.file) o

number_cond : (b : Bool) (row : FileRow) (o : Option FileRow) → number_of_row (cond b (Some row) o) ≡ cond b (Some row.file) (number_of_row o)
number_cond true row o = refl
number_cond false row o = refl

number_after : (t : Files) (path : List ℕ) (kept : RowState) (u : Files) (put : Put t path kept u) (q : List ℕ) → number_at u q ≡ cond (bytes_eq q path) (Some put.file) (number_at t q)
number_after t path kept u put q =
    ap number_of_row (row_after t path kept u put q) ∙ number_cond (bytes_eq q path) (record { file = put.file; kept = kept }) (map.get t.rows q)

some_is : {A : Type 0} (x y : A) → Some x ≡ Some y → x ≡ y
some_is x y is = ap (λ o. unwrap_or o x) is

-- ---- the paths, and one more

pushed_left : (xs : List (List ℕ)) (y : List ℕ) (i : ℕ) → i < length xs → slice_get (xs ++ y ∷ []) i ≡ slice_get xs i
pushed_left [] y i less = absurd (omega arith)
pushed_left (x ∷ xs) y zero less = refl
pushed_left (x ∷ xs) y (suc i) less = pushed_left xs y i (omega arith)

pushed_last : (xs : List (List ℕ)) (y : List ℕ) → slice_get (xs ++ y ∷ []) (length xs) ≡ Some y
pushed_last [] y = refl
pushed_last (x ∷ xs) y = pushed_last xs y

abbrev pub place_in : ℕ → List (List ℕ) → ℕ → Option (List ℕ)
place_in first paths n = cond (nat_lt n first) None (slice_get paths (n - first))

pub found_at : (first n : ℕ) (paths : List (List ℕ)) (q : List ℕ) → place_in first paths n ≡ Some q → (first ≤ n) × (slice_get paths (n - first) ≡ Some q)
found_at first n paths q is =
    ⊎_elim
    (λ below. absurd (none-some q (sym (cond-true _ _ _ below) ∙ is)))
    (λ from. (grind (arith, nat_tests), sym (cond-false _ _ _ from) ∙ is))
    (cases_Bool (nat_lt n first))

pub place_at : (first n : ℕ) (paths : List (List ℕ)) (q : List ℕ) → first ≤ n → slice_get paths (n - first) ≡ Some q → place_in first paths n ≡ Some q
place_at first n paths q from is = cond-false (nat_lt n first) None (slice_get paths (n - first)) (grind (arith, nat_tests)) ∙ is

-- ---- a put

record Grows (t u : Files) : Type 0 where
  kept : (q : List ℕ) (f : FileId) → number_at t q ≡ Some f → number_at u q ≡ Some f

touched_after : (t : Files) (path : List ℕ) (kept : RowState) (u : Files) (put : Put t path kept u) → IsNumbered t → Grows t u
    → (q : List ℕ) (was : FileWas) → map.get u.before q ≡ Some was → number_at u q ≡ Some was.file
touched_after t path kept u put numbered grows q was is =
    let here : FileWas = record { file = put.file; contents = contents_at t path } in
    let rows = sym (ap (λ (m : map.FinMap path_cmp FileWas). map.get m q) put.before ∙ before_after t path here q) ∙ is in
    let older : map.get t.before q ≡ Some was → number_at u q ≡ Some was.file = λ e. grows.kept q was.file (numbered.touched q was e) in
    ⊎_elim
    (λ some. older (sym (cond-true _ _ _ some) ∙ rows))
    (λ none.
    let rest = sym (cond-false _ _ _ none) ∙ rows in
    ⊎_elim
    (λ same.
    number_after t path kept u put q ∙ cond-true _ _ _ same ∙ ap (λ (w : FileWas). Some w.file) (some_is here was (sym (cond-true _ _ _ same) ∙ rest)))
    (λ other. older (sym (cond-false _ _ _ other) ∙ rest))
    (cases_Bool (bytes_eq q path)))
    (cases_Bool (is_some (map.get t.before path)))

put_old : (t : Files) (path : List ℕ) (kept : RowState) (u : Files) (put : Put t path kept u) → IsNumbered t → number_at t path ≡ Some put.file → u.paths ≡ t.paths → KeepsNumbers t path u
put_old t path kept u put numbered old paths =
    let same : (q : List ℕ) → number_at u q ≡ number_at t q = λ q.
    number_after t path kept u put q ∙ ⊎_elim
    (λ is. cond-true _ _ _ is ∙ sym old ∙ ap (number_at t) (sym (one_path q path is)))
    (λ other. cond-false _ _ _ other)
    (cases_Bool (bytes_eq q path)) in
    let place : (f : FileId) → path_at u f ≡ path_at t f = λ f i. place_in (put.first i) (paths i) f.0 in
    let grows : Grows t u = record { kept = λ q f is. same q ∙ is } in
    record {
      numbered = record {
        path_of = λ q f is. place f ∙ numbered.path_of q f (sym (same q) ∙ is);
        number_of = λ q f is. same q ∙ numbered.number_of q f (sym (place f) ∙ is);
        touched = touched_after t path kept u put numbered grows;
      };
      kept = grows.kept;
      first = put.first;
      order = paths ∙ sym (cond-true _ _ _ (ap is_some old));
    }

next_place : (first n : ℕ) → (first + n) - first ≡ n
next_place first n = omega arith

put_new : (t : Files) (path : List ℕ) (kept : RowState) (u : Files) (put : Put t path kept u) → IsNumbered t → number_at t path ≡ None → put.file ≡ next_file t → u.paths ≡ t.paths ++ path ∷ [] → KeepsNumbers t path u
put_new t path kept u put numbered none is_next paths =
    let place : (f : FileId) → path_at u f ≡ place_in t.first (t.paths ++ path ∷ []) f.0 = λ f i. place_in (put.first i) (paths i) f.0 in
    let keep : (q : List ℕ) (f : FileId) → number_at t q ≡ Some f → number_at u q ≡ Some f = λ q f is.
    number_after t path kept u put q ∙ ⊎_elim
    (λ same. absurd (none-some f (sym none ∙ ap (number_at t) (sym (one_path q path same)) ∙ is)))
    (λ other. cond-false _ _ _ other ∙ is)
    (cases_Bool (bytes_eq q path)) in
    let grows : Grows t u = record { kept = keep } in
    let file_is : put.file.0 ≡ t.first + length t.paths = ap (λ (f : FileId). f.0) is_next in
    let last_path : path_at u put.file ≡ Some path =
    place put.file ∙ place_at t.first put.file.0 (t.paths ++ path ∷ []) path (omega (arith, file_is))
    (ap (slice_get (t.paths ++ path ∷ [])) (ap (λ n. n - t.first) file_is ∙ next_place t.first (length t.paths)) ∙ pushed_last t.paths path) in
    record {
      numbered = record {
        path_of = λ q f is. (
            let at = sym (number_after t path kept u put q) ∙ is in
            ⊎_elim
            (λ same. ap (path_at u) (sym (some_is put.file f (sym (cond-true _ _ _ same) ∙ at))) ∙ last_path ∙ ap Some (sym (one_path q path same)))
            (λ other.
            let p = found_at t.first f.0 t.paths q (numbered.path_of q f (sym (cond-false _ _ _ other) ∙ at)) in
            place f ∙ place_at t.first f.0 (t.paths ++ path ∷ []) q p.0 (pushed_left t.paths path (f.0 - t.first) (slice_get_within t.paths (f.0 - t.first) q p.1) ∙ p.1))
            (cases_Bool (bytes_eq q path)));
        number_of = λ q f is. (
            let p = found_at t.first f.0 (t.paths ++ path ∷ []) q (sym (place f) ∙ is) in
            ⊎_elim
            (λ less.
            let within : (f.0 - t.first) < length t.paths = grind (arith, nat_tests) in
            keep q f (numbered.number_of q f (place_at t.first f.0 t.paths q p.0 (sym (pushed_left t.paths path (f.0 - t.first) within) ∙ p.1))))
            (λ last.
            let within = slice_get_within (t.paths ++ path ∷ []) (f.0 - t.first) q p.1 in
            let after : length t.paths ≤ f.0 - t.first = grind (arith, nat_tests) in
            let at : f.0 - t.first ≡ length t.paths = omega (arith, within, after, length-append t.paths (path ∷ [])) in
            let same : path ≡ q = some_is path q (sym (ap (slice_get (t.paths ++ path ∷ [])) at ∙ pushed_last t.paths path) ∙ p.1) in
            let number : put.file.0 ≡ f.0 = omega (arith, at, file_is, p.0) in
            let file_same : put.file ≡ f = λ i. record { 0 = number i } in
            number_after t path kept u put q ∙ cond-true _ _ _ (ap (λ x. bytes_eq x path) (sym same) ∙ itself path) ∙ ap Some file_same)
            (cases_Bool (nat_lt (f.0 - t.first) (length t.paths))));
        touched = touched_after t path kept u put numbered grows;
      };
      kept = keep;
      first = put.first;
      order = paths ∙ sym (cond-false _ _ _ (ap is_some none));
    }

pub put_numbers : (t : Files) (path : List ℕ) (kept : RowState) (u : Files) → IsNumbered t → Put t path kept u → KeepsNumbers t path u
put_numbers t path kept u numbered put =
    ⊎_elim
    (λ (old, paths). put_old t path kept u put numbered old paths)
    (λ (none, is_next, paths). put_new t path kept u put numbered none is_next paths)
    put.number

-- ---- the calls

pub none_numbered : (first : ℕ) → IsNumbered (new_files first)
none_numbered first = record {
  path_of = λ q f is. absurd (none-some f (sym (ap number_of_row (map.get-empty path_cmp q)) ∙ is));
  number_of = λ q f is. absurd (none-some q (found_at first f.0 [] q is).1);
  touched = λ q was is. absurd (none-some was (sym (map.get-empty path_cmp q) ∙ is));
}

pub taken_numbered : (t : Files) → IsNumbered t → IsNumbered (record t { before = map.empty })
taken_numbered t numbered = record {
  path_of = numbered.path_of;
  number_of = numbered.number_of;
  touched = λ q was is. absurd (none-some was (sym (map.get-empty path_cmp q) ∙ is));
}

pub set_numbers : (t u : Files) (path : List ℕ) (contents : Option (List ℕ)) (changed : Bool) → IsNumbered t → set_in t path contents ≡ Ok (u, changed) → changed ≡ true → KeepsNumbers t path u
set_numbers t u path contents changed numbered is changes =
    ⊎_elim
    (λ (no_change, _, _). absurd (true≢false (sym changes ∙ no_change)))
    (λ (_, put, _). put_numbers t path (kept_of contents) u numbered put)
    (set_is t u path contents changed is)

marked_number : (o : Option FileRow) → is_marked (kept_in o) ≡ true → is_some (number_of_row o) ≡ true
marked_number None marked = absurd (true≢false (sym marked))
marked_number (Some row) marked = refl

pub mark_numbers : (t u : Files) (path : List ℕ) → IsNumbered t → mark_in t path ≡ Ok u → KeepsNumbers t path u
mark_numbers t u path numbered is =
    ⊎_elim
    (λ (same, marked). subst (KeepsNumbers t path) (sym same) (record {
      numbered = numbered;
      kept = λ q f e. e;
      first = refl;
      order = sym (cond-true _ _ _ (marked_number (map.get t.rows path) marked));
    }))
    (λ put. put_numbers t path Excluded u numbered put)
    (mark_is t u path is)
