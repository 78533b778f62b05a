-- A folder that holds a path, and how long another may be: between a folder and the one above it stands none.
use Rattle.std.proofs.Common.{◌≡◌, ℕ, ◌+◌, ◌<◌, ◌≤◌, true, false, ◌||◌, ◌==◌, nat_eq, List, [], ◌∷◌, ◌++◌, length, take, drop, zero, suc, Bor, sym, refl, ap, subst, ◌∙◌, ⊎_elim, arith, append_assoc, append-nil, length-append, take_at}
use Rattle.std.specs.Prelude.{slice_index, Option, Some, None, MatchOption, IfSome}
use Rattle.std.specs.Option.{option_copied}
use Rattle.std.specs.List.{list_any, starts_with}
use Rattle.std.proofs.Math.Seq.{get_or-append_seam}
use Rattle.std.proofs.lemmas.Bool.{cases_Bool, cond-true, true≢false, and_from, and_parts, or_left, or_right, or_from, eq-eqb, eqb-true, ne_eqb}
use Rattle.std.proofs.lemmas.Bool.Decides.{Decides-eqb, nat_tests}
use Rattle.std.proofs.lemmas.Slice.Eq.{starts_is}
use Rattle.docs_vfs.specs.Paths.{is_slash, is_path, is_within, parent_of}
use Rattle.docs_vfs.specs.Fronts.{whole, IsFolderOf}
use Rattle.docs_vfs.proofs.PathLemmas.{or_left_false, or_right_false, or_right_true}
use Rattle.docs_vfs.proofs.FrontLemmas.{whole_cons, parent_is}
use Rattle.docs_vfs.proofs.WithinLemmas.{begins_with_folder-is_within}

-- the path begins with the folder, and then comes a slash or the end, or the folder is `/`
pub record IsAncestor (folder path : List ℕ) : Type 0 where
  pub folder_is : is_path folder ≡ true
  pub rest : List ℕ
  pub is : path ≡ folder ++ rest
  pub ends : (length folder == 1 || length path == length folder || is_slash (slice_index path (length folder))) ≡ true

starts : (folder path rest : List ℕ) → path ≡ folder ++ rest → starts_with nat_eq path folder ≡ true
starts folder path rest is = (starts_is Decides-eqb path folder _ refl).1 rest is

pub ancestor_within : (folder path : List ℕ) → is_path path ≡ true → IsAncestor folder path → is_within folder path ≡ true
ancestor_within folder path path_is a =
    sym (begins_with_folder-is_within folder path a.folder_is path_is) ∙ and_from _ _ (starts folder path a.rest a.is) a.ends

pub within_ancestor : (folder path : List ℕ) → is_path folder ≡ true → is_path path ≡ true → is_within folder path ≡ true → IsAncestor folder path
within_ancestor folder path folder_is path_is within =
    let both = and_parts (starts_with nat_eq path folder) _ (begins_with_folder-is_within folder path folder_is path_is ∙ within) in
    record { folder_is = folder_is; rest = drop (length folder) path; is = (starts_is Decides-eqb path folder _ refl).0 both.0; ends = both.1 }

pub path_itself : (path : List ℕ) → is_path path ≡ true → IsAncestor path path
path_itself path path_is = record {
  folder_is = path_is;
  rest = [];
  is = sym (append-nil path);
  ends = or_left _ _ (or_right _ _ (eq-eqb (length path) (length path) refl));
}

-- of one length there is one
pub one_of_length : (a b path : List ℕ) → IsAncestor a path → IsAncestor b path → length a ≡ length b → a ≡ b
one_of_length a b path x y long =
    sym (take_at a x.rest (length a) refl) ∙ ap (take (length a)) (sym x.is ∙ y.is) ∙ take_at b y.rest (length a) (sym long)

pub not_longer : (a path : List ℕ) → IsAncestor a path → length a ≤ length path
not_longer a path x = omega (arith, ap length x.is, length-append a x.rest)

-- ---- between a folder and the one above it

in_name : (name rest : List ℕ) (n : ℕ) → list_any is_slash name ≡ false → n < length name → is_slash (slice_index (name ++ rest) n) ≡ false
in_name [] rest n none less = absurd (omega arith)
in_name (x ∷ name) rest zero none less = or_left_false (is_slash x) (list_any is_slash name) none
in_name (x ∷ name) rest (suc n) none less = in_name name rest n (or_right_false (is_slash x) (list_any is_slash name) none) (omega arith)

last_slash : (front name rest : List ℕ) (n : ℕ) → list_any is_slash name ≡ false → n < length front + 1 + length name
    → is_slash (slice_index (front ++ 47 ∷ (name ++ rest)) n) ≡ true → n ≤ length front
last_slash [] name rest zero none less slash = omega arith
last_slash [] name rest (suc n) none less slash = absurd (true≢false (sym slash ∙ in_name name rest n none (omega arith)))
last_slash (x ∷ front) name rest zero none less slash = omega arith
last_slash (x ∷ front) name rest (suc n) none less slash =
    let shorter = last_slash front name rest n none (omega arith) slash in
    omega arith

whole_length : (front : List ℕ) → (length front ≤ length (whole front)) × (1 ≤ length (whole front))
whole_length [] = (omega arith, omega arith)
whole_length (b ∷ front) = let is = ap length (whole_cons b front) in (omega arith, omega arith)

folder_text : (front name rest : List ℕ) → (front ++ 47 ∷ name) ++ rest ≡ front ++ 47 ∷ (name ++ rest)
folder_text front name rest = append_assoc front (47 ∷ name) rest

-- an ancestor that is shorter than a folder is no longer than the folder above it
pub no_longer : (base above folder path : List ℕ) → IsAncestor base path → IsAncestor folder path → IsFolderOf above folder → length base < length folder
    → length base ≤ length above
no_longer base above folder path b f up less =
    let long = whole_length up.front in
    let folder_long : length folder ≡ length up.front + 1 + length up.name = omega (arith, ap length up.is, length-append up.front (47 ∷ up.name)) in
    let above_long : length above ≡ length (whole up.front) = ap length up.same in
    let text : path ≡ up.front ++ 47 ∷ (up.name ++ f.rest) = f.is ∙ ap (λ l. l ++ f.rest) up.is ∙ folder_text up.front up.name f.rest in
    let path_long = ap length f.is in
    let path_parts = length-append folder f.rest in
    ⊎_elim
    (λ one. let is = eqb-true (length base) 1 one in omega arith)
    (λ not_one.
    ⊎_elim
    (λ all. let is = eqb-true (length path) (length base) all in absurd (omega arith))
    (λ not_all.
    let slash : is_slash (slice_index path (length base)) ≡ true = or_right_true _ _ b.ends (or_from _ _ not_one not_all) in
    let short = last_slash up.front up.name f.rest (length base) up.whole_name (omega arith) (ap (λ l. is_slash (slice_index l (length base))) (sym text) ∙ slash) in
    omega arith)
    (cases_Bool (length path == length base)))
    (cases_Bool (length base == 1))

-- the folder above an ancestor is one
front_ends : (front path rest : List ℕ) → path ≡ front ++ 47 ∷ rest
    → (length (whole front) == 1 || length path == length (whole front) || is_slash (slice_index path (length (whole front)))) ≡ true
front_ends [] path rest is = refl
front_ends (b ∷ front) path rest is =
    let same = whole_cons b front in
    or_right _ _ (ap (λ l. is_slash (slice_index path (length l))) same ∙ ap (λ l. is_slash (slice_index l (length (b ∷ front)))) is
    ∙ ap is_slash (get_or-append_seam (b ∷ front) 47 rest 0))

front_begins : (front path rest : List ℕ) → path ≡ front ++ 47 ∷ rest → (more : List ℕ) × (path ≡ whole front ++ more)
front_begins [] path rest is = (rest, is)
front_begins (b ∷ front) path rest is = (47 ∷ rest, is ∙ ap (λ l. l ++ 47 ∷ rest) (sym (whole_cons b front)))

pub above_ancestor : (above folder path : List ℕ) → IsAncestor folder path → IsFolderOf above folder → IsAncestor above path
above_ancestor above folder path f up =
    let text : path ≡ up.front ++ 47 ∷ (up.name ++ f.rest) = f.is ∙ ap (λ l. l ++ f.rest) up.is ∙ folder_text up.front up.name f.rest in
    let begins = front_begins up.front path (up.name ++ f.rest) text in
    let same = sym up.same in
    record {
      folder_is = up.folder_is;
      rest = begins.0;
      is = begins.1 ∙ ap (λ l. l ++ begins.0) same;
      ends = subst (λ l. (length l == 1 || length path == length l || is_slash (slice_index path (length l))) ≡ true) same (front_ends up.front path (up.name ++ f.rest) text);
    }

-- it is shorter than the folder, unless that is `/`
shorter : (front : List ℕ) (name folder above : ℕ) → folder ≡ length front + 1 + name → above ≡ length (whole front) → (folder == 1) ≡ false → above < folder
shorter [] name folder above is also long = grind (arith, nat_tests)
shorter (b ∷ front) name folder above is also long = let same = ap length (whole_cons b front) in omega arith

pub above_shorter : (above folder : List ℕ) → IsFolderOf above folder → (length folder == 1) ≡ false → length above < length folder
above_shorter above folder up long =
    let folder_long : length folder ≡ length up.front + 1 + length up.name = omega (arith, ap length up.is, length-append up.front (47 ∷ up.name)) in
    shorter up.front (length up.name) (length folder) (length above) folder_long (ap length up.same) long

-- ---- the folder that a path lies in, where there is one

pub path_some : (path : List ℕ) → is_path path ≡ true → 0 < length path
unfolding is_path
path_some [] is = absurd (true≢false (sym is))
path_some (b ∷ rest) is = omega arith

folder-parent : (folder path : List ℕ) → is_path path ≡ true → length folder < length path → IsFolderOf folder path → Some folder ≡ parent_of path
folder-parent folder path path_is shorter above =
    let long : (length path == 1) ≡ false = ne_eqb (length path) 1 (λ one. omega (arith, path_some folder above.folder_is, shorter, one)) in
    ap Some above.same ∙ sym (parent_is path above.front above.name long above.is above.whole_name)

pub above-parent : (found : Option (Bor (List ℕ))) (path : List ℕ) → is_path path ≡ true
    → MatchOption found (length path ≡ 1) (λ folder. IsFolderOf folder.now path × (length folder.now < length path))
    → option_copied found ≡ parent_of path
above-parent None path path_is one = sym (cond-true _ _ _ (eq-eqb (length path) 1 one))
above-parent (Some folder) path path_is above = folder-parent folder.now path path_is above.1 above.0

pub above-path : (found : Option (Bor (List ℕ))) (path : List ℕ)
    → MatchOption found (length path ≡ 1) (λ folder. IsFolderOf folder.now path × (length folder.now < length path))
    → IfSome (option_copied found) (λ parent. is_path parent ≡ true)
above-path None path one = tt
above-path (Some folder) path above = above.0.folder_is
