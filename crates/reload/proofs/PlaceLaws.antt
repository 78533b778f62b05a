-- The crates of a graph stand at the places of their numbers.
use Rattle.std.proofs.Common.{◌≡◌, ℕ, suc, ◌+◌, List, [], ◌∷◌, ◌++◌, length, take, drop, map, Option, Some, None, option_map, refl, sym, ap, subst, ◌∙◌, arith}
use Rattle.std.proofs.Common.{append_assoc, length-append, length-drop, take-append-drop}
use Rattle.std.specs.Prelude.{slice_get, option_and_then}
use Rattle.std.specs.List.{filter_map, cons_option, enumerate_from}
use Rattle.std.proofs.lemmas.List.{length-take-le, length-map, map-append}
use Rattle.docs_vfs.specs.declared.file_kinds.FileId.{FileId}
use Rattle.project_model.specs.declared.crates.CrateEntry.{CrateEntry}
use Rattle.project_model.specs.declared.crates.CrateInfo.{CrateInfo}
use Rattle.project_model.specs.declared.workspace.ProjectWorkspace.{ProjectWorkspace}
use Rattle.reload.specs.Graph.{Standing, crate_roots, place_at, next_after, places_from, standing_at, info_of, crate_of, crates_in, all_crates}
use Rattle.reload.specs.GraphLaws.{graph_files, roots_in}

seam : {X : Type 0} (front : List X) (b : X) (back : List X) → slice_get (front ++ b ∷ back) (length front) ≡ Some b
seam [] b back = refl
seam (x ∷ front) b back = seam front b back

-- the files of a list and of another behind it
files_behind : (front back : List (Option Standing)) → graph_files (front ++ back) ≡ graph_files front ++ graph_files back
files_behind [] back = refl
files_behind (None ∷ front) back = files_behind front back
files_behind (Some (file, number) ∷ front) back = ap (λ (l : List FileId). file ∷ l) (files_behind front back)

-- the crates of a workspace behind a place
roots_from : (places front back : List (Option Standing)) (entries : List CrateEntry) → length back ≡ length entries → places ≡ front ++ back
    → roots_in (filter_map (crate_of places) (enumerate_from (length front) entries)) ≡ graph_files back
roots_from places front [] [] same is = refl
roots_from places front [] (entry ∷ entries) same is = absurd (omega (arith, same))
roots_from places front (b ∷ back) [] same is = absurd (omega (arith, same))
roots_from places front (b ∷ back) (entry ∷ entries) same is =
    let here : standing_at places (length front) ≡ b =
    ap (λ (l : List (Option Standing)). standing_at l (length front)) is ∙ ap (option_and_then (λ (place : Option Standing). place)) (seam front b back) in
    let left = filter_map (crate_of places) (enumerate_from (length front + 1) entries) in
    let count : length (front ++ b ∷ []) ≡ length front + 1 = length-append front (b ∷ []) in
    let next = roots_from places (front ++ b ∷ []) back entries (omega (arith, same)) (is ∙ sym (append_assoc front (b ∷ []) back)) in
    let rest : roots_in left ≡ graph_files back =
    subst (λ (k : ℕ). roots_in (filter_map (crate_of places) (enumerate_from k entries)) ≡ graph_files back) count next in
    ap (λ (o : Option Standing). roots_in (cons_option (option_map (info_of places entry) o) left)) here
    ∙ elim b as (λ v. roots_in (cons_option (option_map (info_of places entry) v) left) ≡ graph_files (v ∷ back)) [
      | None ↦ rest
      | Some (file, number) ↦ ap (λ (l : List FileId). file ∷ l) rest
    ]

-- the crates of all workspaces have the files of the places, in order
pub roots_are_files : (workspaces : List ProjectWorkspace) (places : List (Option Standing)) → length places ≡ length (crate_roots workspaces)
    → roots_in (all_crates workspaces places) ≡ graph_files places
roots_are_files [] [] same = refl
roots_are_files [] (place ∷ places) same = absurd (omega (arith, same))
roots_are_files (workspace ∷ rest) places same =
    let n = length workspace.crates in
    let parts = length-append (map (λ (entry : CrateEntry). entry.root) workspace.crates) (crate_roots rest) in
    let mapped = length-map workspace.crates (λ (entry : CrateEntry). entry.root) in
    let front : length (take n places) ≡ n = length-take-le n places (omega (arith, same, parts, mapped)) in
    let back : length (drop n places) ≡ length (crate_roots rest) = length-drop n places ∙ omega (arith, same, parts, mapped) in
    map-append (λ (info : CrateInfo). info.root) (crates_in (take n places) workspace.crates) (all_crates rest (drop n places))
    ∙ ap (λ (l : List FileId). l ++ roots_in (all_crates rest (drop n places))) (roots_from (take n places) [] (take n places) workspace.crates front refl)
    ∙ ap (λ (l : List FileId). graph_files (take n places) ++ l) (roots_are_files rest (drop n places) back)
    ∙ sym (files_behind (take n places) (drop n places)) ∙ ap graph_files (take-append-drop n places)

places_count : (next : ℕ) (files : List (Option FileId)) → length (places_from next files) ≡ length files
places_count next [] = refl
places_count next (file ∷ files) = ap suc (places_count (next_after next (place_at next file)) files)

pub stand_at_numbers : (workspaces : List ProjectWorkspace) (files : List (Option FileId)) → length files ≡ length (crate_roots workspaces)
    → roots_in (all_crates workspaces (places_from 0 files)) ≡ graph_files (places_from 0 files)
stand_at_numbers workspaces files same = roots_are_files workspaces (places_from 0 files) (places_count 0 files ∙ same)
