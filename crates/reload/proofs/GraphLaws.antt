-- Which crates are kept, and by which numbers.
use Rattle.std.proofs.Common.{◌≡◌, ℕ, suc, ◌+◌, ◌-◌, ◌<◌, ◌≤◌, true, false, cond, ltb, List, [], ◌∷◌, length, take, map, filter, Option, Some, None, is_some}
use Rattle.std.proofs.Common.{option_map, refl, sym, ap, ◌∙◌, arith}
use Rattle.std.specs.List.{filter_map, cons_option, range_with_len}
use Rattle.std.proofs.lemmas.Bool.{ltb-true, ltb-false}
use Rattle.std.proofs.Math.Seq.{take-nil}
use Rattle.docs_vfs.specs.declared.file_kinds.FileId.{FileId}
use Rattle.project_model.specs.declared.crates.CrateEntry.{CrateEntry}
use Rattle.reload.specs.Graph.{Standing, most_crates, next_after, places_from, standing_at, number_of, info_of, crate_of}
use Rattle.reload.specs.GraphLaws.{numbers_in, graph_files, files_found}

abbrev AreNumbered : ℕ → List (Option Standing) → Type 0
AreNumbered next places = numbers_in places ≡ range_with_len next (length (numbers_in places))

abbrev AtNext : ℕ → List (Option FileId) → Option Standing → Type 0
AtNext next files place = AreNumbered next (place ∷ places_from (next_after next place) files)

pub numbered : (next : ℕ) (files : List (Option FileId))
    → numbers_in (places_from next files) ≡ range_with_len next (length (numbers_in (places_from next files)))
numbered next [] = refl
numbered next (None ∷ files) = numbered next files
numbered next (Some file ∷ files) =
    elim (ltb next most_crates) as (λ b. AtNext next files (cond b (Some (file, next)) None)) [
      | true ↦ ap (λ l. next ∷ l) (numbered (next + 1) files)
      | false ↦ numbered next files
    ]

most_left : (most next : ℕ) → next < most → most - next ≡ suc (most - (next + 1))
most_left most next h = omega arith

none_left : (most next : ℕ) → most ≤ next → most - next ≡ 0
none_left most next h = omega arith

abbrev AreFirst : ℕ → List (Option Standing) → List FileId → Type 0
AreFirst next places found = graph_files places ≡ take (most_crates - next) found

abbrev FilesAtNext : ℕ → FileId → List (Option FileId) → Option Standing → Type 0
FilesAtNext next file files place = AreFirst next (place ∷ places_from (next_after next place) files) (file ∷ files_found files)

first_kept : (next : ℕ) (files : List (Option FileId)) → graph_files (places_from next files) ≡ take (most_crates - next) (files_found files)
first_kept next [] = sym (take-nil (most_crates - next))
first_kept next (None ∷ files) = first_kept next files
first_kept next (Some file ∷ files) =
    elim (ltb next most_crates) as (λ b. ltb next most_crates ≡ b → FilesAtNext next file files (cond b (Some (file, next)) None)) [
      | true ↦ λ e. ap (λ l. file ∷ l) (first_kept (next + 1) files)
          ∙ sym (ap (λ n. take n (file ∷ files_found files)) (most_left most_crates next (ltb-true next most_crates e)))
      | false ↦ λ e. first_kept next files ∙ ap (λ n. take n (files_found files)) (none_left most_crates next (ltb-false next most_crates e))
          ∙ sym (ap (λ n. take n (file ∷ files_found files)) (none_left most_crates next (ltb-false next most_crates e)))
    ] refl

less_none : (n : ℕ) → n - 0 ≡ n
less_none n = omega arith

pub kept_first : (files : List (Option FileId)) → graph_files (places_from 0 files) ≡ take most_crates (files_found files)
kept_first files = first_kept 0 files ∙ ap (λ n. take n (files_found files)) (less_none most_crates)

-- what a function gives of the items of which it gives something
pub given_in_order : {X Y : Type 0} (f : X → Option Y) (xs : List X) → map Some (filter_map f xs) ≡ filter is_some (map f xs)
given_in_order f [] = refl
given_in_order {X} {Y} f (x ∷ xs) =
    elim (f x) as (λ o. map Some (cons_option o (filter_map f xs)) ≡ cond (is_some o) (o ∷ filter is_some (map f xs)) (filter is_some (map f xs))) [
      | None ↦ given_in_order f xs
      | Some y ↦ ap (λ l. Some y ∷ l) (given_in_order f xs)
    ]

same_test : {A B C : Type 0} (f : A → B) (g : A → C) (o : Option A) → is_some (option_map f o) ≡ is_some (option_map g o)
same_test f g None = refl
same_test f g (Some x) = refl

pub kept_have_numbers : (places : List (Option Standing)) (index : ℕ) (entry : CrateEntry)
    → is_some (number_of places index) ≡ is_some (crate_of places (index, entry))
kept_have_numbers places index entry = same_test (λ (s : Standing). s.1) (info_of places entry) (standing_at places index)
