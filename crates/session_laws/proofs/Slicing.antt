-- The slices of files, one after another, are the files.
use Rattle.std.proofs.Common.{◌≡◌, ◌≤◌, ℕ, zero, suc, List, [], ◌∷◌, ◌++◌, length, take, drop, refl, ap, ◌∙◌, arith, append-nil}
use Rattle.std.specs.List.{flat_map}
use Rattle.std.proofs.Math.Seq.{take-length}
use Rattle.std.proofs.lemmas.List.{take-append-drop}
use Rattle.docs_vfs.specs.declared.file_kinds.FileId.{FileId}
use Rattle.session_model.specs.Diagnosing.{first_length, slices}

-- one slice has all of them
whole-length : (files : List FileId) → first_length (suc zero) files ≡ length files
whole-length files = omega arith

pub slices-join : (others : ℕ) (files : List FileId) → flat_map (λ slice. slice) (slices (suc others) files) ≡ files
slices-join others [] = refl
slices-join zero (file ∷ files) =
    append-nil (take (first_length (suc zero) (file ∷ files)) (file ∷ files))
    ∙ ap (λ n. take n (file ∷ files)) (whole-length (file ∷ files)) ∙ take-length (file ∷ files)
slices-join (suc others) (file ∷ files) =
    let n : ℕ = first_length (suc (suc others)) (file ∷ files) in
    ap (λ (rest : List FileId). take n (file ∷ files) ++ rest) (slices-join others (drop n (file ∷ files))) ∙ take-append-drop n (file ∷ files)

one-more : (n m : ℕ) → n ≤ m → suc n ≤ suc m
one-more n m le = omega (arith, le)

pub slices-few : (count : ℕ) (files : List FileId) → length (slices count files) ≤ count
slices-few zero files = omega arith
slices-few (suc others) [] = omega arith
slices-few (suc others) (file ∷ files) =
    let n : ℕ = first_length (suc others) (file ∷ files) in
    one-more (length (slices others (drop n (file ∷ files)))) others (slices-few others (drop n (file ∷ files)))
