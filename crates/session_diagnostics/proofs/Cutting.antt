-- A slice more, and no slice more.
use Rattle.std.proofs.Common.{◌≡◌, ◌<◌, ◌-◌, ℕ, zero, suc, List, [], ◌∷◌, take, drop, length, refl, ap, ◌∙◌, arith}
use Rattle.docs_vfs.specs.declared.file_kinds.FileId.{FileId}
use Rattle.session_model.specs.Diagnosing.{first_length, slices}

-- fewer than are asked for are all of them
pub take_whole : (n : ℕ) (files : List FileId) → length files < n → files ≡ take n files
take_whole zero files few = absurd (omega (arith, few))
take_whole (suc n) [] few = refl
take_whole (suc n) (file ∷ files) few = ap (λ (rest : List FileId). file ∷ rest) (take_whole n files (omega (arith, few)))

pub drop_whole : (n : ℕ) (files : List FileId) → length files < n → [] ≡ drop n files
drop_whole zero files few = absurd (omega (arith, few))
drop_whole (suc n) [] few = refl
drop_whole (suc n) (file ∷ files) few = drop_whole n files (omega (arith, few))

one-less : (others : ℕ) → others ≡ suc others - 1
one-less others = omega arith

pub slices_before : (others : ℕ) (files : List FileId) → 0 < others → (files ≡ [] → ⊥)
    → slices others files ≡ take (first_length others files) files ∷ slices (others - 1) (drop (first_length others files) files)
slices_before zero files positive some = absurd (omega (arith, positive))
slices_before (suc others) [] positive some = absurd (some refl)
slices_before (suc others) (file ∷ files) positive some =
    let n : ℕ = first_length (suc others) (file ∷ files) in
    ap (λ (count : ℕ). take n (file ∷ files) ∷ slices count (drop n (file ∷ files))) (one-less others)

of_nothing : (count : ℕ) → slices count [] ≡ []
of_nothing zero = refl
of_nothing (suc others) = refl

pub slices_of_none : (count : ℕ) (files : List FileId) → files ≡ [] → slices count files ≡ []
slices_of_none count files none = ap (slices count) none ∙ of_nothing count

pub no_slices : (count : ℕ) (files : List FileId) → count ≡ 0 → slices count files ≡ []
no_slices zero files none = refl
no_slices (suc others) files none = absurd (omega (arith, none))
