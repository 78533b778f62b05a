-- What a closure answers for each root, and how many crates a graph has.
use Rattle.std.proofs.Common.{◌≡◌, ◌<◌, ◌^◌, ℕ, List, [], ◌∷◌, length, map, refl, sym, ap, ◌∙◌, subst, arith}
use Rattle.std.proofs.lemmas.List.{length-map, length-take}
use Rattle.std.specs.Prelude.{Option, Result, Ok, Err, IfOk, min}
use Rattle.std.specs.Borrow.{Bor}
use Rattle.std.specs.Fn.{Mut, CalledAt}
use Rattle.docs_vfs.specs.declared.file_kinds.FileId.{FileId}
use Rattle.project_model.specs.declared.crates.CrateInfo.{CrateInfo}
use Rattle.project_model.specs.declared.workspace.ProjectWorkspace.{ProjectWorkspace}
use Rattle.ra_config.specs.Config.{ConfigData}
use Rattle.reload.specs.Asked.{Asked}
use Rattle.reload.specs.Graph.{all_crates, crate_roots, most_crates, places_from}
use Rattle.reload.specs.GraphLaws.{files_found}
use Rattle.reload.proofs.GraphLaws.{kept_first}
use Rattle.reload.proofs.PlaceLaws.{stand_at_numbers}
use Rattle.session_model.specs.Crates.{Numbers, crate_graph, loaded_as}

-- a closure that changes nothing, and answers this for each of these
pub asked_map : {F A R : Type 0} (g : Mut F (Bor A × Unit {0}) R) (f : F) (h : A → R)
    → ((x : A) (r : R) (next : F) → CalledAt g f x r next → (r ≡ h x) × (next ≡ f))
    → (xs : List A) (rs : List R) (last : F) → Asked g f xs rs last → rs ≡ map h xs
asked_map g f h each [] [] last asked = refl
asked_map {F} g f h each (x ∷ xs) (r ∷ rs) last (next, called, later) =
    let one = each x r next called in
    let rest = asked_map g f h each xs rs last (subst (λ (s : F). Asked g s xs rs last) one.1 later) in
    λ i. one.0 i ∷ rest i
asked_map g f h each [] (r ∷ rs) last asked = absurd asked
asked_map g f h each (x ∷ xs) [] last asked = absurd asked

-- what is made of such answers
pub asked_answers : {F A R X E : Type 0} (g : Mut F (Bor A × Unit {0}) R) (f : F) (of : List R → X) (xs : List A) (result : Result X E)
    → IfOk result (λ made. (rs : List R) × (last : F) × Asked g f xs rs last × (made ≡ of rs)) → (h : A → R)
    → ((x : A) (r : R) (next : F) → CalledAt g f x r next → (r ≡ h x) × (next ≡ f)) → IfOk result (λ made. made ≡ of (map h xs))
asked_answers g f of xs (Ok made) (rs, last, asked, is) h each = is ∙ ap of (asked_map g f h each xs rs last asked)
asked_answers g f of xs (Err fault) told h each = tt

-- a graph has no more crates than there are numbers
most-fits : most_crates < 2 ^ 32
unfolding most_crates
most-fits = omega arith

taken-fits : (n found : ℕ) → n ≡ min most_crates found → n < 2 ^ 32
taken-fits n found is = let most = most-fits in omega (arith, is, most)

pub crates_fit : (settings : ConfigData) (numbers : Numbers) (present : List ProjectWorkspace) → length (crate_graph settings numbers present).0.crates < 2 ^ 32
crates_fit settings numbers present =
    let files : List (Option FileId) = map (loaded_as numbers) (crate_roots present) in
    let crates : List CrateInfo = all_crates present (places_from 0 files) in
    let same : length files ≡ length (crate_roots present) = length-map (crate_roots present) (loaded_as numbers) in
    taken-fits (length crates) (length (files_found files))
    (sym (length-map crates (λ (info : CrateInfo). info.root))
    ∙ ap (λ (list : List FileId). length list) (stand_at_numbers present files same ∙ kept_first files)
    ∙ length-take most_crates (files_found files))
