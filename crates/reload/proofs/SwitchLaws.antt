-- Where build data is joined, it was run on the version of the present workspaces; and which workspaces are the same.
use Rattle.std.proofs.Common.{◌≡◌, ℕ, Bool, true, false, cond, eqb, List, [], ◌∷◌, map, Option, Some, None, refl}
use Rattle.std.specs.Prelude.{Decides}
use Rattle.std.proofs.lemmas.Bool.{eqb-true, false≢true}
use Rattle.std.proofs.lemmas.Bool.Decides.{Decides-like, Decides-and}
use Rattle.project_model.specs.declared.workspace.ProjectWorkspace.{ProjectWorkspace}
use Rattle.project_model.specs.Same.{same_but_build_told}
use Rattle.project_model.specs.Workspaces.{without_build}
use Rattle.reload.specs.Switch.{Fetched, BuildRuns, workspaces_fetched, are_same, with_builds, runs_on, anew_if, kept, replacing, switched_to, has_ended}
use Rattle.reload.specs.Switch.{switch_of}
use Rattle.reload.specs.declared.switch.Switch.{Switch}
use Rattle.reload.specs.declared.switch.Switch.TheVariants as switch

-- ---- which workspaces are the same

heads : {A : Type 0} (x y : A) (xs ys : List A) → (x ∷ xs) ≡ (y ∷ ys) → x ≡ y
heads x y xs ys e = cc

tails : {A : Type 0} (x y : A) (xs ys : List A) → (x ∷ xs) ≡ (y ∷ ys) → xs ≡ ys
tails x y xs ys e = cc

pub same_told : (one two : List ProjectWorkspace) → Decides (are_same one two) (map without_build one ≡ map without_build two)
same_told [] [] = (λ h. refl, λ e. refl)
same_told [] (y ∷ ys) = (λ h. absurd (false≢true h), λ e. cc)
same_told (x ∷ xs) [] = (λ h. absurd (false≢true h), λ e. cc)
same_told (x ∷ xs) (y ∷ ys) =
    Decides-like _ (λ h i. h.0 i ∷ h.1 i) (λ e. (heads _ _ _ _ e, tails _ _ _ _ e))
    (Decides-and _ _ (same_but_build_told x y) (same_told xs ys))

-- ---- what is joined

-- the runs are there, and are what was joined
abbrev IsJoined : List ProjectWorkspace → Option BuildRuns → List ProjectWorkspace → Type 0
IsJoined present runs made = (list : BuildRuns) × (runs ≡ Some list) × (made ≡ with_builds list present)

not_anew : (forced : Bool) (made : List ProjectWorkspace) → anew_if forced ≡ switch.Join made → ⊥
not_anew true made e = cc
not_anew false made e = cc

from_kept : (present : List ProjectWorkspace) (runs : Option BuildRuns) (forced : Bool) (made : List ProjectWorkspace)
    → kept present runs forced ≡ switch.Join made → IsJoined present runs made
from_kept [] runs forced made e = absurd (cc)
from_kept (first ∷ rest) None forced made e = absurd (not_anew forced made e)
from_kept (first ∷ rest) (Some list) forced made e = (list, refl, cc)

from_to : (same : Bool) (present : List ProjectWorkspace) (runs : Option BuildRuns) (forced : Bool) (new : List ProjectWorkspace) (build_scripts : Bool)
    (made : List ProjectWorkspace)
    → cond same (kept present runs forced) (replacing new present build_scripts) ≡ switch.Join made → IsJoined present runs made
from_to true present runs forced new build_scripts made e = from_kept present runs forced made e
from_to false present runs forced new build_scripts made e = absurd (cc)

from_end : (ended forced : Bool) (to : Switch) (made : List ProjectWorkspace) → cond ended (anew_if forced) to ≡ switch.Join made → to ≡ switch.Join made
from_end true forced to made e = absurd (not_anew forced made e)
from_end false forced to made e = e

pub from_switch : (fetched : Option Fetched) (forced discover : Bool) (present : List ProjectWorkspace) (runs : Option BuildRuns) (build_scripts : Bool)
    (made : List ProjectWorkspace)
    → switch_of fetched forced discover present runs build_scripts ≡ switch.Join made → IsJoined present runs made
from_switch None forced discover present runs build_scripts made e = absurd (cc)
from_switch (Some fetched) forced discover present runs build_scripts made e =
    from_to (are_same (workspaces_fetched fetched) present) present runs forced (workspaces_fetched fetched) build_scripts made
    (from_end (has_ended fetched discover present) forced (switched_to fetched present runs forced build_scripts) made e)

pub of_version : (version build_version : ℕ) (build : Option BuildRuns) (list : BuildRuns) → runs_on version build_version build ≡ Some list
    → (build_version ≡ version) × (build ≡ Some list)
of_version version build_version build list e =
    elim (eqb build_version version) as (λ b. eqb build_version version ≡ b → cond b build None ≡ Some list → (build_version ≡ version) × (build ≡ Some list)) [
      | true ↦ λ same is. (eqb-true build_version version same, is)
      | false ↦ λ same is. absurd (cc)
    ] refl e
