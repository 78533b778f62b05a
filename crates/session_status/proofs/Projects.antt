-- Roots have projects: where no others are, these are their manifests.
use Rattle.std.proofs.Common.{◌≡◌, ℕ, List, [], ◌∷◌, length, Bool, true, false, refl}
use Rattle.std.proofs.Math.Dec.{eqb-suc-zero}
use Rattle.std.specs.Prelude.{◌==◌, map, if◌then◌else◌}
use Rattle.ra_settings.specs.declared.value.LinkedProject.{LinkedProject}
use Rattle.ra_config.specs.Config.{ConfigData, named_projects, projects_of}
use Rattle.ra_config.specs.Projects.{manifest}

some-cases : (b : Bool) (projects : List LinkedProject) (roots : List (List ℕ)) → (length projects == 0) ≡ b → (length roots == 0) ≡ false
    → (length (if b then map manifest roots else projects) == 0) ≡ false
some-cases true projects [] is some = some
some-cases true projects (root ∷ roots) is some = eqb-suc-zero (length (map manifest roots))
some-cases false projects roots is some = is

pub roots_have_projects : (settings : ConfigData) → (length settings.workspace_roots == 0) ≡ false → (length (projects_of settings) == 0) ≡ false
roots_have_projects settings some = some-cases (length (named_projects settings) == 0) (named_projects settings) settings.workspace_roots refl some
