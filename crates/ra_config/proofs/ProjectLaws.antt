-- Projects that come from the same are the same.
use Rattle.std.proofs.Common.{◌≡◌, ◌==◌, ℕ, List, [], Bool, true, false, cond, refl, sym, ap, ◌∙◌, map, length, ◌++◌}
use Rattle.std.specs.Prelude.{None}
use Rattle.ra_settings.specs.declared.row.Row.{Row}
use Rattle.ra_settings.specs.declared.value.LinkedProject.{LinkedProject}
use Rattle.ra_config.specs.Config.{ConfigData, named_projects, projects_of, linked_in, roots_used, HaveSameSources}
use Rattle.ra_config.specs.Projects.{as_project, manifests, or_manifests}
use Rattle.layered_settings.specs.Search.{setting}

by_none : (projects : List LinkedProject) (xs ys : List (List ℕ)) (b : Bool) → cond b xs [] ≡ cond b ys []
    → cond b (manifests xs) projects ≡ cond b (manifests ys) projects
by_none projects xs ys true h = ap manifests h
by_none projects xs ys false h = refl

same_named : (c d : ConfigData) → HaveSameSources c d → named_projects c ≡ named_projects d
same_named c d h = rw (h.0, h.1) refl

pub same_projects : (c d : ConfigData) → HaveSameSources c d → projects_of c ≡ projects_of d
same_projects c d h =
    let named = same_named c d h in
    let roots : cond (length (named_projects d) == 0) c.workspace_roots [] ≡ cond (length (named_projects d) == 0) d.workspace_roots [] =
    sym (ap (λ ps. cond (length ps == 0) c.workspace_roots []) named) ∙ h.2 in
    ap (λ ps. or_manifests ps c.workspace_roots) named ∙ by_none (named_projects d) c.workspace_roots d.workspace_roots (length (named_projects d) == 0) roots
