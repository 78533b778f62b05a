-- A project more in the loop.
use Rattle.std.proofs.Common.{◌≡◌, ℕ, Bool, true, false, ◌||◌, List, [], ◌∷◌, ◌++◌, Option, Some, refl, sym, ap, ◌∙◌, append-nil}
use Rattle.std.specs.Prelude.{is_some, if◌then◌else◌}
use Rattle.std.specs.Cmp.{IsTotalOrder, Equal-is, eq_by_cmp_equiv}
use Rattle.std.specs.FinMap as map
use Rattle.std.specs.List.{list_any}
use Rattle.std.specs.Ordering.{eq_by_cmp}
use Rattle.std.proofs.lemmas.Cmp.{nat_list_cmp_total}
use Rattle.std.proofs.lemmas.List.Folds.{list_any-append}
use Rattle.std.proofs.lemmas.Slice.Eq.{bytes_eq-Decides}
use Rattle.plain.specs.Texts.{optional_text, text_cmp}
use Rattle.project_model.specs.declared.workspace.ProjectWorkspace.{ProjectWorkspace}
use Rattle.ra_settings.specs.declared.value.LinkedProject.{LinkedProject}
use Rattle.ra_settings.specs.declared.value.LinkedProject.TheVariants.{ProjectManifest, InlineProjectJson}
use Rattle.small_project.specs.Workspaces.{are_alike, manifest_of, workspace_of, workspaces_of}
use Rattle.small_project.proofs.Firsts.{bool_from, workspaces-more}

-- what a project is known by
abbrev pub key_of : LinkedProject → List ℕ
key_of project = optional_text (λ path. path) (manifest_of project)

-- the manifests are those of these projects
abbrev pub Knows : map.FinMap text_cmp (Unit {0}) → List LinkedProject → Type 0
Knows manifests projects = (project : LinkedProject) → is_some (map.get manifests (key_of project)) ≡ list_any (are_alike project) projects

key_alike : (one other : LinkedProject) → are_alike one other ≡ true → key_of one ≡ key_of other
key_alike (ProjectManifest a) (ProjectManifest b) is = ap (λ path. 0 ∷ path) ((bytes_eq-Decides a b).0 is)
key_alike (ProjectManifest a) (InlineProjectJson p files) is = absurd cc
key_alike (InlineProjectJson p files) (ProjectManifest b) is = absurd cc
key_alike (InlineProjectJson p files) (InlineProjectJson q others) is = refl

alike_key : (one other : LinkedProject) → key_of one ≡ key_of other → are_alike one other ≡ true
alike_key (ProjectManifest a) (ProjectManifest b) is = (bytes_eq-Decides a b).1 (cc)
alike_key (ProjectManifest a) (InlineProjectJson p files) is = absurd cc
alike_key (InlineProjectJson p files) (ProjectManifest b) is = absurd cc
alike_key (InlineProjectJson p files) (InlineProjectJson q others) is = refl

total : IsTotalOrder text_cmp
total = nat_list_cmp_total

same : map.IsAntisymmetric text_cmp
same = map.slice_cmp-IsAntisymmetric map.nat_cmp-IsAntisymmetric

-- keys are one exactly where the projects are alike
tied-alike : (one other : LinkedProject) → eq_by_cmp text_cmp (key_of one) (key_of other) ≡ are_alike one other
tied-alike one other =
    bool_from (eq_by_cmp text_cmp (key_of one) (key_of other)) (are_alike one other)
    (λ is. alike_key one other (same (key_of one) (key_of other) ((Equal-is (text_cmp (key_of one) (key_of other))).0 is)))
    (λ is. ap (eq_by_cmp text_cmp (key_of one)) (sym (key_alike one other is)) ∙ (eq_by_cmp_equiv total).refl (key_of one))

or-true : (b : Bool) → true ≡ (b || true)
or-true true = refl
or-true false = refl

or-false : (b : Bool) → b ≡ (b || false)
or-false true = refl
or-false false = refl

either : (b : Bool) (o : Option (Unit {0})) → is_some (if b then Some tt else o) ≡ (is_some o || b)
either true o = or-true (is_some o)
either false o = or-false (is_some o)

-- and with one more, those of one project more
pub knows-more : (manifests : map.FinMap text_cmp (Unit {0})) (before : List LinkedProject) (project : LinkedProject)
    → Knows manifests before → Knows (map.insert manifests (key_of project) tt) (before ++ project ∷ [])
knows-more manifests before project knows other =
    ap is_some (map.get-insert total manifests (key_of project) tt (key_of other))
    ∙ either (eq_by_cmp text_cmp (key_of other) (key_of project)) (map.get manifests (key_of other))
    ∙ ap (λ b. is_some (map.get manifests (key_of other)) || b) (tied-alike other project)
    ∙ ap (λ b. b || are_alike other project) (knows other)
    ∙ ap (λ b. list_any (are_alike other) before || b) (or-false (are_alike other project))
    ∙ sym (list_any-append (are_alike other) before (project ∷ []))

-- `all` are the projects before and this one; `listed` was listed before, and `earlier` is what was known at this one's manifest
module _ (before all : List LinkedProject) (project : LinkedProject) (listed : List ProjectWorkspace) (earlier : Option (Unit {0}))
    (more : all ≡ before ++ project ∷ []) (was : listed ≡ workspaces_of before)
    (known : is_some earlier ≡ list_any (are_alike project) before) where
  listed_so : (b : Bool) → is_some earlier ≡ b → workspaces_of all ≡ listed ++ (if b then [] else workspace_of project ∷ [])
  listed_so b is =
      ap workspaces_of more
      ∙ workspaces-more before project
      ∙ ap (λ b. workspaces_of before ++ (if b then [] else workspace_of project ∷ [])) (sym known ∙ is)
      ∙ ap (λ l. l ++ (if b then [] else workspace_of project ∷ [])) (sym was)

  pub listed_new : (new : List ProjectWorkspace) (workspace : ProjectWorkspace) → is_some earlier ≡ false → workspace ≡ workspace_of project
      → new ≡ listed ++ workspace ∷ [] → new ≡ workspaces_of all
  listed_new new workspace is made adds = adds ∙ ap (λ w. listed ++ w ∷ []) made ∙ sym (listed_so false is)

  pub listed_old : (new : List ProjectWorkspace) → is_some earlier ≡ true → new ≡ listed → new ≡ workspaces_of all
  listed_old new is stays = stays ∙ sym (append-nil listed) ∙ sym (listed_so true is)
