-- Of projects that are alike the first stays.
use Rattle.std.proofs.Common.{◌≡◌, ◌≢◌, ℕ, Bool, true, false, cond, not, ◌||◌, List, [], ◌∷◌, ◌++◌, map, get_or, Some, None}
use Rattle.std.proofs.Common.{refl, sym, ap, ◌∙◌, zero, suc, arith}
use Rattle.std.specs.Prelude.{if◌then◌else◌, AllPairs, Contains}
use Rattle.std.specs.List.{filter, list_any}
use Rattle.std.proofs.lemmas.List.{map-append}
use Rattle.std.proofs.lemmas.Slice.Eq.{bytes_eq-Decides}
use Rattle.std.proofs.lemmas.List.Elements.{All-map, filter-append, filter_passes}
use Rattle.std.proofs.lemmas.List.Folds.{list_any_at}
use Rattle.std.proofs.lemmas.List.Kept.{AllPairs-cons, AllPairs-filter}
use Rattle.std.proofs.lemmas.Map.Views.{any-filter_same}
use Rattle.project_model.specs.declared.workspace.ProjectWorkspace.{ProjectWorkspace}
use Rattle.project_model.specs.Workspaces.{without_build}
use Rattle.ra_settings.specs.declared.value.LinkedProject.{LinkedProject}
use Rattle.ra_settings.specs.declared.value.LinkedProject.TheVariants.{ProjectManifest, InlineProjectJson}
use Rattle.small_project.specs.Workspaces.{folder_of_manifest, workspace_at, workspace_of, are_alike, firsts, workspaces_of}

inside : (x y : List ℕ) → Some x ≡ Some y → x ≡ y
inside x y e = cc

true_not_false : true ≡ false → ⊥
true_not_false e = cc

pub bool_from : (p q : Bool) → (p ≡ true → q ≡ true) → (q ≡ true → p ≡ true) → p ≡ q
bool_from true true f g = refl
bool_from true false f g = sym (f refl)
bool_from false true f g = g refl
bool_from false false f g = refl

not_true : (b : Bool) → (b ≡ true → ⊥) → not b ≡ true
not_true true never = absurd (never refl)
not_true false never = refl

not_is_true : (b : Bool) → not b ≡ true → b ≡ false
not_is_true true e = sym e
not_is_true false e = refl

-- projects are alike where they give equal workspaces
tells : (one other : LinkedProject) → are_alike one other ≡ true → workspace_of one ≡ workspace_of other
tells (ProjectManifest a) (ProjectManifest b) is = ap (λ m. workspace_at (Some m) (folder_of_manifest m)) ((bytes_eq-Decides a b).0 is)
tells (ProjectManifest a) (InlineProjectJson p files) is = absurd (true_not_false (sym is))
tells (InlineProjectJson p files) (ProjectManifest b) is = absurd (true_not_false (sym is))
tells (InlineProjectJson p files) (InlineProjectJson q others) is = refl

told : (one other : LinkedProject) → without_build (workspace_of one) ≡ without_build (workspace_of other) → are_alike one other ≡ true
told (ProjectManifest a) (ProjectManifest b) is = (bytes_eq-Decides a b).1 (inside a b (ap (λ (w : ProjectWorkspace). w.manifest) is))
told (ProjectManifest a) (InlineProjectJson p files) is = let e : Some a ≡ None = ap (λ (w : ProjectWorkspace). w.manifest) is in absurd cc
told (InlineProjectJson p files) (ProjectManifest b) is = let e : None ≡ Some b = ap (λ (w : ProjectWorkspace). w.manifest) is in absurd cc
told (InlineProjectJson p files) (InlineProjectJson q others) is = refl

equal : (one other : LinkedProject) → are_alike one other ≡ true → without_build (workspace_of one) ≡ without_build (workspace_of other)
equal one other is = ap without_build (tells one other is)

alike_sym : (one other : LinkedProject) → are_alike one other ≡ are_alike other one
alike_sym one other =
    bool_from (are_alike one other) (are_alike other one) (λ is. told other one (sym (equal one other is))) (λ is. told one other (sym (equal other one is)))

-- the projects that aren't like this one
abbrev unlike : LinkedProject → LinkedProject → Bool
unlike project other = not (are_alike project other)

-- some project is like this one exactly where one that stays is
any-firsts : (project : LinkedProject) (projects : List LinkedProject)
    → list_any (are_alike project) (firsts projects) ≡ list_any (are_alike project) projects
any-firsts project [] = refl
any-firsts project (x ∷ xs) = by (any-firsts project xs) (are_alike project x) refl
  where
    by : list_any (are_alike project) (firsts xs) ≡ list_any (are_alike project) xs
        → (b : Bool) → are_alike project x ≡ b
        → (b || list_any (are_alike project) (filter (unlike x) (firsts xs))) ≡ (b || list_any (are_alike project) xs)
    by rest true is = refl
    by rest false is =
        any-filter_same (are_alike project) (unlike x) true
        (λ k same. not_true (are_alike x k) (λ also. true_not_false (sym (told project x (equal project k same ∙ sym (equal x k also))) ∙ is)))
        (firsts xs)
        ∙ rest

last : (project x : LinkedProject) (c b : Bool) → are_alike x project ≡ c
    → filter (unlike x) (if b then [] else project ∷ []) ≡ (if c || b then [] else project ∷ [])
last project x true true is = refl
last project x false true is = refl
last project x true false is = ap (λ c. cond (not c) (project ∷ []) []) is
last project x false false is = ap (λ c. cond (not c) (project ∷ []) []) is

-- a project more stays exactly where none before it is like it
firsts-more : (projects : List LinkedProject) (project : LinkedProject)
    → firsts (projects ++ project ∷ []) ≡ firsts projects ++ (if list_any (are_alike project) projects then [] else project ∷ [])
firsts-more [] project = refl
firsts-more (x ∷ xs) project =
    let more = if list_any (are_alike project) xs then [] else project ∷ [] in
    ap (λ l. x ∷ filter (unlike x) l) (firsts-more xs project)
    ∙ ap (λ l. x ∷ l) (filter-append (unlike x) (firsts xs) more)
    ∙ ap (λ l. x ∷ (filter (unlike x) (firsts xs) ++ l)) (last project x (are_alike project x) (list_any (are_alike project) xs) (alike_sym x project))

only : (b : Bool) (project : LinkedProject) → map workspace_of (if b then [] else project ∷ []) ≡ (if b then [] else workspace_of project ∷ [])
only true project = refl
only false project = refl

pub workspaces-more : (projects : List LinkedProject) (project : LinkedProject)
    → workspaces_of (projects ++ project ∷ []) ≡ workspaces_of projects ++ (if list_any (are_alike project) projects then [] else workspace_of project ∷ [])
workspaces-more projects project =
    let found = list_any (are_alike project) projects in
    ap (map workspace_of) (firsts-more projects project)
    ∙ map-append workspace_of (firsts projects) (if found then [] else project ∷ [])
    ∙ ap (λ l. workspaces_of projects ++ l) (only found project)

-- a project that is like one of these gives a workspace of these
is_listed : (project : LinkedProject) (projects : List LinkedProject) → list_any (are_alike project) projects ≡ true
    → Contains (map workspace_of projects) (workspace_of project)
is_listed project [] found = absurd (true_not_false (sym found))
is_listed project (x ∷ xs) found = by (λ more. is_listed project xs more) (are_alike project x) refl found
  where
    by : (list_any (are_alike project) xs ≡ true → Contains (map workspace_of xs) (workspace_of project))
        → (b : Bool) → are_alike project x ≡ b → (b || list_any (are_alike project) xs) ≡ true
        → Contains (workspace_of x ∷ map workspace_of xs) (workspace_of project)
    by further true is found = (0, omega arith, sym (tells project x is))
    by further false is found = let rest = further found in (suc rest.0, omega (arith, rest.1), rest.2)

pub each_listed : (projects : List LinkedProject) (project : LinkedProject) → Contains projects project
    → Contains (workspaces_of projects) (workspace_of project)
each_listed projects project (k, within, is) =
    is_listed project (firsts projects)
    (any-firsts project projects ∙ list_any_at (are_alike project) projects k project within (ap (are_alike project) is ∙ told project project refl))

firsts_unlike : (projects : List LinkedProject) → AllPairs (λ one other. are_alike one other ≡ false) (firsts projects)
firsts_unlike [] = λ i j d lt within. absurd (omega (arith, within))
firsts_unlike (x ∷ xs) =
    AllPairs-cons (λ one other. are_alike one other ≡ false) x (filter (unlike x) (firsts xs))
    (λ k d within. not_is_true _ (filter_passes (unlike x) (firsts xs) k d within))
    (AllPairs-filter (λ one other. are_alike one other ≡ false) (unlike x) (firsts xs) (firsts_unlike xs))

abbrev Differ : ProjectWorkspace → ProjectWorkspace → Type 0
Differ one other = without_build one ≢ without_build other

differ : (projects : List LinkedProject) → AllPairs (λ one other. are_alike one other ≡ false) projects → AllPairs Differ (map workspace_of projects)
differ [] apart = λ i j d lt within. absurd (omega (arith, within))
differ (x ∷ xs) apart =
    AllPairs-cons Differ (workspace_of x) (map workspace_of xs)
    (All-map (Differ (workspace_of x)) workspace_of xs
    (λ k d within same. true_not_false (sym (told x (get_or xs k d) same) ∙ apart zero (suc k) d (omega arith) (omega arith))))
    (differ xs (λ i j d lt within. apart (suc i) (suc j) d (omega arith) (omega arith)))

pub none_equal : (projects : List LinkedProject) → AllPairs (λ one other. without_build one ≢ without_build other) (workspaces_of projects)
none_equal projects = differ (firsts projects) (firsts_unlike projects)
