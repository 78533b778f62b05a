-- Which checks restart for a saved file, and with what.
use Rattle.std.specs.Prelude.{◌≡◌, ℕ, Bool, true, false, not, ◌&&◌, ◌||◌, ◌==◌, List, [], ◌∷◌, ◌++◌, map, filter, position, bytes_eq, Option, Some, None, is_some, option_and_then, if◌then◌else◌}
use Rattle.std.specs.List.{list_any}
use Rattle.project_model.specs.declared.crates.CrateInfo.{CrateInfo}
use Rattle.project_model.specs.declared.kinds.TargetKind.{TargetKind}
use Rattle.project_model.specs.declared.kinds.TargetKind.TheVariants as kind
use Rattle.project_model.specs.declared.package.PackageSpecifier.{PackageSpecifier}
use Rattle.project_model.specs.declared.package.PackageSpecifier.TheVariants as specifier
use Rattle.project_model.specs.declared.target_spec.TargetSpec.{TargetSpec}
use Rattle.project_model.specs.declared.target_spec.TargetSpec.TheVariants as spec
use Rattle.project_model.specs.declared.workspace.ProjectWorkspace.{ProjectWorkspace}
use Rattle.project_model.specs.Dependencies.{all_deps}
use Rattle.project_model.specs.Targets.{target_spec_for_file}
use Rattle.check_restarts.specs.Affected.{affected_of}
use Rattle.check_restarts.specs.Among.{is_among, has_target_at}
use Rattle.check_restarts.specs.Dependents.{AreAffected}
use Rattle.project_model.specs.declared.check_scope.CheckScope.{CheckScope}
use Rattle.project_model.specs.declared.check_scope.CheckScope.TheVariants as scope
use Rattle.project_model.specs.declared.check_scope.Restart.{Restart}

-- the target that the first root is the root of
abbrev pub first_target : List ProjectWorkspace → List (List ℕ) → Option TargetSpec
first_target workspaces [] = None
first_target workspaces (root ∷ rest) = target_spec_for_file workspaces root

-- a target of this kind is checked by its name
abbrev pub is_named : TargetKind → Bool
is_named kind.Bin = true
is_named kind.Example = true
is_named kind.Test = true
is_named kind.Bench = true
is_named kind.Lib = false
is_named kind.BuildScript = false
is_named kind.Other = false

abbrev pub named_target : TargetSpec → Option (TargetKind × List ℕ)
named_target (spec.Cargo root manifest id name kind required features sysroot) = if is_named kind then Some (kind, name) else None
named_target (spec.ProjectJson label kind root) = None

abbrev pub root_of : TargetSpec → List ℕ
root_of (spec.Cargo root manifest id name kind required features sysroot) = root
root_of (spec.ProjectJson label kind root) = root

abbrev pub specifier_of : TargetSpec → PackageSpecifier
specifier_of (spec.Cargo root manifest id name kind required features sysroot) = specifier.Cargo id
specifier_of (spec.ProjectJson label kind root) = specifier.BuildInfo label

abbrev pub is_project_json : TargetSpec → Bool
is_project_json (spec.Cargo root manifest id name kind required features sysroot) = false
is_project_json (spec.ProjectJson label kind root) = true

-- the package is checked alone: a target by its name, or where whole workspaces aren't checked, or by its label
abbrev pub is_alone : Bool → TargetSpec → Bool
is_alone check_workspace target = is_some (named_target target) || not check_workspace || is_project_json target

-- the place of the first workspace with the target's root, where its package is checked alone
abbrev pub place_alone : Bool → List ProjectWorkspace → TargetSpec → Option ℕ
place_alone check_workspace workspaces target =
    if is_alone check_workspace target then position (λ (workspace : ProjectWorkspace). bytes_eq workspace.root (root_of target)) workspaces else None

abbrev pub package_scope : List ProjectWorkspace → List ℕ → TargetSpec → CheckScope
package_scope workspaces saved target =
    scope.Package (specifier_of target) (named_target target) (all_deps workspaces (specifier_of target)) (Some saved)

abbrev pub workspace_scope : List ℕ → CheckScope
workspace_scope saved = scope.Workspace (Some saved)

abbrev pub restart_at : List ℕ → ℕ → Restart
restart_at saved id = record { id = id; scope = workspace_scope saved }

-- the check of that workspace, where there is one, restarts for the package
abbrev pub alone_at : List ProjectWorkspace → List ℕ → List ℕ → TargetSpec → Option ℕ → List Restart
alone_at workspaces checks saved target None = []
alone_at workspaces checks saved target (Some place) =
    if list_any (λ id. id == place) checks then record { id = place; scope = package_scope workspaces saved target } ∷ [] else []

abbrev pub alone : Bool → List ProjectWorkspace → List ℕ → List ℕ → Option TargetSpec → List Restart
alone check_workspace workspaces checks saved None = []
alone check_workspace workspaces checks saved (Some target) =
    alone_at workspaces checks saved target (place_alone check_workspace workspaces target)

abbrev pub place_of : Bool → List ProjectWorkspace → Option TargetSpec → Option ℕ
place_of check_workspace workspaces target = option_and_then (place_alone check_workspace workspaces) target

abbrev pub is_it : Option ℕ → ℕ → Bool
is_it None id = false
is_it (Some place) id = id == place

-- another check, whose workspace has a target with an affected root
abbrev pub is_affected : (List ℕ → Bool) → List ProjectWorkspace → Option ℕ → ℕ → Bool
is_affected test workspaces place id = not (is_it place id) && has_target_at test workspaces id

-- the others that restart; where none does and no package is checked alone, all do
abbrev pub or_all : List ℕ → Option ℕ → List ℕ → List ℕ
or_all checks (Some place) others = others
or_all checks None [] = checks
or_all checks None (first ∷ rest) = first ∷ rest

abbrev pub others : (List ℕ → Bool) → List ProjectWorkspace → List ℕ → Option ℕ → List ℕ
others test workspaces checks place = or_all checks place (filter (is_affected test workspaces place) checks)

-- the others that restart: of the crates whose roots are given, and of all that depend on them,
-- the roots decide
abbrev pub others_of : List CrateInfo → List (List ℕ) → List (List ℕ) → List ProjectWorkspace
    → List ℕ → Option ℕ → List ℕ
others_of crates paths roots workspaces checks place =
    others (is_among (affected_of crates paths roots)) workspaces checks place

-- the package's own check first, and then, where whole workspaces are checked, the others
abbrev pub restarts_of : Bool → List CrateInfo → List (List ℕ) → List (List ℕ)
    → List ProjectWorkspace → List ℕ → List ℕ → List Restart
restarts_of check_workspace crates paths roots workspaces checks saved =
    let target = first_target workspaces roots in
    let place = place_of check_workspace workspaces target in
    let ids = others_of crates paths roots workspaces checks place in
    alone check_workspace workspaces checks saved target
    ++ (if check_workspace then map (restart_at saved) ids else [])

-- The same as a relation, whatever list is that of the affected roots.

-- the others that restart
abbrev pub AreOthers : List CrateInfo → List (List ℕ) → List (List ℕ) → List ProjectWorkspace → List ℕ → Option ℕ → List ℕ → Type 0
AreOthers crates paths roots workspaces checks place ids =
    (affected : List (List ℕ)) × AreAffected crates paths roots affected × (ids ≡ others (is_among affected) workspaces checks place)

-- where whole workspaces are checked, the others come behind the package's own check
abbrev pub AddsOthers : Bool → List CrateInfo → List (List ℕ) → List (List ℕ) → List ProjectWorkspace → List ℕ → List ℕ
    → Option ℕ → List Restart → List Restart → Type 0
AddsOthers true crates paths roots workspaces checks saved place own list =
    (ids : List ℕ) × AreOthers crates paths roots workspaces checks place ids × (list ≡ own ++ map (restart_at saved) ids)
AddsOthers false crates paths roots workspaces checks saved place own list = list ≡ own

-- the package's own check first, and then, where whole workspaces are checked, the others
abbrev pub AreRestarts : Bool → List CrateInfo → List (List ℕ) → List (List ℕ) → List ProjectWorkspace → List ℕ → List ℕ → List Restart → Type 0
AreRestarts check_workspace crates paths roots workspaces checks saved list =
    AddsOthers check_workspace crates paths roots workspaces checks saved (place_of check_workspace workspaces (first_target workspaces roots))
    (alone check_workspace workspaces checks saved (first_target workspaces roots)) list
