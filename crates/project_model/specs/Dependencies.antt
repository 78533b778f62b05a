-- Which packages of a workspace depend on a package.
use Rattle.std.specs.Prelude.{ℕ, Bool, true, false, List, map, bytes_eq, find, Option, None, option_map, option_and_then, if◌then◌else◌}
use Rattle.project_model.specs.declared.kinds.WorkspaceKind.{WorkspaceKind}
use Rattle.project_model.specs.declared.kinds.WorkspaceKind.TheVariants as kind
use Rattle.project_model.specs.declared.package.Package.{Package}
use Rattle.project_model.specs.declared.package.PackageSpecifier.{PackageSpecifier}
use Rattle.project_model.specs.declared.package.PackageSpecifier.TheVariants.{Cargo, BuildInfo}
use Rattle.project_model.specs.declared.workspace.ProjectWorkspace.{ProjectWorkspace}
use Rattle.project_model.specs.Targets.{first_given}

abbrev pub id_of : PackageSpecifier → List ℕ
id_of (Cargo package_id) = package_id
id_of (BuildInfo label) = label

-- a specifier of the same variant with this id
abbrev pub specifier_like : PackageSpecifier → List ℕ → PackageSpecifier
specifier_like (Cargo package_id) id = Cargo id
specifier_like (BuildInfo label) id = BuildInfo id

-- a label names a package of a workspace that is described as JSON, an id of cargo one of any other
abbrev pub may_name : PackageSpecifier → WorkspaceKind → Bool
may_name (BuildInfo label) kind.Json = true
may_name (BuildInfo label) kind.Cargo = false
may_name (BuildInfo label) kind.DetachedFile = false
may_name (Cargo package_id) kind.Json = false
may_name (Cargo package_id) kind.Cargo = true
may_name (Cargo package_id) kind.DetachedFile = true

abbrev pub has_id : List ℕ → Package → Bool
has_id id «package» = bytes_eq «package».id id

-- what the first package with that id names, in a workspace that it may be of
abbrev pub deps_in : PackageSpecifier → ProjectWorkspace → Option (List (List ℕ))
deps_in specifier workspace =
    if may_name specifier workspace.kind
    then option_and_then (λ («package» : Package). «package».member_deps) (find (has_id (id_of specifier)) workspace.packages)
    else None

-- of the first workspace in which they are named, each as a specifier of the same variant
abbrev pub all_deps : List ProjectWorkspace → PackageSpecifier → Option (List PackageSpecifier)
all_deps workspaces specifier = option_map (map (specifier_like specifier)) (first_given (deps_in specifier) workspaces)
