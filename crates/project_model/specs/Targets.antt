-- Which target a file is the root of, and what is told of it to the tool that builds it.
use Rattle.std.specs.Prelude.{ℕ, Bool, List, [], ◌∷◌, bytes_eq, find, Option, Some, None, option_map}
use Rattle.project_model.specs.declared.kinds.WorkspaceKind.{WorkspaceKind}
use Rattle.project_model.specs.declared.kinds.WorkspaceKind.TheVariants as kind
use Rattle.project_model.specs.declared.package.Target.{Target}
use Rattle.project_model.specs.declared.package.Package.{Package}
use Rattle.project_model.specs.declared.workspace.ProjectWorkspace.{ProjectWorkspace}
use Rattle.project_model.specs.declared.target_spec.TargetSpec.{TargetSpec}
use Rattle.project_model.specs.declared.target_spec.TargetSpec.TheVariants.{Cargo, ProjectJson}

-- the first of these, and where there is none the second
abbrev pub or_else : {B : Type 0} → Option B → Option B → Option B
or_else None other = other
or_else (Some x) other = Some x

-- what f gives of the first item of which it gives something
abbrev pub first_given : {A B : Type 0} → (A → Option B) → List A → Option B
first_given f [] = None
first_given f (x ∷ xs) = or_else (f x) (first_given f xs)

abbrev pub has_root : List ℕ → Target → Bool
has_root root target = bytes_eq target.root root

-- a target by its package
abbrev pub cargo_spec : ProjectWorkspace → Package → Target → TargetSpec
cargo_spec workspace «package» target =
    Cargo workspace.root «package».manifest «package».id target.name target.kind target.required_features «package».features workspace.sysroot_root

abbrev pub spec_by_kind : WorkspaceKind → ProjectWorkspace → Package → Target → TargetSpec
spec_by_kind kind.Json workspace «package» target = ProjectJson «package».id target.kind workspace.root
spec_by_kind kind.Cargo workspace «package» target = cargo_spec workspace «package» target
spec_by_kind kind.DetachedFile workspace «package» target = cargo_spec workspace «package» target

-- a target of a workspace that is described as JSON by its label, any other by its package
abbrev pub spec_of : ProjectWorkspace → Package → Target → TargetSpec
spec_of workspace = spec_by_kind workspace.kind workspace

-- of the first target of the package with that root
abbrev pub spec_in_package : ProjectWorkspace → List ℕ → Package → Option TargetSpec
spec_in_package workspace root «package» = option_map (spec_of workspace «package») (find (has_root root) «package».targets)

abbrev pub spec_in_workspace : List ℕ → ProjectWorkspace → Option TargetSpec
spec_in_workspace root workspace = first_given (spec_in_package workspace root) workspace.packages

-- of the first target with that root, over the workspaces and their packages in order
abbrev pub target_spec_for_file : List ProjectWorkspace → List ℕ → Option TargetSpec
target_spec_for_file workspaces root = first_given (spec_in_workspace root) workspaces
