-- How workspaces, with what builds and macros made are spelled.
use Rattle.std.specs.Prelude.{◌≡◌, ℕ, List, Option, ◌⊎◌, refl}
use Rattle.std.proofs.Common.{inl, inr}
use Rattle.record_codec.specs.Codec.{Codec, ◌and◌, by_parts, nothing}
use Rattle.record_codec.specs.Numbers.{number32, text}
use Rattle.record_codec.specs.Lists.{list_of}
use Rattle.record_codec.specs.Cases.{◌or◌, last, by_cases, truth, optional}
use Rattle.record_codec.specs.Leaves.{path}
use Rattle.docs_vfs.specs.declared.source_roots.Root.{Root}
use Rattle.project_model.specs.declared.kinds.TargetKind.{TargetKind}
use Rattle.project_model.specs.declared.kinds.TargetKind.TheVariants as target_kind
use Rattle.project_model.specs.declared.package.Target.{Target}
use Rattle.project_model.specs.declared.package.Package.{Package}
use Rattle.project_model.specs.declared.crates.CrateEntry.{CrateEntry}
use Rattle.project_model.specs.declared.build.MacroPath.{MacroPath}
use Rattle.project_model.specs.declared.build.MacroPath.TheVariants as macro_path
use Rattle.project_model.specs.declared.build.BuildScripts.{BuildScripts}
use Rattle.project_model.specs.declared.kinds.WorkspaceKind.{WorkspaceKind}
use Rattle.project_model.specs.declared.kinds.WorkspaceKind.TheVariants as workspace_kind
use Rattle.project_model.specs.declared.workspace.ProjectWorkspace.{ProjectWorkspace}
use Rattle.project_model.specs.declared.crates.MacroState.{MacroState}
use Rattle.project_model.specs.declared.crates.MacroState.TheVariants as macro_state

unfoldable pub root_codec : Codec Root
root_codec =
    by_parts (λ x. (x.include, (x.exclude, x.is_local)))
    (λ p. record { include = p.0; exclude = p.1.0; is_local = p.1.1 }) (λ x. refl) (λ p. refl)
    (list_of path and list_of path and truth)

abbrev pub TargetKindParts : Type 0
TargetKindParts = (Unit {0}) ⊎ ((Unit {0}) ⊎ ((Unit {0}) ⊎ ((Unit {0}) ⊎ ((Unit {0}) ⊎ ((Unit {0}) ⊎ (Unit {0}))))))

abbrev pub target_kind_parts : TargetKind → TargetKindParts
target_kind_parts target_kind.Bin = inl tt
target_kind_parts target_kind.Lib = inr (inl tt)
target_kind_parts target_kind.Example = inr (inr (inl tt))
target_kind_parts target_kind.Test = inr (inr (inr (inl tt)))
target_kind_parts target_kind.Bench = inr (inr (inr (inr (inl tt))))
target_kind_parts target_kind.BuildScript = inr (inr (inr (inr (inr (inl tt)))))
target_kind_parts target_kind.Other = inr (inr (inr (inr (inr (inr tt)))))

abbrev pub target_kind_of : TargetKindParts → TargetKind
target_kind_of (inl p) = target_kind.Bin
target_kind_of (inr (inl p)) = target_kind.Lib
target_kind_of (inr (inr (inl p))) = target_kind.Example
target_kind_of (inr (inr (inr (inl p)))) = target_kind.Test
target_kind_of (inr (inr (inr (inr (inl p))))) = target_kind.Bench
target_kind_of (inr (inr (inr (inr (inr (inl p)))))) = target_kind.BuildScript
target_kind_of (inr (inr (inr (inr (inr (inr p)))))) = target_kind.Other

pub target_kind_made : (x : TargetKind) → target_kind_of (target_kind_parts x) ≡ x
target_kind_made target_kind.Bin = refl
target_kind_made target_kind.Lib = refl
target_kind_made target_kind.Example = refl
target_kind_made target_kind.Test = refl
target_kind_made target_kind.Bench = refl
target_kind_made target_kind.BuildScript = refl
target_kind_made target_kind.Other = refl

pub target_kind_unmade : (y : TargetKindParts) → target_kind_parts (target_kind_of y) ≡ y
target_kind_unmade (inl p) = refl
target_kind_unmade (inr (inl p)) = refl
target_kind_unmade (inr (inr (inl p))) = refl
target_kind_unmade (inr (inr (inr (inl p)))) = refl
target_kind_unmade (inr (inr (inr (inr (inl p))))) = refl
target_kind_unmade (inr (inr (inr (inr (inr (inl p)))))) = refl
target_kind_unmade (inr (inr (inr (inr (inr (inr p)))))) = refl

unfoldable pub target_kind_codec : Codec TargetKind
target_kind_codec =
    by_cases target_kind_parts target_kind_of target_kind_made target_kind_unmade
    (nothing or nothing or nothing or nothing or nothing or nothing or last nothing)

unfoldable pub target_codec : Codec Target
target_codec =
    by_parts (λ x. (x.name, (x.kind, (x.root, x.required_features))))
    (λ p. record { name = p.0; kind = p.1.0; root = p.1.1.0; required_features = p.1.1.1 }) (λ x. refl) (λ p. refl)
    (text and target_kind_codec and path and list_of text)

unfoldable pub package_codec : Codec Package
package_codec =
    by_parts (λ x. (x.id, (x.manifest, (x.targets, (x.features, x.member_deps)))))
    (λ p. record { id = p.0; manifest = p.1.0; targets = p.1.1.0; features = p.1.1.1.0; member_deps = p.1.1.1.1 })
    (λ x. refl) (λ p. refl)
    (text and path and list_of target_codec and list_of text and optional (list_of text))

unfoldable pub crate_entry_codec : Codec CrateEntry
crate_entry_codec =
    by_parts (λ x. (x.root, (x.name, (x.deps, x.is_proc_macro))))
    (λ p. record { root = p.0; name = p.1.0; deps = p.1.1.0; is_proc_macro = p.1.1.1 }) (λ x. refl) (λ p. refl)
    (path and optional text and list_of number32 and truth)

abbrev pub MacroPathParts : Type 0
MacroPathParts = ((List ℕ) × (List ℕ)) ⊎ (List ℕ)

abbrev pub macro_path_parts : MacroPath → MacroPathParts
macro_path_parts (macro_path.Built name library) = inl (name, library)
macro_path_parts (macro_path.Failed x) = inr x

abbrev pub macro_path_of : MacroPathParts → MacroPath
macro_path_of (inl p) = macro_path.Built p.0 p.1
macro_path_of (inr p) = macro_path.Failed p

pub macro_path_made : (x : MacroPath) → macro_path_of (macro_path_parts x) ≡ x
macro_path_made (macro_path.Built name library) = refl
macro_path_made (macro_path.Failed x) = refl

pub macro_path_unmade : (y : MacroPathParts) → macro_path_parts (macro_path_of y) ≡ y
macro_path_unmade (inl p) = refl
macro_path_unmade (inr p) = refl

unfoldable pub macro_path_codec : Codec MacroPath
macro_path_codec =
    by_cases macro_path_parts macro_path_of macro_path_made macro_path_unmade
    ((text and path) or last text)

unfoldable pub build_scripts_codec : Codec BuildScripts
build_scripts_codec =
    by_parts (λ x. (x.error, x.macro_paths))
    (λ p. record { error = p.0; macro_paths = p.1 }) (λ x. refl) (λ p. refl)
    (optional text and list_of (number32 and macro_path_codec))

abbrev pub WorkspaceKindParts : Type 0
WorkspaceKindParts = (Unit {0}) ⊎ ((Unit {0}) ⊎ (Unit {0}))

abbrev pub workspace_kind_parts : WorkspaceKind → WorkspaceKindParts
workspace_kind_parts workspace_kind.Cargo = inl tt
workspace_kind_parts workspace_kind.Json = inr (inl tt)
workspace_kind_parts workspace_kind.DetachedFile = inr (inr tt)

abbrev pub workspace_kind_of : WorkspaceKindParts → WorkspaceKind
workspace_kind_of (inl p) = workspace_kind.Cargo
workspace_kind_of (inr (inl p)) = workspace_kind.Json
workspace_kind_of (inr (inr p)) = workspace_kind.DetachedFile

pub workspace_kind_made : (x : WorkspaceKind) → workspace_kind_of (workspace_kind_parts x) ≡ x
workspace_kind_made workspace_kind.Cargo = refl
workspace_kind_made workspace_kind.Json = refl
workspace_kind_made workspace_kind.DetachedFile = refl

pub workspace_kind_unmade : (y : WorkspaceKindParts) → workspace_kind_parts (workspace_kind_of y) ≡ y
workspace_kind_unmade (inl p) = refl
workspace_kind_unmade (inr (inl p)) = refl
workspace_kind_unmade (inr (inr p)) = refl

unfoldable pub workspace_kind_codec : Codec WorkspaceKind
workspace_kind_codec =
    by_cases workspace_kind_parts workspace_kind_of workspace_kind_made workspace_kind_unmade
    (nothing or nothing or last nothing)

-- the fields of a workspace from its build files on
unfoldable pub workspace_end :
    Codec (List (List ℕ) × (Option (List ℕ) × (Option (List ℕ) × (Option (List ℕ) × (Option (List ℕ)
    × (Option (List ℕ) × (Option (List ℕ) × Option BuildScripts)))))))
workspace_end =
    list_of text and optional text and optional text and optional path and optional text and optional text
    and optional text and optional build_scripts_codec

abbrev pub end_of_workspace : ProjectWorkspace
    → List (List ℕ) × (Option (List ℕ) × (Option (List ℕ) × (Option (List ℕ) × (Option (List ℕ)
    × (Option (List ℕ) × (Option (List ℕ) × Option BuildScripts))))))
end_of_workspace x = (
  x.build_files,
  (
    x.toolchain,
    (
      x.error,
      (
        x.sysroot_root,
        (
          x.sysroot_error,
          (
            x.sysroot_metadata_error,
            (x.rustc_error, x.build),
          ),
        ),
      ),
    ),
  ),
)

unfoldable pub project_workspace_codec : Codec ProjectWorkspace
project_workspace_codec =
    by_parts (λ x. (x.kind, (x.manifest, (x.root, (x.roots, (x.packages, (x.crates, end_of_workspace x)))))))
    (λ p. record {
      kind = p.0;
      manifest = p.1.0;
      root = p.1.1.0;
      roots = p.1.1.1.0;
      packages = p.1.1.1.1.0;
      crates = p.1.1.1.1.1.0;
      build_files = p.1.1.1.1.1.1.0;
      toolchain = p.1.1.1.1.1.1.1.0;
      error = p.1.1.1.1.1.1.1.1.0;
      sysroot_root = p.1.1.1.1.1.1.1.1.1.0;
      sysroot_error = p.1.1.1.1.1.1.1.1.1.1.0;
      sysroot_metadata_error = p.1.1.1.1.1.1.1.1.1.1.1.0;
      rustc_error = p.1.1.1.1.1.1.1.1.1.1.1.1.0;
      build = p.1.1.1.1.1.1.1.1.1.1.1.1.1;
    }) (λ x. refl) (λ p. refl)
    (workspace_kind_codec and optional path and path and list_of root_codec and list_of package_codec
    and list_of crate_entry_codec and workspace_end)

abbrev pub MacroStateParts : Type 0
MacroStateParts = (Unit {0}) ⊎ ((Unit {0}) ⊎ ((List (List ℕ)) ⊎ (List ℕ)))

abbrev pub macro_state_parts : MacroState → MacroStateParts
macro_state_parts macro_state.NotYetBuilt = inl tt
macro_state_parts macro_state.Disabled = inr (inl tt)
macro_state_parts (macro_state.Loaded x) = inr (inr (inl x))
macro_state_parts (macro_state.Failed x) = inr (inr (inr x))

abbrev pub macro_state_of : MacroStateParts → MacroState
macro_state_of (inl p) = macro_state.NotYetBuilt
macro_state_of (inr (inl p)) = macro_state.Disabled
macro_state_of (inr (inr (inl p))) = macro_state.Loaded p
macro_state_of (inr (inr (inr p))) = macro_state.Failed p

pub macro_state_made : (x : MacroState) → macro_state_of (macro_state_parts x) ≡ x
macro_state_made macro_state.NotYetBuilt = refl
macro_state_made macro_state.Disabled = refl
macro_state_made (macro_state.Loaded x) = refl
macro_state_made (macro_state.Failed x) = refl

pub macro_state_unmade : (y : MacroStateParts) → macro_state_parts (macro_state_of y) ≡ y
macro_state_unmade (inl p) = refl
macro_state_unmade (inr (inl p)) = refl
macro_state_unmade (inr (inr (inl p))) = refl
macro_state_unmade (inr (inr (inr p))) = refl

unfoldable pub macro_state_codec : Codec MacroState
macro_state_codec =
    by_cases macro_state_parts macro_state_of macro_state_made macro_state_unmade
    (nothing or nothing or (list_of text) or last text)
