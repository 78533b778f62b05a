-- Whether two workspaces are the same but for what their builds made.
use Rattle.std.specs.Prelude.{◌≡◌, ℕ, List, [], ◌∷◌, get_or, Bool, Option, None, Decides, refl}
use Rattle.docs_vfs.specs.declared.source_roots.Root.{Root}
use Rattle.project_model.specs.declared.kinds.WorkspaceKind.{WorkspaceKind}
use Rattle.project_model.specs.declared.kinds.WorkspaceKind.TheVariants as kind
use Rattle.project_model.specs.declared.kinds.TargetKind.{TargetKind}
use Rattle.project_model.specs.declared.kinds.TargetKind.TheVariants as built
use Rattle.project_model.specs.declared.package.Target.{Target}
use Rattle.project_model.specs.declared.package.Package.{Package}
use Rattle.project_model.specs.declared.crates.CrateEntry.{CrateEntry}
use Rattle.project_model.specs.declared.workspace.ProjectWorkspace.{ProjectWorkspace}
use Rattle.plain.specs.Tests.{Test, truth, number, list_by, option_by, ◌and◌, test_by, text, texts, text_or_none}
use Rattle.project_model.specs.Workspaces.{without_build}
use Rattle.std.proofs.Common.{ap}
use Rattle.std.proofs.lemmas.Bool.Decides.{Decides-like}

-- ---- kinds, by their numbers

abbrev pub kind_number : WorkspaceKind → ℕ
kind_number kind.Cargo = 0
kind_number kind.Json = 1
kind_number kind.DetachedFile = 2

abbrev pub kind_at : ℕ → WorkspaceKind
kind_at n = get_or (kind.Cargo ∷ kind.Json ∷ kind.DetachedFile ∷ []) n kind.Cargo

pub numbered_kind : (k : WorkspaceKind) → kind_at (kind_number k) ≡ k
numbered_kind kind.Cargo = refl
numbered_kind kind.Json = refl
numbered_kind kind.DetachedFile = refl

abbrev pub workspace_kind : Test WorkspaceKind
workspace_kind = test_by kind_number kind_at numbered_kind number

abbrev pub built_number : TargetKind → ℕ
built_number built.Bin = 0
built_number built.Lib = 1
built_number built.Example = 2
built_number built.Test = 3
built_number built.Bench = 4
built_number built.BuildScript = 5
built_number built.Other = 6

abbrev pub built_at : ℕ → TargetKind
built_at n = get_or (built.Bin ∷ built.Lib ∷ built.Example ∷ built.Test ∷ built.Bench ∷ built.BuildScript ∷ built.Other ∷ []) n built.Bin

pub numbered_built : (k : TargetKind) → built_at (built_number k) ≡ k
numbered_built built.Bin = refl
numbered_built built.Lib = refl
numbered_built built.Example = refl
numbered_built built.Test = refl
numbered_built built.Bench = refl
numbered_built built.BuildScript = refl
numbered_built built.Other = refl

abbrev pub target_kind : Test TargetKind
target_kind = test_by built_number built_at numbered_built number

-- ---- the parts of a workspace

abbrev pub root_parts : Root → List (List ℕ) × (List (List ℕ) × Bool)
root_parts x = (x.include, (x.exclude, x.is_local))

abbrev pub root_of : List (List ℕ) × (List (List ℕ) × Bool) → Root
root_of (include, (exclude, is_local)) = record { include = include; exclude = exclude; is_local = is_local }

abbrev pub root : Test Root
root = test_by root_parts root_of (λ x. refl) (texts and texts and truth)

abbrev pub target_parts : Target → List ℕ × (TargetKind × (List ℕ × List (List ℕ)))
target_parts x = (x.name, (x.kind, (x.root, x.required_features)))

abbrev pub target_of : List ℕ × (TargetKind × (List ℕ × List (List ℕ))) → Target
target_of (name, (kind, (root, features))) = record { name = name; kind = kind; root = root; required_features = features }

abbrev pub target : Test Target
target = test_by target_parts target_of (λ x. refl) (text and target_kind and text and texts)

abbrev pub package_parts : Package → List ℕ × (List ℕ × (List Target × (List (List ℕ) × Option (List (List ℕ)))))
package_parts x = (x.id, (x.manifest, (x.targets, (x.features, x.member_deps))))

abbrev pub package_of : List ℕ × (List ℕ × (List Target × (List (List ℕ) × Option (List (List ℕ))))) → Package
package_of (id, (manifest, (targets, (features, deps)))) =
    record { id = id; manifest = manifest; targets = targets; features = features; member_deps = deps }

abbrev pub package_test : Test Package
package_test = test_by package_parts package_of (λ x. refl) (text and text and list_by target and texts and option_by texts)

abbrev pub entry_parts : CrateEntry → List ℕ × (Option (List ℕ) × (List ℕ × Bool))
entry_parts x = (x.root, (x.name, (x.deps, x.is_proc_macro)))

abbrev pub entry_of : List ℕ × (Option (List ℕ) × (List ℕ × Bool)) → CrateEntry
entry_of (root, (name, (deps, is_proc_macro))) = record { root = root; name = name; deps = deps; is_proc_macro = is_proc_macro }

abbrev pub entry : Test CrateEntry
entry = test_by entry_parts entry_of (λ x. refl) (text and text_or_none and list_by number and truth)

-- ---- a workspace without what its build made

-- what it is made of, and what was told of it
abbrev pub Contents : Type 0
Contents = WorkspaceKind × (List ℕ × (List Root × (List Package × (List CrateEntry × List (List ℕ)))))

abbrev pub Texts : Type 0
Texts = Option (List ℕ) × (Option (List ℕ) × (Option (List ℕ) × (Option (List ℕ) × (Option (List ℕ) × (Option (List ℕ) × Option (List ℕ))))))

abbrev pub contents_of : ProjectWorkspace → Contents
contents_of x = (x.kind, (x.root, (x.roots, (x.packages, (x.crates, x.build_files)))))

abbrev pub texts_of : ProjectWorkspace → Texts
texts_of x = (x.manifest, (x.toolchain, (x.error, (x.sysroot_root, (x.sysroot_error, (x.sysroot_metadata_error, x.rustc_error))))))

abbrev pub workspace_parts : ProjectWorkspace → Contents × Texts
workspace_parts x = (contents_of x, texts_of x)

abbrev pub workspace_of : Contents × Texts → ProjectWorkspace
workspace_of ((kind, (root, (roots, (packages, (crates, files))))), (manifest, (toolchain, (error, (sysroot, (missing, (metadata, rustc))))))) = record {
  kind = kind;
  manifest = manifest;
  root = root;
  roots = roots;
  packages = packages;
  crates = crates;
  build_files = files;
  toolchain = toolchain;
  error = error;
  sysroot_root = sysroot;
  sysroot_error = missing;
  sysroot_metadata_error = metadata;
  rustc_error = rustc;
  build = None;
}

abbrev pub contents : Test Contents
contents = workspace_kind and text and list_by root and list_by package_test and list_by entry and texts

abbrev pub told_texts : Test Texts
told_texts = text_or_none and text_or_none and text_or_none and text_or_none and text_or_none and text_or_none and text_or_none

abbrev pub workspace_test : Test (Contents × Texts)
workspace_test = contents and told_texts

-- the workspaces are the same but for what their builds made
abbrev pub is_same_but_build : ProjectWorkspace → ProjectWorkspace → Bool
is_same_but_build x y = workspace_test.is_same (workspace_parts x) (workspace_parts y)

pub same_but_build_told : (x y : ProjectWorkspace) → Decides (is_same_but_build x y) (without_build x ≡ without_build y)
same_but_build_told x y =
    Decides-like _ (λ e. ap workspace_of e) (λ e. ap workspace_parts e) (workspace_test.tells (workspace_parts x) (workspace_parts y))
