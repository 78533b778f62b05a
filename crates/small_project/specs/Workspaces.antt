-- The workspaces of projects, where nothing is known of a project but where it lies.
use Rattle.std.specs.Prelude.{ℕ, Bool, true, false, not, List, [], ◌∷◌, map, codes, bytes_eq, Option, Some, None, unwrap_or}
use Rattle.std.specs.List.{filter}
use Rattle.docs_vfs.specs.Paths.{parent_of}
use Rattle.docs_vfs.specs.declared.source_roots.Root.{Root}
use Rattle.project_model.specs.declared.kinds.WorkspaceKind.TheVariants.{Json}
use Rattle.project_model.specs.declared.workspace.ProjectWorkspace.{ProjectWorkspace}
use Rattle.ra_settings.specs.declared.value.LinkedProject.{LinkedProject}
use Rattle.ra_settings.specs.declared.value.LinkedProject.TheVariants.{ProjectManifest, InlineProjectJson}

-- the folder that a manifest lies in; `/` lies in itself
abbrev pub folder_of_manifest : List ℕ → List ℕ
folder_of_manifest manifest = unwrap_or (parent_of manifest) manifest

-- the local files below a folder
abbrev pub root_of : List ℕ → Root
root_of folder = record { include = folder ∷ []; exclude = []; is_local = true }

-- a workspace of which nothing is known but its manifest and its folder
abbrev pub workspace_at : Option (List ℕ) → List ℕ → ProjectWorkspace
workspace_at manifest folder = record {
  kind = Json;
  manifest = manifest;
  root = folder;
  roots = root_of folder ∷ [];
  packages = [];
  crates = [];
  build_files = [];
  toolchain = None;
  error = None;
  sysroot_root = None;
  sysroot_error = None;
  sysroot_metadata_error = None;
  rustc_error = None;
  build = None;
}

-- the workspace that a project gives; that of an inline one has no manifest, and lies at `/w`
abbrev pub workspace_of : LinkedProject → ProjectWorkspace
workspace_of (ProjectManifest manifest) = workspace_at (Some manifest) (folder_of_manifest manifest)
workspace_of (InlineProjectJson project buildfiles) = workspace_at None (codes "/w")

-- the manifest of a project; an inline one has none
abbrev pub manifest_of : LinkedProject → Option (List ℕ)
manifest_of (ProjectManifest manifest) = Some manifest
manifest_of (InlineProjectJson project buildfiles) = None

-- the projects give workspaces that are equal but for build data: they have one manifest, or both are inline
abbrev pub are_alike : LinkedProject → LinkedProject → Bool
are_alike (ProjectManifest one) (ProjectManifest other) = bytes_eq one other
are_alike (ProjectManifest one) (InlineProjectJson project buildfiles) = false
are_alike (InlineProjectJson project buildfiles) (ProjectManifest other) = false
are_alike (InlineProjectJson project buildfiles) (InlineProjectJson other files) = true

-- of projects that are alike the first stays
abbrev pub firsts : List LinkedProject → List LinkedProject
firsts [] = []
firsts (project ∷ rest) = project ∷ filter (λ other. not (are_alike project other)) (firsts rest)

-- the workspaces of the projects, in order; of workspaces that are equal but for build data the first stays
abbrev pub workspaces_of : List LinkedProject → List ProjectWorkspace
workspaces_of projects = map workspace_of (firsts projects)
