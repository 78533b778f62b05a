-- Which files a client is to watch for a list of workspaces.
use Rattle.std.specs.Prelude.{ℕ, Bool, true, false, List, [], ◌∷◌, ◌++◌, ◌==◌, length, codes, map, Option, Some, None}
use Rattle.std.specs.Prelude.{if◌then◌else◌}
use Rattle.docs_vfs.specs.FileUrls.{url_of}
use Rattle.docs_vfs.specs.declared.source_roots.Root.{Root}
use Rattle.project_model.specs.declared.kinds.WorkspaceKind.{WorkspaceKind}
use Rattle.project_model.specs.declared.kinds.WorkspaceKind.TheVariants as kind
use Rattle.project_model.specs.declared.workspace.ProjectWorkspace.{ProjectWorkspace}
use Rattle.lsp_types.specs.declared.watcher.Watcher.{Watcher}
use Rattle.lsp_types.specs.declared.watcher.Watcher.TheVariants as watcher

abbrev pub rust_files : List ℕ
rust_files = codes "**/*.rs"

abbrev pub settings_files : List ℕ
settings_files = codes "**/rust-analyzer.toml"

-- a pattern below a folder: no second `/` follows `/` itself
abbrev pub glob_below : List ℕ → List ℕ → List ℕ
glob_below folder pattern = (if length folder == 1 then folder else folder ++ codes "/") ++ pattern

-- what is watched below an include of a local root: with patterns that are relative to its URL, else with whole ones
abbrev pub below_include : Bool → List ℕ → List Watcher
below_include true include =
    watcher.Relative (url_of include) rust_files ∷ watcher.Relative (url_of include) (codes "**/Cargo.{lock,toml}")
    ∷ watcher.Relative (url_of include) settings_files ∷ []
below_include false include =
    watcher.Text (glob_below include rust_files) ∷ watcher.Text (glob_below include (codes "**/Cargo.{toml,lock}"))
    ∷ watcher.Text (glob_below include settings_files) ∷ []

abbrev pub below_includes : Bool → List (List ℕ) → List Watcher
below_includes relative [] = []
below_includes relative (include ∷ rest) = below_include relative include ++ below_includes relative rest

abbrev pub below_root : Bool → Root → List Watcher
below_root relative root = if root.is_local then below_includes relative root.include else []

abbrev pub below_roots : Bool → List Root → List Watcher
below_roots relative [] = []
below_roots relative (root ∷ rest) = below_root relative root ++ below_roots relative rest

abbrev pub below_workspaces : Bool → List ProjectWorkspace → List Watcher
below_workspaces relative [] = []
below_workspaces relative (workspace ∷ rest) = below_roots relative workspace.roots ++ below_workspaces relative rest

abbrev pub is_json : WorkspaceKind → Bool
is_json kind.Cargo = false
is_json kind.Json = true
is_json kind.DetachedFile = false

abbrev pub as_text : List ℕ → Watcher
as_text text = watcher.Text text

-- the files from which a workspace was made that is described as JSON
abbrev pub of_build_files : ProjectWorkspace → List Watcher
of_build_files workspace = if is_json workspace.kind then map as_text workspace.build_files else []

abbrev pub all_build_files : List ProjectWorkspace → List Watcher
all_build_files [] = []
all_build_files (workspace ∷ rest) = of_build_files workspace ++ all_build_files rest

abbrev pub of_manifest : Option (List ℕ) → List Watcher
of_manifest None = []
of_manifest (Some manifest) = as_text manifest ∷ []

abbrev pub all_manifests : List ProjectWorkspace → List Watcher
all_manifests [] = []
all_manifests (workspace ∷ rest) = of_manifest workspace.manifest ++ all_manifests rest

-- the files below local roots, then the build files, then the manifests
abbrev pub watchers_of : Bool → List ProjectWorkspace → List Watcher
watchers_of relative workspaces = below_workspaces relative workspaces ++ all_build_files workspaces
    ++ all_manifests workspaces
