-- The texts of a status.
use Rattle.std.specs.Prelude.{ℕ, Bool, true, false, List, [], ◌∷◌, ◌++◌, codes, Option, Some, None, if◌then◌else◌}
use Rattle.std.specs.List.{filter_map, list_any}
use Rattle.ra_settings.specs.declared.value.LinkedProject.{LinkedProject}
use Rattle.ra_settings.specs.declared.value.LinkedProject.TheVariants.{ProjectManifest, InlineProjectJson}

abbrev pub line_feed : List ℕ
line_feed = 10 ∷ []

abbrev pub reload_text : List ℕ
reload_text =
    codes "Auto-reloading is disabled and the workspace has changed, a manual workspace reload is required." ++ line_feed ++ line_feed

abbrev pub rebuild_text : List ℕ
rebuild_text = codes "Proc-macros and/or build scripts have changed and need to be rebuilt." ++ line_feed ++ line_feed

abbrev pub build_text : List ℕ
build_text =
    codes "Failed to run build scripts of some packages." ++ line_feed ++ line_feed
    ++ codes "Please refer to the language server logs for more details on the errors."

abbrev pub discover_text : List ℕ
discover_text =
    codes "Failed to discover workspace." ++ line_feed
    ++ codes "Consider adding the `Cargo.toml` of the workspace to the [`linkedProjects`]"
    ++ codes "(https://rust-analyzer.github.io/book/configuration.html#linkedProjects) setting." ++ line_feed ++ line_feed

-- a text that ends its line
abbrev pub line : List ℕ → List ℕ
line text = text ++ line_feed

abbrev pub manifest_of : LinkedProject → Option (List ℕ)
manifest_of (ProjectManifest path) = Some path
manifest_of (InlineProjectJson project buildfiles) = None

abbrev pub is_object : LinkedProject → Bool
is_object (ProjectManifest path) = false
is_object (InlineProjectJson project buildfiles) = true

abbrev pub next_line : List ℕ
next_line = line_feed ++ codes "    "

-- what stands before a text: nothing before the first
abbrev pub front_of : Bool → List ℕ
front_of true = []
front_of false = next_line

-- the texts, the first behind this one and each other on a line of its own
abbrev pub lines_behind : List ℕ → List (List ℕ) → List ℕ
lines_behind front [] = []
lines_behind front (text ∷ rest) = front ++ text ++ lines_behind next_line rest

abbrev pub objects_text : Bool → List ℕ
objects_text true = line_feed ++ codes "Additionally, one or more project jsons are specified"
objects_text false = []

-- what the settings link: the manifests, and whether there are objects
abbrev pub linked_text : List LinkedProject → List ℕ
linked_text [] = []
linked_text (first ∷ rest) =
    codes "`rust-analyzer.linkedProjects` have been specified, which may be incorrect. Specified project paths:" ++ line_feed ++ codes "    "
    ++ lines_behind [] (filter_map manifest_of (first ∷ rest)) ++ objects_text (list_any is_object (first ∷ rest))

abbrev pub load_text : List LinkedProject → List ℕ
load_text linked = codes "Failed to load workspaces." ++ linked_text linked ++ line_feed ++ line_feed

-- an error of a workspace with this name, between two words
abbrev pub error_text : List ℕ → List ℕ → List ℕ → List ℕ → List ℕ
error_text front name middle error = front ++ name ++ middle ++ error ++ line_feed ++ line_feed
