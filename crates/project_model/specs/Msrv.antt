-- Which workspaces have a compiler that is older than the oldest that is supported, 1.78.0, and what is told of them.
use Rattle.std.specs.Prelude.{ℕ, Bool, false, List, [], ◌∷◌, ◌++◌, codes, Option, Some, None, Result, Ok, Err, if◌then◌else◌}
use Rattle.std.specs.List.{filter_map}
use Rattle.std.specs.Ordering.{nat_cmp, ordering_then, is_lt}
use Rattle.semver.specs.Order.{pre_cmp}
use Rattle.semver.specs.Parse.{version_parts}
use Rattle.semver.specs.declared.error.Error.{Error}
use Rattle.project_model.specs.declared.workspace.ProjectWorkspace.{ProjectWorkspace}
use Rattle.project_model.specs.Workspaces.{manifest_or_root}

-- the parts of a version come before 1.78.0: by its three numbers, and then by its pre-release
abbrev pub is_before_oldest : ℕ × ℕ × ℕ × List ℕ × List ℕ → Bool
is_before_oldest p = is_lt (ordering_then (nat_cmp p.0 1) (ordering_then (nat_cmp p.1 78) (ordering_then (nat_cmp p.2 0) (pre_cmp p.3 []))))

abbrev pub are_before_oldest : Result (ℕ × ℕ × ℕ × List ℕ × List ℕ) Error → Bool
are_before_oldest (Ok p) = is_before_oldest p
are_before_oldest (Err error) = false

-- the text reads as a version that comes before 1.78.0
abbrev pub is_outdated : List ℕ → Bool
is_outdated toolchain = are_before_oldest (version_parts toolchain)

abbrev pub line_feed : List ℕ
line_feed = 10 ∷ []

-- what is told of a workspace with this name and toolchain
abbrev pub msrv_text : List ℕ → List ℕ → List ℕ
msrv_text name toolchain =
    codes "Workspace `" ++ name ++ codes "` is using an outdated toolchain version `" ++ toolchain
    ++ codes "` but rust-analyzer only supports `1.78.0` and higher." ++ line_feed
    ++ codes "Consider using the rust-analyzer rustup component for your toolchain or" ++ line_feed
    ++ codes "upgrade your toolchain to a supported version." ++ line_feed ++ line_feed

abbrev pub text_of_toolchain : List ℕ → Option (List ℕ) → Option (List ℕ)
text_of_toolchain name None = None
text_of_toolchain name (Some toolchain) = if is_outdated toolchain then Some (msrv_text name toolchain) else None

abbrev pub text_of_workspace : ProjectWorkspace → Option (List ℕ)
text_of_workspace workspace = text_of_toolchain (manifest_or_root workspace) workspace.toolchain

-- a text for each workspace whose toolchain is outdated, in order
abbrev pub msrv_texts : List ProjectWorkspace → List (List ℕ)
msrv_texts workspaces = filter_map text_of_workspace workspaces
