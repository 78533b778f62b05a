-- Lists of URLs (LSP 3.17, WorkspaceFoldersChangeEvent and DidChangeWatchedFilesParams).
use Rattle.std.specs.Prelude.{ℕ, List, [], ◌∷◌, codes, Option, Some, option_map, option_and_then}
use Rattle.serde_json.specs.Data.{Data, Members, Items, no_items, item}
use Rattle.serde_json.specs.Find.{get_member, as_array, as_object}
use Rattle.lsp_types.specs.Documents.{take_uri}
use Rattle.notify.specs.declared.notice.Notice.{Notice}
use Rattle.notify.specs.declared.notice.Notice.TheVariants.{DidChangeWorkspaceFolders}

-- the URLs of items, where each has one
abbrev pub uris_in : Items → Option (List (List ℕ))
uris_in no_items = Some []
uris_in (item d ds) = option_and_then (λ uri. option_map (λ uris. uri ∷ uris) (uris_in ds)) (take_uri d)

abbrev pub uris_of : Data → Option (List (List ℕ))
uris_of list = option_and_then uris_in (as_array list)

abbrev pub event_of : Data → Option Members
event_of params = option_and_then as_object (option_and_then (get_member (codes "event")) (as_object params))

abbrev pub event_folders : Members → Option Notice
event_folders event =
    option_and_then (λ added. option_map (λ removed. DidChangeWorkspaceFolders added removed)
    (option_and_then uris_of (get_member (codes "removed") event)))
    (option_and_then uris_of (get_member (codes "added") event))

-- the folders that were added and removed, or none where the params are malformed
abbrev pub folders_in : Data → Option Notice
folders_in params = option_and_then event_folders (event_of params)

-- the files that changed, or none where the params are malformed
abbrev pub watched_in : Data → Option (List (List ℕ))
watched_in params = option_and_then uris_of (option_and_then (get_member (codes "changes")) (as_object params))
