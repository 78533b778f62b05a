-- What the turns of a session order of the host beside jobs: settings of the loader, files to be read anew, revisions.
use Rattle.std.specs.Prelude.{◌<◌, ℕ, ◌==◌, List, [], ◌∷◌, bytes_eq, Option, None, Some, if◌then◌else◌}
use Rattle.std.specs.List.{filter_map, flat_map, list_any}
use Rattle.client.specs.Folds.{paths_named}
use Rattle.lsp_frame.specs.declared.message.Message.TheVariants.{Notification as NotificationMessage}
use Rattle.notify.specs.declared.notice.Notice.{Notice}
use Rattle.notify.specs.declared.notice.Notice.TheVariants.{DidChangeWatchedFiles, DidClose}
use Rattle.session_port.specs.Events.{revision_of}
use Rattle.session_port.specs.declared.command.Command.{Command}
use Rattle.session_port.specs.declared.command.Command.TheVariants.{Invalidate, SetLoader}
use Rattle.session_model.specs.Hearing.{heard_of, told_by}
use Rattle.session_model.specs.Run.{Turn}
use Rattle.session_model.specs.declared.input.Event.TheVariants.{Lsp}
use Rattle.session_model.specs.declared.input.Input.{Input}
use Rattle.session_model.specs.declared.input.Input.TheVariants.{Next}

-- ---- settings of the loader

-- the version of the settings that the loader is given
abbrev pub loader_version : Command → Option ℕ
loader_version (SetLoader load watch version) = Some version
loader_version other = None

-- the versions that turns give it, in order
abbrev pub loader_versions : List Turn → List ℕ
loader_versions turns = flat_map (λ (turn : Turn). filter_map loader_version turn.commands) turns

-- ---- files that are to be read anew

-- the file that is to be read anew
abbrev pub file_to_read : Command → Option (List ℕ)
file_to_read (Invalidate path) = Some path
file_to_read other = None

-- each URL where it stands for the first time, behind some that were seen
abbrev pub each_once : List (List ℕ) → List (List ℕ) → List (List ℕ)
each_once seen [] = []
each_once seen (url ∷ urls) = if list_any (bytes_eq url) seen then each_once seen urls else url
    ∷ each_once (url ∷ seen) urls

-- the files that a notice says have changed on the disk: those that the client watches, or that of a document which is
-- closed
abbrev pub urls_told : Option Notice → List (List ℕ)
urls_told (Some (DidChangeWatchedFiles urls)) = each_once [] urls
urls_told (Some (DidClose uri)) = uri ∷ []
urls_told other = []

-- their paths, of the URLs that name one
abbrev pub files_told : Input → List (List ℕ)
files_told (Next (Lsp (NotificationMessage n))) = paths_named (urls_told (told_by (heard_of n)))
files_told other = []

-- ---- revisions

-- the revisions that turns tell, in order
abbrev pub revisions_told : List Turn → List ℕ
revisions_told turns = flat_map (λ (turn : Turn). filter_map revision_of turn.commands) turns

-- each is above the one before it
abbrev pub AreAbove : ℕ → List ℕ → Type 0
AreAbove low [] = Unit {0}
AreAbove low (n ∷ ns) = (low < n) × AreAbove n ns

-- the revision that a turn comes to is told, where it is another
abbrev pub told_if_other : ℕ → ℕ → List ℕ
told_if_other old new = if new == old then [] else new ∷ []
