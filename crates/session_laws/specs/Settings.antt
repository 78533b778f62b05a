-- What changes the settings of a session, and which parents of roots wait to go into them.
use Rattle.std.specs.Prelude.{◌≡◌, ◌⊎◌, ◌↔◌, ℕ, false, List, ◌++◌, Option, None, Some}
use Rattle.docs_vfs.specs.Roots.{parent_map}
use Rattle.docs_vfs.specs.declared.source_roots.Root.{Root}
use Rattle.layered_settings.specs.Change.{parents_of}
use Rattle.lsp_frame.specs.declared.message.Message.TheVariants.{Notification as NotificationMessage}
use Rattle.lsp_frame.specs.declared.message.Message.TheVariants.{Response as ResponseMessage}
use Rattle.notify.specs.declared.notice.Notice.{Notice}
use Rattle.notify.specs.declared.notice.Notice.TheVariants.{DidChangeWorkspaceFolders}
use Rattle.ra_config.specs.Config.{ConfigData}
use Rattle.client.specs.Client.{Client}
use Rattle.client.specs.Folds.{after_answer, after_folders}
use Rattle.session_model.specs.Hearing.{heard_of, told_by}
use Rattle.session_model.specs.State.{State}
use Rattle.session_model.specs.declared.input.Event.TheVariants.{Lsp}
use Rattle.session_model.specs.declared.input.Input.{Input}
use Rattle.session_model.specs.declared.input.Input.TheVariants.{Next}
use Rattle.session_laws.specs.Entering.{Enters, Entry, hold_settings}

-- the settings have just the parents of these roots
abbrev pub HasParentsOf : ConfigData → List Root → Type 0
HasParentsOf settings roots = settings.settings.parents ≡ parents_of (parent_map roots)

-- parents wait exactly where the settings have others than those of the roots that are present, and it is these that
-- wait
pub record ParentsWait (s : State) : Type 0 where
  pub waits : (s.sources.parents ≡ None) ↔ HasParentsOf s.client.settings s.sources.roots
  pub those : (pairs : List (ℕ × ℕ)) → s.sources.parents ≡ Some pairs → pairs ≡ parent_map s.sources.roots

-- the parents that the settings have stay, or become those of the roots that were present before, or of those that are
-- now
abbrev pub TakesParents : State → State → Type 0
TakesParents old new =
    (new.client.settings.settings.parents ≡ old.client.settings.settings.parents)
    ⊎ (HasParentsOf new.client.settings old.sources.roots ⊎ HasParentsOf new.client.settings new.sources.roots)

-- what is agreed with the client once its folders have changed
abbrev pub with_folders_told : Option Notice → Client → Client
with_folders_told (Some (DidChangeWorkspaceFolders added removed)) client = after_folders added removed client
with_folders_told other client = client

-- what is agreed with the client as an input tells it: by an answer of the client, or by its folders that come and go
abbrev pub as_told : Input → Client → Client
as_told (Next (Lsp (ResponseMessage r))) client = after_answer r client
as_told (Next (Lsp (NotificationMessage n))) client = with_folders_told (told_by (heard_of n)) client
as_told other client = client

-- the settings are these, and so are the errors that are told of them
pub record HasSettings (told : Client) (s : State) : Type 0 where
  pub settings : s.client.settings ≡ told.settings
  pub errors : s.client.errors ≡ told.errors

-- what a turn makes of the settings: they are as its input tells them, and so are the errors that are told of them,
-- unless a settings file is among the files that enter the world, or the roots that are present before the turn or
-- behind it have other parents than the settings
pub record ChangesAsTold (input : Input) (old new : State) : Type 0 where
  pub in_event : List Entry
  pub behind : List Entry
  pub enters : Enters (in_event ++ behind) old.files.host new.files.host
  pub told : hold_settings (in_event ++ behind) ≡ false → HasParentsOf old.client.settings old.sources.roots
      → HasParentsOf old.client.settings new.sources.roots → HasSettings (as_told input old.client) new
  pub parents : TakesParents old new
