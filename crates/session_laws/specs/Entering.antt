-- What enters the world of a session, one change after another, and what the settings are by then.
use Rattle.std.specs.Prelude.{◌≡◌, ◌⊎◌, ◌+◌, ◌||◌, Bool, true, false, List, [], ◌∷◌, ◌++◌, length, map, Option, None}
use Rattle.std.specs.Prelude.{Some, is_some, unwrap_or, if◌then◌else◌}
use Rattle.std.specs.List.{list_any}
use Rattle.std.specs.FinMap as finmap
use Rattle.analysis_host.specs.HostData.{HostData, with_files}
use Rattle.analysis_host.specs.declared.text_entry.TextEntry.{TextEntry}
use Rattle.change_effects.specs.Changes.{is_settings_file}
use Rattle.docs_vfs.specs.Paths.{path_cmp}
use Rattle.docs_vfs.specs.declared.file_kinds.ChangeKind.{ChangeKind}
use Rattle.docs_vfs.specs.declared.file_kinds.ChangeKind.TheVariants.{Create, Modify, Delete}
use Rattle.docs_vfs.specs.declared.file_kinds.ChangedFile.{ChangedFile}
use Rattle.docs_vfs.specs.declared.source_roots.Root.{Root}
use Rattle.notify.specs.declared.notice.Notice.{Notice}
use Rattle.notify.specs.declared.notice.Notice.TheVariants.{DidChangeWorkspaceFolders}
use Rattle.lsp_frame.specs.declared.message.Message.TheVariants.{Request as RequestMessage}
use Rattle.lsp_frame.specs.declared.message.Message.TheVariants.{Notification as NotificationMessage}
use Rattle.lsp_frame.specs.declared.message.Message.TheVariants.{Response as ResponseMessage}
use Rattle.project_model.specs.declared.crates.CrateData.{CrateData}
use Rattle.session_files.specs.Texts.{file_change}
use Rattle.session_model.specs.Hearing.{heard_of, told_by}
use Rattle.analysis_host.specs.SnapshotData.{SnapshotData}
use Rattle.docs_vfs.specs.Roots.{is_local_at, root_of}
use Rattle.layered_settings.specs.declared.change.ConfigChange.{ConfigChange}
use Rattle.layered_settings.specs.declared.change.SettingsFile.{SettingsFile as RootFile}
use Rattle.session_files.specs.Current.{IsCurrent, IsSound, IsUntouched}
use Rattle.session_files.specs.Folds.{has_changed}
use Rattle.session_port.specs.Jobs.{final_of, fitting_job}
use Rattle.session_port.specs.declared.event.TaskMsg.{TaskMsg}
use Rattle.session_port.specs.declared.job.Job.{Job}
use Rattle.session_model.specs.Machine.{Turning}
use Rattle.session_model.specs.Sources.{client_with}
use Rattle.session_model.specs.State.{State}
use Rattle.session_model.specs.Status.{is_quiescent}
use Rattle.session_laws.specs.Invariant.{is_load}
use Rattle.session_model.specs.declared.input.Event.TheVariants.{Lsp, Task, Vfs, Deferred, News, Timer}
use Rattle.session_model.specs.declared.input.Input.{Input}
use Rattle.session_model.specs.declared.input.Input.TheVariants.{Start, Next}

-- ---- what enters

-- what enters by one change: crate data, or files that have changed; and the roots that are present then
pub record Entry : Type 0 where
  pub present : List Root
  pub crates : Option CrateData
  pub files : List ChangedFile

-- crate data alone, or files alone, and at least one
abbrev pub IsEntry : Entry → Type 0
IsEntry entry = ((is_some entry.crates ≡ true) × (entry.files ≡ []))
    ⊎ ((entry.crates ≡ None) × (length entry.files ≡ 0 → ⊥))

abbrev pub AreEntries : List Entry → Type 0
AreEntries [] = Unit {0}
AreEntries (entry ∷ entries) = IsEntry entry × AreEntries entries

-- a file has come or gone
abbrev pub comes_or_goes : ChangeKind → Bool
comes_or_goes Create = true
comes_or_goes Modify = false
comes_or_goes Delete = true

-- crate data, or a file that has come or gone
abbrev pub brings_roots : Entry → Bool
brings_roots entry = is_some entry.crates || list_any (λ (file : ChangedFile). comes_or_goes file.kind) entry.files

-- the roots that were present when the last of those entered, else the ones before
abbrev pub roots_after : List Entry → List Root → List Root
roots_after [] roots = roots
roots_after (entry ∷ entries) roots = roots_after entries (if brings_roots entry then entry.present else roots)

-- the crate data that entered last, else the one before
abbrev pub crates_after : List Entry → CrateData → CrateData
crates_after [] crates = crates
crates_after (entry ∷ entries) crates = crates_after entries (unwrap_or entry.crates crates)

-- the texts with those of the files
abbrev pub texts_after : List Entry → finmap.FinMap path_cmp TextEntry → finmap.FinMap path_cmp TextEntry
texts_after [] texts = texts
texts_after (entry ∷ entries) texts = texts_after entries (with_files (map file_change entry.files) texts)

-- these enter, one after another, each by one revision
pub record Enters (entries : List Entry) (old new : HostData) : Type 0 where
  pub each : AreEntries entries
  pub texts : new.world.texts ≡ texts_after entries old.world.texts
  pub roots : new.world.roots ≡ roots_after entries old.world.roots
  pub crates : new.world.crates ≡ crates_after entries old.world.crates
  pub revision : new.revision ≡ old.revision + length entries

-- these roots are present when each of them enters
abbrev pub ArePresent : List Root → List Entry → Type 0
ArePresent roots [] = Unit {0}
ArePresent roots (entry ∷ entries) = (entry.present ≡ roots) × ArePresent roots entries

-- ---- settings

-- a settings file is among the files that enter
abbrev pub holds_settings : Entry → Bool
holds_settings entry = list_any (λ (file : ChangedFile). is_settings_file file.path) entry.files

abbrev pub hold_settings : List Entry → Bool
hold_settings entries = list_any holds_settings entries

-- folders come or go
abbrev pub tells_folders : Option Notice → Bool
tells_folders None = false
tells_folders (Some (DidChangeWorkspaceFolders added removed)) = true
tells_folders (Some other) = false

-- the client answers, or its folders come or go
abbrev pub tells_settings : Input → Bool
tells_settings Start = false
tells_settings (Next (Lsp (RequestMessage r))) = false
tells_settings (Next (Lsp (NotificationMessage n))) = tells_folders (told_by (heard_of n))
tells_settings (Next (Lsp (ResponseMessage r))) = true
tells_settings (Next (Task batch)) = false
tells_settings (Next (Vfs messages)) = false
tells_settings (Next (Deferred tasks)) = false
tells_settings (Next (News news)) = false
tells_settings (Next (Timer ticket)) = false

-- the settings stay, and so do the errors that are told of them
pub record KeepsSettings (old new : State) : Type 0 where
  pub settings : new.client.settings ≡ old.client.settings
  pub errors : new.client.errors ≡ old.client.errors

-- ---- a turn

-- what a turn lets into the world: in its event, where the roots are present that are so before it, and behind the
-- event, where those are that a switch may
-- have made
pub record LetsIn (old new : State) : Type 0 where
  pub in_event : List Entry
  pub behind : List Entry
  pub enters : Enters (in_event ++ behind) old.files.host new.files.host
  pub before : ArePresent old.sources.roots in_event
  pub after : ArePresent new.sources.roots behind

-- ---- macros that come

-- the load of macros that this message ends is in progress, and crate data waits for it; a message may tell of a load
-- that goes on
pub record EndsWait (message : TaskMsg) (s : State) : Type 0 where
  pub job : Job
  pub fits : fitting_job message s.desk.jobs ≡ Some job
  pub loads : is_load job.kind ≡ true
  pub ends : is_some (final_of message.body) ≡ true
  pub in_progress : s.workspaces.loads.queue.in_progress ≡ true
  pub waits : is_some s.workspaces.loads.waiting ≡ true

-- crate data has entered with its macros, and behind it the files that had changed, loading or not: the roots are those
-- that are present, the texts those of
-- the present contents, and nothing of the files is left to be processed. It is one revision more, and one more where
-- files had changed
pub record BringsFiles (old new : State) : Type 0 where
  pub roots : new.files.host.world.roots ≡ old.sources.roots
  pub current : IsSound old.files → IsCurrent new.files
  pub taken : IsUntouched new.files
  pub revision : new.files.host.revision ≡ old.files.host.revision + 1 + (if has_changed old.files then 1 else 0)

-- what a message of a job does to the files: nothing, or this
abbrev pub MayBringFiles : State → State → Type 0
MayBringFiles old new = (new.files ≡ old.files) ⊎ BringsFiles old new

-- ---- local files

-- settings files are those of the local roots in which they are
abbrev pub AreOfRoots : List Root → List RootFile → Type 0
AreOfRoots roots [] = Unit {0}
AreOfRoots roots (file ∷ files) = ((file.root ≡ root_of roots file.path) × (is_local_at roots file.root ≡ true))
    × AreOfRoots roots files

abbrev pub IsOfRoots : List Root → Option ConfigChange → Type 0
IsOfRoots roots None = Unit {0}
IsOfRoots roots (Some change) = AreOfRoots roots change.workspace_toml × AreOfRoots roots change.crate_toml

-- the settings are another by a change whose files are those of the local roots of this snapshot
pub record FilesSettings (snapshot : SnapshotData) (old new : State) : Type 0 where
  pub change : Option ConfigChange
  pub client : new.client ≡ client_with change old.client
  pub roots : IsOfRoots snapshot.world.roots change

-- ---- what is shown

-- the session is quiescent, and wasn't before the event, or files that had changed were processed behind it
pub record IsShownAnew (t : Turning) : Type 0 where
  pub quiescent : is_quiescent t.state.files t.state.workspaces ≡ true
  pub since : (t.facts.quiescent ≡ false) ⊎ (t.facts.processed ≡ true)
