-- What holds between turns: of the jobs that are out for requests, and of what queries see of the files.
use Rattle.std.specs.Prelude.{◌≡◌, ◌≤◌, ℕ, ◌⊎◌, List, [], ◌∷◌, ◌++◌, Contains, true, false, Option, None, Some}
use Rattle.std.specs.FinMap as map
use Rattle.std.specs.Option.{option_map}
use Rattle.docs_vfs.specs.Files.{contents_of}
use Rattle.docs_vfs.specs.declared.file_kinds.FileExcluded.{FileExcluded}
use Rattle.docs_vfs.specs.declared.file_kinds.FileExcluded.TheVariants.{No, Yes}
use Rattle.docs_vfs.specs.declared.file_kinds.FileId.{FileId}
use Rattle.docs_vfs.specs.declared.file_kinds.RowState.{RowState}
use Rattle.docs_vfs.specs.declared.file_kinds.RowState.TheVariants.{Nothing, Contents, Excluded}
use Rattle.ra_config.specs.Config.{ConfigData}
use Rattle.analysis_host.specs.SnapshotData.{SnapshotData}
use Rattle.session_port.specs.Jobs.{Jobs}
use Rattle.session_port.specs.Kinds.{ticket_of_job}
use Rattle.session_port.specs.Record.{spawned}
use Rattle.session_port.specs.declared.event.TaskMsg.{TaskMsg}
use Rattle.session_port.specs.declared.job.Job.{Job}
use Rattle.desk.specs.Meaning.{Meaning}
use Rattle.session_files.specs.Current.{AreNumbers}
use Rattle.session_files.specs.Texts.{text_entry}
use Rattle.session_model.specs.Inputs.{batch_of}
use Rattle.session_model.specs.Places.{Place, next_turn, place_of_turns}
use Rattle.session_model.specs.Rows.{machine_within, snapshot_within}
use Rattle.session_model.specs.Run.{Turn}

-- ---- the jobs that are out for requests

-- a message of a batch comes behind these
pub record ComesBehind (earlier batch : List TaskMsg) : Type 0 where
  pub message : TaskMsg
  pub rest : List TaskMsg
  pub is : batch ≡ earlier ++ message ∷ rest

-- these are the messages of a turn's batch before one of them; where the turn takes in no batch, they are none
abbrev pub AreEarlier : List TaskMsg → List TaskMsg → Type 0
AreEarlier earlier batch = ((batch ≡ []) × (earlier ≡ [])) ⊎ ComesBehind earlier batch

-- the texts and the settings are those of this place; or files are loading, and all that has changed of them went into
-- the world, and the settings files among it into the settings, behind crate data that came with its macros
abbrev pub ShowsFiles : Place → SnapshotData → Type 0
ShowsFiles place snapshot =
    ((snapshot.world.texts ≡ place.rest.files.host.world.texts) × (snapshot.config ≡ place.rest.client.settings))
    ⊎ ((place.loading ≡ true) × ((path : List ℕ)
    → map.get snapshot.world.texts path ≡ text_entry (contents_of (place.documents.kept path))))

-- a snapshot shows the documents, the files, the settings and the workspaces of this place; its crate graph and its
-- revision may be later ones
pub record ShowsDocuments (place : Place) (snapshot : SnapshotData) : Type 0 where
  pub files : ShowsFiles place snapshot
  pub file_ids : snapshot.file_ids ≡ place.rest.files.ids
  pub versions : snapshot.versions ≡ place.documents.versions
  pub workspaces : snapshot.workspaces ≡ place.rest.workspaces.present
  pub workspaces_version : snapshot.workspaces_version ≡ place.rest.workspaces.version
  pub later : place.revision ≤ snapshot.revision

-- a job for the request with this ticket was handed over by an earlier turn, the one that read the request or a later
-- one, on what all inputs before that turn leave, and, within a batch, the messages of it before the one that hands the
-- job over. These may bring crate data, but change no documents: it shows those of all inputs before that turn
pub record WasHandedOver (meaning : Meaning) (settings : ConfigData) (turns : List Turn) (ticket : ℕ) (job : Job)
    : Type 0 where
  pub before : List Turn
  pub turn : Turn
  pub later : List Turn
  pub split : turns ≡ before ++ turn ∷ later
  pub not_before : ticket ≤ next_turn (place_of_turns meaning settings before)
  pub earlier : List TaskMsg
  pub within : AreEarlier earlier (batch_of turn.input)
  pub snapshot : let place = place_of_turns meaning settings before in
      job.snapshot ≡ snapshot_within place (machine_within meaning earlier place)
  pub documents : ShowsDocuments (place_of_turns meaning settings before) job.snapshot
  pub is_spawned : Contains (spawned turn.commands) job

abbrev pub AreHandedOver : Meaning → ConfigData → List Turn → Jobs → Type 0
AreHandedOver meaning settings turns jobs =
    (number : ℕ) (job : Job) (ticket : ℕ) → map.get jobs number ≡ Some job → ticket_of_job job.kind ≡ Some ticket
    → WasHandedOver meaning settings turns ticket job

-- ---- what queries see of the files

-- whether a path is marked, where it has contents or a mark
abbrev pub excluded_of : RowState → Option FileExcluded
excluded_of Nothing = None
excluded_of (Contents bytes) = Some No
excluded_of Excluded = Some Yes

-- the numbers of the files are the table's, those of the paths that have contents or a mark; and where no files are
-- loading, the world has, of each path, its contents, normalised, where they are a text
pub record SeesFiles (place : Place) : Type 0 where
  pub numbers : AreNumbers place.rest.files
  pub known : (path : List ℕ)
      → option_map (λ (number : FileId × FileExcluded). number.1) (map.get place.rest.files.ids path)
      ≡ excluded_of (place.documents.kept path)
  pub texts : place.loading ≡ false → (path : List ℕ)
      → map.get place.rest.files.host.world.texts path ≡ text_entry (contents_of (place.documents.kept path))
