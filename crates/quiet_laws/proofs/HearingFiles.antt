-- What the files of a session, and what follows from changed ones, do to what is heard.
use Rattle.std.proofs.Common.{◌≡◌, ℕ, ℤ, List, [], ◌∷◌, refl, sym, ap, ◌∙◌, subst, inl, append-nil}
use Rattle.std.specs.Prelude.{Option, None, Some, Result, Ok, Err, IfOk}
use Rattle.std.specs.FinMap as map
use Rattle.std.proofs.lemmas.List.Elements.{filter_map-append}
use Rattle.docs_vfs.specs.Files.{Files, mark_in, set_in}
use Rattle.docs_vfs.specs.declared.file_kinds.ChangedFile.{ChangedFile}
use Rattle.docs_vfs.specs.declared.file_kinds.FileId.{FileId}
use Rattle.docs_vfs.specs.declared.file_kinds.TableFault.{TableFault}
use Rattle.docs_vfs.specs.declared.file_url.UrlFault.{UrlFault}
use Rattle.docs_vfs.specs.declared.source_roots.Root.{Root}
use Rattle.text_core.specs.declared.change.ContentChange.{ContentChange}
use Rattle.text_core.specs.declared.position.PositionEncoding.{PositionEncoding}
use Rattle.analysis_host.specs.HostData.{HostData, changed}
use Rattle.analysis_host.specs.declared.host.WorldFault.{WorldFault}
use Rattle.project_model.specs.declared.crates.CrateData.{CrateData}
use Rattle.session_port.specs.declared.command.Command.TheVariants.{Defer, Invalidate}
use Rattle.session_port.specs.declared.command.DeferredTask.TheVariants.{CheckProcMacroSources}
use Rattle.session_port.specs.declared.command.LogCode.TheVariants.{SecondSettingsFile, UnexpectedChange}
use Rattle.session_port.specs.declared.event.LoadedFile.{LoadedFile}
use Rattle.session_port.specs.declared.event.LoaderMsg.{LoaderMsg}
use Rattle.session_port.specs.declared.event.LoaderMsg.TheVariants.{Changed, Loaded, Progress}
use Rattle.session_port.specs.declared.fault.Counter.{Counter}
use Rattle.session_port.specs.TurnState.{TurnState, and_then, logged, ordered}
use Rattle.notify.specs.declared.notice.DidChange.{DidChange}
use Rattle.notify.specs.declared.notice.DidOpen.{DidOpen}
use Rattle.change_effects.specs.declared.effects.ChangeEffects.{ChangeEffects}
use Rattle.desk_laws.proofs.Results.{IfOk-and_then, IfOk-if, IfOk-weaker, IfOk-within}
use Rattle.session_files.specs.Changing.{text_after}
use Rattle.session_files.specs.Folds.{after_changed, after_crates, after_each_changed, after_each_loaded, after_editing, after_loaded}
use Rattle.session_files.specs.Folds.{after_loader_message, after_messages, after_opening, after_processing, changed_files, contents_put, crates_with}
use Rattle.session_files.specs.Folds.{made_of, mark_put, table_put, taken_up, text_edited, text_put, version_put, with_changes, world_change, world_put}
use Rattle.session_files.specs.Folds.{is_open}
use Rattle.session_files.specs.SessionFiles.{SessionFiles}
use Rattle.session_files.specs.Steps.{become, changed_document, close_noted, closed_document, crates_put, edited_document, loaded, open_noted, opened_document}
use Rattle.session_files.specs.Steps.{processed}
use Rattle.workspaces.specs.Workspaces.{Workspaces}
use Rattle.session_model.specs.Diagnosing.{deleted_cleared, lists_cleared}
use Rattle.session_model.specs.Machine.{at_board, at_files, document_changed_at, document_closed_at, document_opened_at, effects_done, fetch_waits, files_done}
use Rattle.session_model.specs.Machine.{files_followed, files_in, files_processed, further_logged, settings_filed, sources_deferred, with_client, with_files}
use Rattle.session_model.specs.Machine.{with_sources}
use Rattle.session_model.specs.Sources.{change_for, client_with, further_files, parents_told}
use Rattle.session_model.specs.State.{State, columns_in, excludes_in}
use Rattle.session_model.specs.Timing.{effects_for, fetch_planned}
use Rattle.session_laws.proofs.Passing.{Passes, Stays, changed-passes, close-noted-passes, crates-pass, loaded-passes, opened-passes, processed-passes}
use Rattle.quiet_laws.specs.Heard.{progress_after_message, progress_after_messages, timer_of}
use Rattle.quiet_laws.proofs.HearingSteps.{Goes, Happens, goes-logged, goes-none, goes-on, goes-ordered, goes-work, happens-on, takes-goes}
use Rattle.quiet_laws.proofs.HearingWork.{Asks, asks-same, planned-asks}
use Rattle.quiet_laws.proofs.Parts.{passes-timers, timers_in}
use Rattle.quiet_laws.proofs.Resting.{HoldsNone}

pub IfOk-both : {X E : Type 0} (r : Result X E) (P Q : X → Type 0) → IfOk r P → IfOk r Q → IfOk r (λ x. P x × Q x)
IfOk-both (Ok x) P Q p q = (p, q)
IfOk-both (Err e) P Q p q = tt

-- ---- the version that the loader's last progress spoke of

abbrev Speaks : ℕ → SessionFiles → Type 0
Speaks version files = files.progress_version ≡ version

put-speaks : (path : List ℕ) (r : Result Files TableFault) (files : SessionFiles) → IfOk (table_put path r files) (Speaks files.progress_version)
put-speaks path (Ok table) files = refl
put-speaks path (Err fault) files = tt

contents-speak : (path : List ℕ) (contents : Option (List ℕ)) (files : SessionFiles) → IfOk (contents_put path contents files) (Speaks files.progress_version)
unfolding contents_put
contents-speak path contents files = put-speaks path (made_of (set_in files.table path contents)) files

mark-speaks : (path : List ℕ) (files : SessionFiles) → IfOk (mark_put path files) (Speaks files.progress_version)
unfolding mark_put
mark-speaks path files = put-speaks path (mark_in files.table path) files

opening-speaks : (excludes : List (List ℕ)) (path : List ℕ) (version : ℤ) (text : List ℕ) (files : SessionFiles)
    → IfOk (after_opening excludes path version text files) (Speaks files.progress_version)
unfolding after_opening
opening-speaks excludes path version text files =
    let opened : SessionFiles = text_put path text (version_put path version files) in
    IfOk-if _ (mark_put path opened) (contents_put path (Some text) opened) (Speaks files.progress_version) (mark-speaks path opened)
    (contents-speak path (Some text) opened)

edited-speaks : (path text : List ℕ) (files : SessionFiles) → IfOk (text_edited path text files) (Speaks files.progress_version)
unfolding text_edited
edited-speaks path text files = IfOk-if _ (Ok files) (contents_put path (Some text) (text_put path text files)) (Speaks files.progress_version) refl
    (contents-speak path (Some text) (text_put path text files))

editing-speaks : (columns : PositionEncoding) (path : List ℕ) (version : ℤ) (changes : List ContentChange) (files : SessionFiles)
    → IfOk (after_editing columns path version changes files) (Speaks files.progress_version)
unfolding after_editing
editing-speaks columns path version changes files = edited-speaks path (text_after columns changes (map.get files.texts path)) (version_put path version files)

changed-speaks : (file : LoadedFile) (files : SessionFiles) → IfOk (after_changed file files) (Speaks files.progress_version)
unfolding after_changed
changed-speaks file files = IfOk-if _ (Ok files) (contents_put file.path file.contents files) (Speaks files.progress_version) refl
    (contents-speak file.path file.contents files)

loaded-speaks : (file : LoadedFile) (files : SessionFiles) → IfOk (after_loaded file files) (Speaks files.progress_version)
unfolding after_loaded
loaded-speaks file files = IfOk-if _ (Ok files) (contents_put file.path file.contents files) (Speaks files.progress_version) refl
    (contents-speak file.path file.contents files)

then-speaks : (r : Result SessionFiles Counter) (next : SessionFiles → Result SessionFiles Counter) (version : ℕ) → IfOk r (Speaks version)
    → ((mid : SessionFiles) → IfOk (next mid) (Speaks mid.progress_version)) → IfOk (and_then r next) (Speaks version)
then-speaks r next version first rest =
    IfOk-and_then r next (Speaks version) (Speaks version) first
    (λ mid is. IfOk-weaker (next mid) (Speaks mid.progress_version) (Speaks version) (rest mid) (λ now same. same ∙ is))

each-changed-speak : (list : List LoadedFile) (files : SessionFiles) → IfOk (after_each_changed list files) (Speaks files.progress_version)
unfolding after_each_changed
each-changed-speak [] files = refl
each-changed-speak (file ∷ later) files =
    then-speaks (after_changed file files) (after_each_changed later) files.progress_version (changed-speaks file files) (each-changed-speak later)

each-loaded-speak : (list : List LoadedFile) (files : SessionFiles) → IfOk (after_each_loaded list files) (Speaks files.progress_version)
unfolding after_each_loaded
each-loaded-speak [] files = refl
each-loaded-speak (file ∷ later) files =
    then-speaks (after_loaded file files) (after_each_loaded later) files.progress_version (loaded-speaks file files) (each-loaded-speak later)

message-speaks : (message : LoaderMsg) (files : SessionFiles)
    → IfOk (after_loader_message message files) (Speaks (progress_after_message message files.progress_version))
unfolding after_loader_message
message-speaks (Changed list) files = each-changed-speak list files
message-speaks (Loaded list) files = each-loaded-speak list files
message-speaks (Progress total done dir version) files = refl

messages-speak : (messages : List LoaderMsg) (files : SessionFiles)
    → IfOk (after_messages messages files) (Speaks (progress_after_messages messages files.progress_version))
unfolding after_messages
messages-speak [] files = refl
messages-speak (message ∷ later) files =
    IfOk-and_then (after_loader_message message files) (after_messages later) (Speaks (progress_after_message message files.progress_version))
    (Speaks (progress_after_messages (message ∷ later) files.progress_version)) (message-speaks message files)
    (λ mid is. IfOk-weaker (after_messages later mid) (Speaks (progress_after_messages later mid.progress_version))
    (Speaks (progress_after_messages (message ∷ later) files.progress_version)) (messages-speak later mid)
    (λ now same. same ∙ ap (progress_after_messages later) is))

world-speaks : (r : Result HostData WorldFault) (files : SessionFiles) → IfOk (world_put r files) (Speaks files.progress_version)
world-speaks (Ok host) files = refl
world-speaks (Err fault) files = tt

changes-speak : (roots : List Root) (changes : List ChangedFile) (files : SessionFiles)
    → IfOk (with_changes roots changes files) (Speaks files.progress_version)
changes-speak roots [] files = refl
changes-speak roots (file ∷ later) files = world-speaks (changed (world_change roots (file ∷ later)) files.host) files

-- ---- at the session

become-speaks : (version : ℕ) (r : Result SessionFiles Counter) (u : TurnState SessionFiles) → IfOk r (Speaks version)
    → IfOk (become r u) (λ v. v.state.progress_version ≡ version)
become-speaks version (Ok files) u speaks = speaks
become-speaks version (Err counter) u speaks = tt

-- a step of the files, that speaks of this version
pub record Hears (version : ℕ) (w v : TurnState State) : Type 0 where
  pub progress : v.state.files.progress_version ≡ version
  pub turns : v.state.desk.turns ≡ w.state.desk.turns
  pub timers : timers_in v ≡ timers_in w
  pub workspaces : v.state.workspaces ≡ w.state.workspaces

files-hear : (version : ℕ) (work : TurnState SessionFiles → Result (TurnState SessionFiles) Counter) (w : TurnState State)
    → (let files : TurnState SessionFiles = record { state = w.state.files; out = w.out } in
    IfOk (work files) (λ v. v.state.progress_version ≡ version) → IfOk (work files) (λ v. Passes w.out v.out) → IfOk (at_files work w) (Hears version w))
files-hear version work w speaks passes =
    let files : TurnState SessionFiles = record { state = w.state.files; out = w.out } in
    IfOk-within files_in with_files work w (Hears version w)
    (IfOk-weaker (work files) _ _ (IfOk-both (work files) (λ v. v.state.progress_version ≡ version) (λ v. Passes w.out v.out) speaks passes)
    (λ v p. record { progress = p.0; turns = refl; timers = p.1 _ passes-timers; workspaces = refl }))

pub hears-happens : (w v : TurnState State) → Hears w.state.files.progress_version w v → Happens w v
hears-happens w v hears = let goes = asks-same w.state.desk.turns w.state.workspaces v.state.workspaces hears.workspaces in record {
  progress = hears.progress;
  turns = hears.turns;
  timers = hears.timers;
  timer = goes.timer;
  versions = goes.versions;
  holds = λ holds. subst HoldsNone (sym hears.workspaces) holds;
}

stays-pass : (r : Result (TurnState SessionFiles) Counter) (w : TurnState SessionFiles) → IfOk r (Stays w) → IfOk r (λ v. Passes w.out v.out)
stays-pass r w stays = IfOk-weaker r (Stays w) (λ v. Passes w.out v.out) stays (λ v p. p.0)

opened-hears : (path : List ℕ) (document : DidOpen) (w : TurnState State)
    → IfOk (at_files (opened_document (excludes_in w.state.client.settings) path document.version document.text) w) (Hears w.state.files.progress_version w)
unfolding opened_document
opened-hears path document w =
    let files : TurnState SessionFiles = record { state = w.state.files; out = w.out } in
    let excludes : List (List ℕ) = excludes_in w.state.client.settings in
    files-hear w.state.files.progress_version (opened_document excludes path document.version document.text) w
    (become-speaks w.state.files.progress_version (after_opening excludes path document.version document.text w.state.files) (open_noted path files)
    (opening-speaks excludes path document.version document.text w.state.files))
    (stays-pass _ files (opened-passes excludes path document.version document.text files))

logged-state : (path : List ℕ) (w : TurnState SessionFiles) → (logged UnexpectedChange path w).state.progress_version ≡ w.state.progress_version
unfolding logged ordered
logged-state path w = refl

changed-hears : (path : List ℕ) (change : DidChange) (w : TurnState State)
    → IfOk (at_files (changed_document (columns_in w.state.client.settings) path change.version change.changes) w) (Hears w.state.files.progress_version w)
unfolding changed_document edited_document
changed-hears path change w =
    let files : TurnState SessionFiles = record { state = w.state.files; out = w.out } in
    let columns : PositionEncoding = columns_in w.state.client.settings in
    files-hear w.state.files.progress_version (changed_document columns path change.version change.changes) w
    (IfOk-if (is_open path w.state.files) (edited_document columns path change.version change.changes files) (Ok (logged UnexpectedChange path files)) _
    (become-speaks w.state.files.progress_version (after_editing columns path change.version change.changes w.state.files) _
    (editing-speaks columns path change.version change.changes w.state.files)) (logged-state path files))
    (stays-pass _ files (changed-passes columns path change.version change.changes files))

pub loader-hears : (messages : List LoaderMsg) (w : TurnState State)
    → IfOk (at_files (loaded messages) w) (Hears (progress_after_messages messages w.state.files.progress_version) w)
unfolding loaded
loader-hears messages w =
    let files : TurnState SessionFiles = record { state = w.state.files; out = w.out } in
    let version : ℕ = progress_after_messages messages w.state.files.progress_version in
    files-hear version (loaded messages) w (become-speaks version (after_messages messages w.state.files) files (messages-speak messages w.state.files))
    (stays-pass _ files (loaded-passes messages files))

processed-hears : (roots : List Root) (w : TurnState State) → IfOk (at_files (processed roots) w) (Hears w.state.files.progress_version w)
unfolding processed after_processing
processed-hears roots w =
    let files : TurnState SessionFiles = record { state = w.state.files; out = w.out } in
    files-hear w.state.files.progress_version (processed roots) w
    (become-speaks w.state.files.progress_version (after_processing roots w.state.files) files
    (changes-speak roots (changed_files w.state.files) (taken_up w.state.files)))
    (processed-passes roots files)

pub crates-hear : (roots : List Root) (crates : CrateData) (w : TurnState State)
    → IfOk (at_files (crates_put roots crates) w) (Hears w.state.files.progress_version w)
unfolding crates_put after_crates
crates-hear roots crates w =
    let files : TurnState SessionFiles = record { state = w.state.files; out = w.out } in
    files-hear w.state.files.progress_version (crates_put roots crates) w
    (become-speaks w.state.files.progress_version (after_crates roots crates w.state.files) files
    (world-speaks (changed (crates_with roots crates) w.state.files.host) w.state.files))
    (crates-pass roots crates files)

-- ---- documents

pub opened-happens : (o : Result (List ℕ) UrlFault) (document : DidOpen) (w : TurnState State) → IfOk (document_opened_at o document w) (Happens w)
unfolding document_opened_at
opened-happens (Err fault) document w = (takes-goes w _ (goes-logged _ document.uri w)).happens
opened-happens (Ok path) document w = IfOk-weaker _ (Hears w.state.files.progress_version w) (Happens w) (opened-hears path document w) (hears-happens w)

pub changed-happens : (o : Result (List ℕ) UrlFault) (change : DidChange) (w : TurnState State) → IfOk (document_changed_at o change w) (Happens w)
unfolding document_changed_at
changed-happens (Err fault) change w = (takes-goes w _ (goes-logged _ change.uri w)).happens
changed-happens (Ok path) change w = IfOk-weaker _ (Hears w.state.files.progress_version w) (Happens w) (changed-hears path change w) (hears-happens w)

pub closed-happens : (o : Result (List ℕ) UrlFault) (uri : List ℕ) (w : TurnState State) → IfOk (document_closed_at o uri w) (Happens w)
unfolding document_closed_at closed_document ordered
closed-happens (Err fault) uri w = (takes-goes w _ (goes-logged _ uri w)).happens
closed-happens (Ok path) uri w =
    let files : TurnState SessionFiles = record { state = w.state.files; out = w.out } in
    let cleared : TurnState State = at_board (lists_cleared (map.get w.state.files.ids path)) w in
    IfOk-within files_in with_files (λ f. Ok (closed_document path f)) cleared (Happens w) (record {
      progress = refl;
      turns = refl;
      timers = filter_map-append timer_of (close_noted path files).out.commands (Invalidate path ∷ []) ∙ append-nil _
          ∙ close-noted-passes path files _ passes-timers;
      timer = inl refl;
      versions = refl;
      holds = λ holds. holds;
    })

-- ---- files that are processed

further-goes : (paths : List (List ℕ)) (w : TurnState State) → Goes w (further_logged paths w)
unfolding further_logged
further-goes [] w = goes-none w
further-goes (path ∷ paths) w = let v : TurnState State =
    logged SecondSettingsFile path w in goes-on w v _ (goes-logged SecondSettingsFile path w) (further-goes paths v)

deferred-goes : (sources : Option (List FileId)) (w : TurnState State) → Goes w (sources_deferred sources w)
unfolding sources_deferred
deferred-goes None w = goes-none w
deferred-goes (Some files) w = goes-ordered (Defer (CheckProcMacroSources files)) w refl

-- what changed files ask for
pub record Follows (w v : TurnState State) : Type 0 where
  pub happens : Happens w v
  pub work : Asks w.state.desk.turns w.state.workspaces v.state.workspaces

follows-goes : (w v : TurnState State) → Goes w v → Follows w v
follows-goes w v goes = record { happens = (takes-goes w v goes).happens; work = goes.work }

files-follow : (changes : List ChangedFile) (w : TurnState State) → Follows w (files_followed changes w)
unfolding files_followed effects_done fetch_waits settings_filed
files-follow [] w = follows-goes w w (goes-none w)
files-follow (change ∷ changes) w =
    let effects : ChangeEffects = effects_for w.state.client.settings (change ∷ changes) w.state.workspaces in
    let settings = change_for effects.settings w.state.files.host.world.roots w.state.sources w.state.workspaces.present in
    let cleared : TurnState State = at_board (deleted_cleared (change ∷ changes)) w in
    let put : TurnState State =
    record cleared { state = with_sources (parents_told w.state.sources) (with_client (client_with settings w.state.client) cleared.state) } in
    let filed : TurnState State = further_logged (further_files settings) put in
    let deferred : TurnState State = sources_deferred effects.macro_sources filed in
    let first : Happens w put = record { progress = refl; turns = refl; timers = refl; timer = inl refl; versions = refl; holds = λ holds. holds } in
    let rest : Goes put (fetch_waits effects.fetch deferred) =
    goes-on put filed _ (further-goes (further_files settings) put)
    (goes-on filed deferred _ (deferred-goes effects.macro_sources filed)
    (goes-work deferred (fetch_planned deferred.state.desk.turns effects.fetch deferred.state.workspaces)
    (planned-asks deferred.state.desk.turns effects.fetch deferred.state.workspaces))) in
    record { happens = happens-on w put _ first (takes-goes put _ rest).happens; work = rest.work }

pub processed-follows : (w : TurnState State) → IfOk (files_processed w) (Follows w)
unfolding files_processed
processed-follows w =
    IfOk-and_then (at_files (processed w.state.sources.roots) w) (λ v. Ok (files_followed (changed_files w.state.files) v))
    (Hears w.state.files.progress_version w) (Follows w) (processed-hears w.state.sources.roots w)
    (λ v hears. follows-on w v _ hears (files-follow (changed_files w.state.files) v))
  where
    follows-on : (w v u : TurnState State) → Hears w.state.files.progress_version w v → Follows v u → Follows w u
    follows-on w v u hears follows = record {
      happens = happens-on w v u (hears-happens w v hears) follows.happens;
      work = subst (λ (ws : Workspaces). Asks w.state.desk.turns ws u.state.workspaces) hears.workspaces
          (subst (λ n. Asks n v.state.workspaces u.state.workspaces) hears.turns follows.work);
    }

pub processed-happens : (w : TurnState State) → IfOk (files_processed w) (Happens w)
processed-happens w = IfOk-weaker (files_processed w) (Follows w) (Happens w) (processed-follows w) (λ v follows. follows.happens)

pub done-follows : (w : TurnState State) → IfOk (files_done w) (Follows w)
unfolding files_done
done-follows w = IfOk-if w.state.files.loading (Ok w) (files_processed w) (Follows w) (follows-goes w w (goes-none w)) (processed-follows w)
