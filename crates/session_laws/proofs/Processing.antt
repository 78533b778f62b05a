-- What files that are processed within the event of a turn do: nobody is answered, and nothing that snapshots show changes where no file has.
use Rattle.std.proofs.Common.{◌≡◌, ℕ, List, [], ◌∷◌, Bool, refl, sym, ap, ◌∙◌, subst}
use Rattle.std.specs.Prelude.{Option, None, Some, Ok, IfOk, if◌then◌else◌}
use Rattle.docs_vfs.specs.declared.file_kinds.ChangedFile.{ChangedFile}
use Rattle.docs_vfs.specs.declared.file_kinds.FileId.{FileId}
use Rattle.session_port.specs.declared.command.DeferredTask.TheVariants.{CheckProcMacroSources}
use Rattle.session_port.specs.declared.command.LogCode.TheVariants.{SecondSettingsFile}
use Rattle.session_port.specs.TurnState.{TurnState, logged, ordered}
use Rattle.change_effects.specs.declared.effects.ChangeEffects.{ChangeEffects}
use Rattle.desk.specs.Desk.{Desk}
use Rattle.desk.specs.Reactions.{silent}
use Rattle.desk_laws.specs.Settled.{Settled}
use Rattle.desk_laws.proofs.Results.{IfOk-and_then, IfOk-weaker, IfOk-within}
use Rattle.desk_laws.proofs.Settling.{defer-settles, log-settles, nothing-settles, settled-on}
use Rattle.session_files.specs.Current.{IsCurrent, IsSound, IsUntouched}
use Rattle.session_files.specs.Folds.{changed_files}
use Rattle.session_files.specs.SessionFiles.{SessionFiles}
use Rattle.session_files.specs.Steps.{processed}
use Rattle.session_files.proofs.SoundLemmas.{processing_does, taken_none}
use Rattle.workspaces.specs.Fetches.{is_served, waits_from}
use Rattle.workspaces.specs.Workspaces.{Workspaces}
use Rattle.workspaces.specs.declared.requests.FetchRequest.{FetchRequest}
use Rattle.session_model.specs.Diagnosing.{deleted_cleared}
use Rattle.session_model.specs.Machine.{at_board, at_files, effects_done, fetch_waits, files_followed, files_in, files_processed, further_logged, settings_filed}
use Rattle.session_model.specs.Machine.{sources_deferred, with_client, with_files, with_sources}
use Rattle.session_model.specs.Sources.{change_for, client_with, further_files, parents_told}
use Rattle.session_model.specs.State.{State}
use Rattle.session_model.specs.Timing.{effects_for, fetch_planned}
use Rattle.session_laws.specs.Beside.{Aside}
use Rattle.session_laws.proofs.Asides.{aside-on, aside-silent, aside-speaks}
use Rattle.session_laws.proofs.Crates.{KeepsFiles, kept-documents, processing-keeps}
use Rattle.session_laws.proofs.Filing.{Processes, processed-does}
use Rattle.session_laws.proofs.Following.{deferred-same, followed-does, further-same}
use Rattle.session_laws.proofs.Running.{SameRuns, same-runs}

-- the desk, and what was written and ordered
abbrev pub at : TurnState State → TurnState Desk
at w = record { state = w.state.desk; out = w.out }

-- what snapshots show of the workspaces is the same
pub record ShowsSame (before after : Workspaces) : Type 0 where
  pub present : after.present ≡ before.present
  pub version : after.version ≡ before.version

pub shows-same : (before after : Workspaces) → after ≡ before → ShowsSame before after
shows-same before after same = record { present = ap (λ (ws : Workspaces). ws.present) same; version = ap (λ (ws : Workspaces). ws.version) same }

-- ---- what follows from files that changed

further-settles : (paths : List (List ℕ)) (w : TurnState State) → Settled None (at w) (at (further_logged paths w)) silent w.state.desk.jobs
unfolding further_logged logged ordered
further-settles [] w = nothing-settles (at w)
further-settles (path ∷ paths) w =
    let v : TurnState State = logged SecondSettingsFile path w in
    settled-on (at w) (at v) (at (further_logged paths v)) silent silent w.state.desk.jobs w.state.desk.jobs (log-settles SecondSettingsFile path (at w))
    (further-settles paths v)

deferred-settles : (sources : Option (List FileId)) (w : TurnState State) → Settled None (at w) (at (sources_deferred sources w)) silent w.state.desk.jobs
unfolding sources_deferred ordered
deferred-settles None w = nothing-settles (at w)
deferred-settles (Some files) w = defer-settles (CheckProcMacroSources files) (at w)

served-shows : (served : Bool) (turn : ℕ) (request : FetchRequest) (workspaces : Workspaces)
    → ShowsSame workspaces (record workspaces { fetches = if served then workspaces.fetches else waits_from turn request workspaces.fetches })
served-shows served turn request workspaces = record { present = refl; version = refl }

planned-shows : (turn : ℕ) (request : Option FetchRequest) (workspaces : Workspaces) → ShowsSame workspaces (fetch_planned turn request workspaces)
planned-shows turn None workspaces = record { present = refl; version = refl }
planned-shows turn (Some request) workspaces = served-shows (is_served workspaces.fetches) turn request workspaces

-- log lines and a task that is put off are ordered, and the settings change only where some files have
record Follows (changes : List ChangedFile) (w v : TurnState State) : Type 0 where
  desk : Settled None (at w) (at v) silent w.state.desk.jobs
  shows : ShowsSame w.state.workspaces v.state.workspaces
  client : changes ≡ [] → v.state.client ≡ w.state.client

follows : (changes : List ChangedFile) (w : TurnState State) → Follows changes w (files_followed changes w)
unfolding files_followed effects_done settings_filed fetch_waits
follows [] w = record { desk = nothing-settles (at w); shows = record { present = refl; version = refl }; client = λ none. refl }
follows (change ∷ changes) w =
    let effects : ChangeEffects = effects_for w.state.client.settings (change ∷ changes) w.state.workspaces in
    let settings = change_for effects.settings w.state.files.host.world.roots w.state.sources w.state.workspaces.present in
    let cleared : TurnState State = at_board (deleted_cleared (change ∷ changes)) w in
    let put : TurnState State =
    record cleared { state = with_sources (parents_told w.state.sources) (with_client (client_with settings w.state.client) cleared.state) } in
    let filed : TurnState State = further_logged (further_files settings) put in
    let same = deferred-same effects.macro_sources filed ∙ further-same (further_files settings) put in
    record {
      desk = settled-on (at w) (at filed) (at (sources_deferred effects.macro_sources filed)) silent silent w.state.desk.jobs w.state.desk.jobs
          (further-settles (further_files settings) put)
          (subst (λ (s : State). Settled None (at filed) (at (sources_deferred effects.macro_sources filed)) silent s.desk.jobs)
          (further-same (further_files settings) put)
          (deferred-settles effects.macro_sources filed));
      shows = subst (λ (s : State). ShowsSame w.state.workspaces (fetch_planned s.desk.turns effects.fetch s.workspaces)) (sym same)
          (planned-shows w.state.desk.turns effects.fetch w.state.workspaces);
      client = λ none. absurd cc;
    }

-- ---- files that are processed

-- nobody is answered, the world has the present contents, and where no file was touched it stays as it was, and so do the settings
pub record Files (w v : TurnState State) : Type 0 where
  pub desk : Settled None (at w) (at v) silent w.state.desk.jobs
  pub same : v.state.desk ≡ w.state.desk
  pub files : KeepsFiles w.state.files v.state.files
  pub current : IsSound w.state.files → IsCurrent v.state.files
  pub client : IsUntouched w.state.files → v.state.client ≡ w.state.client
  pub shows : ShowsSame w.state.workspaces v.state.workspaces
  pub runs : SameRuns w.state.desk.turns w.state.workspaces v.state.workspaces
  pub aside : Aside w v
  pub taken : IsUntouched v.state.files

pub files-processed : (w : TurnState State) → IfOk (files_processed w) (Files w)
unfolding files_processed
files-processed w =
    let roots = w.state.sources.roots in
    let changes = changed_files w.state.files in
    IfOk-and_then (at_files (processed roots) w) (λ v. Ok (files_followed changes v)) (λ v. Files w (files_followed changes v)) (Files w)
    (IfOk-within files_in with_files (processed roots) w (λ v. Files w (files_followed changes v))
    (IfOk-weaker _ (Processes roots (record { state = w.state.files; out = w.out })) _ (processed-does roots (record { state = w.state.files; out = w.out }))
    (λ p done.
    let v : TurnState State = record { state = with_files p.state w.state; out = p.out } in
    let u : TurnState State = files_followed changes v in
    let said = followed-does changes v in
    let f = follows changes v in
    let kept : KeepsFiles w.state.files p.state = processing-keeps roots w.state.files p.state done.is in
    record {
      desk = subst (λ (x : TurnState Desk). Settled None x (at u) silent w.state.desk.jobs) (λ i. record { state = w.state.desk; out = done.out i }) f.desk;
      same = said.desk;
      files = subst (KeepsFiles w.state.files) (sym said.files) kept;
      current = λ sound. subst IsCurrent (sym said.files) ((processing_does roots w.state.files p.state done.is).current sound);
      client = λ taken. f.client (taken_none w.state.files taken);
      shows = f.shows;
      runs = said.runs;
      aside = aside-on w v u (aside-silent w v done.out refl (kept-documents w.state.files p.state kept)
          (same-runs w.state.desk.turns w.state.workspaces w.state.workspaces refl)) (aside-speaks v u said);
      taken = subst IsUntouched (sym said.files) (ap (λ (f : SessionFiles). f.table.before) (processing_does roots w.state.files p.state done.is).rest);
    })))
    (λ u f. f)
