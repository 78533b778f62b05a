-- What macros bring, of which roots settings files are, and when what is shown is asked for anew.
use Rattle.std.proofs.Common.{◌≡◌, ℕ, ◌+◌, List, [], ◌∷◌, Bool, true, false, refl, sym, ap, ◌∙◌, subst, arith, inl, inr}
use Rattle.std.specs.Prelude.{◌⊎◌, ◌&&◌, ◌||◌, not, Option, None, Some, is_some, option_and_then, option_map, Result, Ok, IfOk, if◌then◌else◌}
use Rattle.std.specs.List.{cons_option}
use Rattle.std.specs.FinMap as map
use Rattle.std.proofs.lemmas.Result.{IfOk-at_ok}
use Rattle.docs_vfs.specs.Roots.{is_local_at, root_of}
use Rattle.docs_vfs.specs.declared.source_roots.Root.{Root}
use Rattle.layered_settings.specs.declared.change.SettingsFile.{SettingsFile as RootFile}
use Rattle.project_model.specs.declared.crates.CrateData.{CrateData}
use Rattle.project_model.specs.declared.workspace.ProjectWorkspace.{ProjectWorkspace}
use Rattle.change_effects.specs.Filing.{filed_change, crate_file, crate_files, file_in, is_at_workspace, text_in, workspace_file, workspace_files}
use Rattle.change_effects.specs.declared.effects.SettingsFile.{SettingsFile}
use Rattle.activities.specs.Work.{job_told}
use Rattle.activities.specs.declared.telling.Telling.{Telling}
use Rattle.session_port.specs.Jobs.{final_of, fits_job, fits_kind, fitting_job}
use Rattle.session_port.specs.TurnState.{TurnState, and_then, written}
use Rattle.session_port.specs.declared.event.TaskBody.{TaskBody}
use Rattle.session_port.specs.declared.event.TaskBody.TheVariants.{Final}
use Rattle.session_port.specs.declared.event.TaskMsg.{TaskMsg}
use Rattle.session_port.specs.declared.fault.Counter.{Counter}
use Rattle.session_port.specs.declared.job.Job.{Job}
use Rattle.session_port.specs.declared.job.JobKind.{JobKind}
use Rattle.session_port.specs.declared.job.JobKind.TheVariants.{LoadProcMacros}
use Rattle.session_port.specs.declared.job.JobResult.{JobResult}
use Rattle.desk.specs.WorkEnds.{LoadEnd, work_end_of, work_ended, work_told}
use Rattle.desk.specs.declared.state.ends.WorkEnd.{WorkEnd}
use Rattle.desk.specs.declared.state.ends.WorkEnd.TheVariants.{Fetched, Built, Checked, Loaded, Diagnosed, Tested}
use Rattle.desk.specs.Meaning.{Meaning}
use Rattle.desk.specs.Steps.{result_taken as taken_at_desk}
use Rattle.desk_laws.proofs.Fitting.{fit-fits}
use Rattle.desk_laws.proofs.Results.{IfOk-and_then, IfOk-weaker, IfOk-within}
use Rattle.session_files.specs.Current.{IsSound}
use Rattle.session_files.specs.Folds.{after_crates, after_processing, changed_files, have_come_or_gone, has_changed}
use Rattle.session_files.specs.SessionFiles.{SessionFiles}
use Rattle.session_files.specs.Steps.{crates_put, processed}
use Rattle.session_files.proofs.SoundLemmas.{crates_keep, processing_does}
use Rattle.workspaces.specs.Loads.{macros_of, macros_put, listed_for}
use Rattle.workspaces.specs.Workspaces.{Loads, Workspaces}
use Rattle.workspaces.specs.declared.requests.WaitingCrates.{WaitingCrates}
use Rattle.session_model.specs.Building.{build_kept}
use Rattle.session_model.specs.Fetching.{fetch_kept}
use Rattle.session_model.specs.Loading.{crates_loaded, load_kept}
use Rattle.session_model.specs.Machine.{Turning, at_desk, at_files, at_workspaces, build_taken, files_done, knowing, crates_arrived, desk_in, end_taken}
use Rattle.session_model.specs.Machine.{work_taken, fetch_taken, files_followed, files_in, files_part, files_processed, in_state}
use Rattle.session_model.specs.Machine.{checks_renewed_if, crates_settled_if, tellings_told, work_followed}
use Rattle.op_board.specs.Acts.{step as after_act}
use Rattle.op_board.specs.Acts.Act.{ForgetsAll}
use Rattle.session_model.specs.Machine.{at_board}
use Rattle.session_model.specs.Machine.{load_taken, macros_taken, refreshes_done, client_refreshed, settings_filed, some_processed, state_in, message_taken}
use Rattle.session_model.specs.Machine.{with_client}
use Rattle.session_model.specs.Machine.{with_desk, with_files, with_sources, with_state}
use Rattle.session_model.specs.Asking.{is_refresh_due}
use Rattle.session_model.specs.Sources.{change_for, client_with, further_files, is_settled, parents_told}
use Rattle.session_model.specs.State.{Sources, State, scene_of, snapshot_of}
use Rattle.session_model.specs.declared.facts.FactsBefore.{FactsBefore}
use Rattle.session_port.specs.Written.{Written}
use Rattle.session_port.specs.declared.command.LogCode.TheVariants.{BuildError, FetchError}
use Rattle.session_model.specs.Status.{build_fault, fetch_fault, is_quiescent}
use Rattle.session_laws.specs.Entering.{AreOfRoots, BringsFiles, EndsWait, FilesSettings, IsOfRoots, IsShownAnew, MayBringFiles}
use Rattle.session_laws.specs.Invariant.{is_load}
use Rattle.session_laws.proofs.Announcing.{Announces, announcing, renewed_if-owes, told-owe}
use Rattle.session_laws.proofs.Filing.{Processes, PutsCrates, crates-put, ok-from, processed-does}
use Rattle.session_laws.proofs.Following.{followed-does, further-same}
use Rattle.session_laws.proofs.Batches.{logged_if-same}
use Rattle.session_laws.proofs.OneOut.{true-false}
use Rattle.session_laws.proofs.WorkEnds.{load-has-end}
use Rattle.session_laws.proofs.Same.{some-same, none-some}

-- ---- files that are processed

-- the files are those that the processing leaves
abbrev AreProcessed : TurnState State → TurnState State → Type 0
AreProcessed w v = after_processing w.state.sources.roots w.state.files ≡ Ok v.state.files

processed-is : (w : TurnState State) → IfOk (files_processed w) (AreProcessed w)
unfolding files_processed
processed-is w =
    let roots = w.state.sources.roots in
    let list = changed_files w.state.files in
    IfOk-and_then (at_files (processed roots) w) (λ v. Ok (files_followed list v)) (λ v. AreProcessed w (files_followed list v)) (AreProcessed w)
    (IfOk-within files_in with_files (processed roots) w (λ v. AreProcessed w (files_followed list v))
    (IfOk-weaker _ (Processes roots (record { state = w.state.files; out = w.out })) _ (processed-does roots (record { state = w.state.files; out = w.out }))
    (λ p done.
    let v : TurnState State = record { state = with_files p.state w.state; out = p.out } in
    let ok : SessionFiles → Result SessionFiles Counter = λ files. Ok files in
    done.is ∙ ap ok (sym (followed-does list v).files))))
    (λ u a. a)

-- ---- crate data that comes with its macros

both-roots : (b : Bool) (roots old : List Root) → old ≡ roots → (if b then roots else old) ≡ roots
both-roots true roots old is = refl
both-roots false roots old is = is

counted : (b : Bool) (before mid after : ℕ) → mid ≡ before + 1 → after ≡ (if b then mid + 1 else mid) → after ≡ before + 1 + (if b then 1 else 0)
counted true before mid after p q = omega (arith, p, q)
counted false before mid after p q = omega (arith, p, q)

brought-files : (crates : CrateData) (s t : State) (files : SessionFiles) → after_crates s.sources.roots crates s.files ≡ Ok files
    → after_processing s.sources.roots files ≡ Ok t.files → BringsFiles s t
brought-files crates s t files first second =
    let roots = s.sources.roots in
    let c = crates_keep roots crates s.files files first in
    let p = processing_does roots files t.files second in
    let same : has_changed files ≡ has_changed s.files = ap has_changed c.rest in
    record {
      roots = p.renewed ∙ both-roots (have_come_or_gone (changed_files files)) roots files.host.world.roots c.roots_are;
      current = λ sound. p.current (c.sound sound);
      taken = ap (λ (f : SessionFiles). f.table.before) p.rest;
      revision = counted (has_changed s.files) s.files.host.revision files.host.revision t.files.host.revision c.revision
          (p.revision ∙ ap (λ b. if b then files.host.revision + 1 else files.host.revision) same);
    }

-- what crate data that comes, or none, does to the files
abbrev Brings : Option CrateData → State → State → Type 0
Brings None s t = t.files ≡ s.files
Brings (Some crates) s t = BringsFiles s t

-- what is told behind that leaves the files
brings-announced : (crates : Option CrateData) (s : State) (v u : TurnState State) → Brings crates s v.state → Announces v u → Brings crates s u.state
brings-announced None s v u b a = ap (λ (x : State). x.files) a.state ∙ b
brings-announced (Some crates) s v u b a =
    subst (BringsFiles s) (sym a.state) (record { roots = b.roots; current = b.current; taken = b.taken; revision = b.revision })

arrive-brings : (crates : Option CrateData) (w : TurnState State) → IfOk (and_then (crates_arrived crates w) (crates_settled_if (is_some crates)))
    (λ v. Brings crates w.state v.state)
unfolding crates_arrived crates_settled_if
arrive-brings None w = refl
arrive-brings (Some crates) w =
    let roots = w.state.sources.roots in
    IfOk-and_then (at_files (crates_put roots crates) w) (λ v. and_then (files_processed v) (checks_renewed_if true))
    (λ v. (after_crates roots crates w.state.files ≡ Ok v.state.files) × (v.state.sources.roots ≡ roots)) (λ v. BringsFiles w.state v.state)
    (IfOk-within files_in with_files (crates_put roots crates) w _
    (IfOk-weaker _ (PutsCrates roots crates (record { state = w.state.files; out = w.out })) _
    (crates-put roots crates (record { state = w.state.files; out = w.out })) (λ v p. (p.is, refl))))
    (λ v (is, same). IfOk-and_then (files_processed v) (checks_renewed_if true) (λ u. BringsFiles w.state u.state) (λ u. BringsFiles w.state u.state)
    (IfOk-weaker (files_processed v) (AreProcessed v) (λ u. BringsFiles w.state u.state) (processed-is v)
    (λ u done. brought-files crates w.state u.state v.state.files is
    (subst (λ (rs : List Root). after_processing rs v.state.files ≡ Ok u.state.files) same done)))
    (λ u b. IfOk-weaker (checks_renewed_if true u) (Announces u) _ (renewed_if-owes Announces announcing true u)
    (λ x a. brings-announced (Some crates) w.state u x b a)))

-- the crate data that comes with what ends, where the workspaces were these before it: that which waited for a load of macros
abbrev crates_with : WorkEnd → Workspaces → Option CrateData
crates_with (Fetched found) workspaces = None
crates_with (Built made) workspaces = None
crates_with (Checked roots) workspaces = None
crates_with (Loaded told) workspaces = crates_loaded told workspaces
crates_with (Diagnosed generation pass lists) workspaces = None
crates_with (Tested files tests) workspaces = None

abbrev crates_by : Option WorkEnd → Workspaces → Option CrateData
crates_by None workspaces = None
crates_by (Some end) workspaces = crates_with end workspaces

load-brings : (told : LoadEnd) (w : TurnState State) → IfOk (load_taken told w) (λ v. Brings (crates_loaded told w.state.workspaces) w.state v.state)
unfolding load_taken macros_taken
load-brings told w =
    let v : TurnState State = at_workspaces (load_kept told) w in
    IfOk-weaker (and_then (crates_arrived (crates_loaded told w.state.workspaces) v) (crates_settled_if (is_some (crates_loaded told w.state.workspaces))))
    (λ u. Brings (crates_loaded told w.state.workspaces) v.state u.state) _
    (arrive-brings (crates_loaded told w.state.workspaces) v) (λ u b. from (crates_loaded told w.state.workspaces) u.state b)
  where
    from : (crates : Option CrateData) (t : State) → Brings crates (at_workspaces (load_kept told) w).state t → Brings crates w.state t
    from None t b = b
    from (Some crates) t b = record { roots = b.roots; current = b.current; taken = b.taken; revision = b.revision }

work-brings : (end : WorkEnd) (w : TurnState State) → IfOk (work_taken end w) (λ v. Brings (crates_with end w.state.workspaces) w.state v.state)
unfolding work_taken fetch_taken build_taken written
work-brings (Fetched found) w =
    let v : TurnState State = at_board (after_act ForgetsAll) (at_workspaces (fetch_kept found) w) in ap (λ (s : State). s.files)
    (logged_if-same FetchError (fetch_fault v.state.client.settings v.state.workspaces) v)
work-brings (Built made) w =
    let v : TurnState State = at_workspaces (build_kept made) w in ap (λ (s : State). s.files) (logged_if-same BuildError (build_fault v.state.workspaces) v)
work-brings (Checked roots) w = refl
work-brings (Loaded told) w = load-brings told w
work-brings (Diagnosed generation pass lists) w = refl
work-brings (Tested files tests) w = refl

end-brings : (end : Option WorkEnd) (w : TurnState State) → IfOk (end_taken end w) (λ v. Brings (crates_by end w.state.workspaces) w.state v.state)
unfolding end_taken
end-brings None w = refl
end-brings (Some end) w = work-brings end w

-- the files, the roots that are present and the workspaces are the same
record Before (s t : State) : Type 0 where
  files : t.files ≡ s.files
  sources : t.sources ≡ s.sources
  workspaces : t.workspaces ≡ s.workspaces

-- what a message does, by the crate data that it brings
brings-before : (crates : Option CrateData) (s t u : State) → Before s t → Brings crates t u → Brings crates s u
brings-before None s t u same b = b ∙ same.files
brings-before (Some crates) s t u same b = record {
  roots = b.roots ∙ ap (λ (x : Sources). x.roots) same.sources;
  current = λ sound. b.current (subst IsSound (sym same.files) sound);
  taken = b.taken;
  revision = b.revision ∙ ap (λ (f : SessionFiles). f.host.revision + 1 + (if has_changed f then 1 else 0)) same.files;
}

abbrev MessageBrings : TaskMsg → State → State → Type 0
MessageBrings message s t = Brings (crates_by (work_ended message s.desk.jobs) s.workspaces) s t

followed-brings : (end : Option WorkEnd) (told : List Telling) (w : TurnState State)
    → IfOk (work_followed end told w) (λ v. Brings (crates_by end w.state.workspaces) w.state v.state)
unfolding work_followed
followed-brings end told w =
    let crates : Option CrateData = crates_by end w.state.workspaces in
    IfOk-and_then (end_taken end w) (tellings_told told) (λ v. Brings crates w.state v.state) (λ v. Brings crates w.state v.state) (end-brings end w)
    (λ v b. IfOk-weaker (tellings_told told v) (Announces v) _ (told-owe Announces announcing told v) (λ u a. brings-announced crates w.state v u b a))

message-brings : (meaning : Meaning) (message : TaskMsg) (w : TurnState State)
    → IfOk (message_taken meaning message w) (λ v. MessageBrings message w.state v.state)
unfolding message_taken
message-brings meaning message w =
    let end = work_ended message w.state.desk.jobs in
    let told = job_told message.body (fitting_job message w.state.desk.jobs) in
    IfOk-and_then (at_desk (taken_at_desk meaning (scene_of w.state) message) w) (work_followed end told) (λ v. Before w.state v.state)
    (λ v. MessageBrings message w.state v.state)
    (IfOk-within desk_in with_desk (taken_at_desk meaning (scene_of w.state) message) w _
    (ok-from (taken_at_desk meaning (scene_of w.state) message (record { state = w.state.desk; out = w.out })) _
    (λ v is. record { files = refl; sources = refl; workspaces = refl })))
    (λ v before. IfOk-weaker (work_followed end told v) (λ u. Brings (crates_by end v.state.workspaces) v.state u.state) _ (followed-brings end told v)
    (λ u b. brings-before (crates_by end w.state.workspaces) w.state v.state u.state before
    (subst (λ (ws : Workspaces). Brings (crates_by end ws) v.state u.state) before.workspaces b)))

may-bring : (crates : Option CrateData) (s t : State) → Brings crates s t → MayBringFiles s t
may-bring None s t b = inl b
may-bring (Some crates) s t b = inr b

pub message-may-bring : (meaning : Meaning) (message : TaskMsg) (w v : TurnState State) → message_taken meaning message w ≡ Ok v → MayBringFiles w.state v.state
message-may-bring meaning message w v is =
    may-bring (crates_by (work_ended message w.state.desk.jobs) w.state.workspaces) w.state v.state
    (IfOk-at_ok (λ (v : TurnState State). MessageBrings message w.state v.state) is (message-brings meaning message w))

-- a load ends with what it came to
load-told : (kind : JobKind) (result : JobResult) → is_load kind ≡ true → fits_kind kind result ≡ true → (told : LoadEnd)
    × (work_end_of kind result ≡ Some (Loaded told))
load-told (LoadProcMacros paths ignored) result loads fit = load-has-end result fit
load-told other result loads fit = true-false (sym loads)

-- so a message says that ends one
body-told : (job : Job) (body : TaskBody) → is_load job.kind ≡ true → is_some (final_of body) ≡ true → fits_job job body ≡ true → (told : LoadEnd)
    × (option_and_then (work_end_of job.kind) (final_of body) ≡ Some (Loaded told))
body-told job (Final result) loads ends fit = load-told job.kind result loads fit
body-told job other loads ends fit = true-false (sym ends)

-- and crate data that waits comes with it
waiting-comes : (b : Bool) (o : Option WaitingCrates) (f : WaitingCrates → CrateData) → b ≡ true → is_some o ≡ true → (crates : CrateData)
    × ((if b then option_map f o else None) ≡ Some crates)
waiting-comes b None f busy some = true-false (sym some)
waiting-comes b (Some crates) f busy some = (f crates, ap (λ c. if c then Some (f crates) else None) busy)

pub ended-brings : (meaning : Meaning) (message : TaskMsg) (w v : TurnState State) → message_taken meaning message w ≡ Ok v → EndsWait message w.state
    → BringsFiles w.state v.state
ended-brings meaning message w v is ends =
    let fit = fit-fits message.body (map.get w.state.desk.jobs message.job) ends.job ends.fits in
    let told = body-told ends.job message.body ends.loads ends.ends fit in
    let loads : Loads = w.state.workspaces.loads in
    let comes = waiting-comes loads.queue.in_progress loads.waiting (macros_put (macros_of told.0 (listed_for loads.waiting))) ends.in_progress ends.waits in
    let ended : work_ended message w.state.desk.jobs ≡ Some (Loaded told.0) = ap (work_told message) ends.fits ∙ told.1 in
    let crates : crates_by (work_ended message w.state.desk.jobs) w.state.workspaces ≡ Some comes.0 =
    ap (λ (o : Option WorkEnd). crates_by o w.state.workspaces) ended ∙ comes.1 in
    subst (λ (o : Option CrateData). Brings o w.state v.state) crates
    (IfOk-at_ok (λ (v : TurnState State). MessageBrings message w.state v.state) is (message-brings meaning message w))

-- ---- of which roots settings files are

abbrev OfRoot : List Root → RootFile → Type 0
OfRoot roots file = (file.root ≡ root_of roots file.path) × (is_local_at roots file.root ≡ true)

by-local : (roots : List Root) (made found : RootFile) (b : Bool) → is_local_at roots made.root ≡ b → made.root ≡ root_of roots made.path
    → (if b then Some made else None) ≡ Some found → OfRoot roots found
by-local roots made found true local root is = subst (OfRoot roots) (some-same made found is) (root, local)
by-local roots made found false local root is = none-some found is

in-root : (roots : List Root) (file : SettingsFile) (found : RootFile) → file_in roots file ≡ Some found → OfRoot roots found
in-root roots file found is =
    by-local roots (record { root = root_of roots file.path; path = file.path; text = text_in file.contents }) found
    (is_local_at roots (root_of roots file.path)) refl refl is

at-workspace : (b : Bool) (roots : List Root) (file : SettingsFile) (found : RootFile) → (if b then file_in roots file else None) ≡ Some found
    → OfRoot roots found
at-workspace true roots file found is = in-root roots file found is
at-workspace false roots file found is = none-some found is

at-crate : (b : Bool) (roots : List Root) (file : SettingsFile) (found : RootFile) → (if b then None else file_in roots file) ≡ Some found → OfRoot roots found
at-crate true roots file found is = none-some found is
at-crate false roots file found is = in-root roots file found is

cons-roots : (roots : List Root) (o : Option RootFile) (rest : List RootFile) → ((found : RootFile) → o ≡ Some found → OfRoot roots found)
    → AreOfRoots roots rest → AreOfRoots roots (cons_option o rest)
cons-roots roots None rest each others = others
cons-roots roots (Some found) rest each others = (each found refl, others)

workspace-roots : (roots : List Root) (workspaces : List ProjectWorkspace) (files : List SettingsFile)
    → AreOfRoots roots (workspace_files roots workspaces files)
workspace-roots roots workspaces [] = tt
workspace-roots roots workspaces (file ∷ files) =
    cons-roots roots (workspace_file roots workspaces file) (workspace_files roots workspaces files)
    (at-workspace (is_at_workspace workspaces file.path) roots file) (workspace-roots roots workspaces files)

crate-roots : (roots : List Root) (workspaces : List ProjectWorkspace) (files : List SettingsFile) → AreOfRoots roots (crate_files roots workspaces files)
crate-roots roots workspaces [] = tt
crate-roots roots workspaces (file ∷ files) =
    cons-roots roots (crate_file roots workspaces file) (crate_files roots workspaces files) (at-crate (is_at_workspace workspaces file.path) roots file)
    (crate-roots roots workspaces files)

change-roots : (b : Bool) (roots : List Root) (parents : Option (List (ℕ × ℕ))) (workspaces : List ProjectWorkspace) (files : List SettingsFile)
    → IsOfRoots roots (if b then None else Some (filed_change roots parents workspaces files))
change-roots true roots parents workspaces files = tt
change-roots false roots parents workspaces files = (workspace-roots roots workspaces files, crate-roots roots workspaces files)

pub filed-by-roots : (files : List SettingsFile) (w : TurnState State) → FilesSettings (snapshot_of w.state) w.state (settings_filed files w).state
unfolding settings_filed
filed-by-roots files w =
    let roots = w.state.files.host.world.roots in
    let change = change_for files roots w.state.sources w.state.workspaces.present in
    let put : TurnState State = record w { state = with_sources (parents_told w.state.sources) (with_client (client_with change w.state.client) w.state) } in
    record {
      change = change;
      client = ap (λ (s : State). s.client) (further-same (further_files change) put);
      roots = change-roots (is_settled files w.state.sources) roots w.state.sources.parents w.state.workspaces.present files;
    }

-- ---- what is shown

pub part-knows : (t : TurnState Turning) → IfOk (files_part t)
    (λ v. v.state.facts ≡ record t.state.facts { processed = not t.state.state.files.loading && has_changed t.state.state.files })
unfolding files_part
part-knows t =
    IfOk-and_then (in_state files_done t) (λ v. Ok (knowing (some_processed t.state.state.files) v)) (λ v. v.state.facts ≡ t.state.facts) _
    (IfOk-within state_in with_state files_done t _ (ok-from (files_done (record { state = t.state.state; out = t.out })) _ (λ v is. refl)))
    (λ v same. ap (λ (f : FactsBefore). record f { processed = some_processed t.state.state.files }) same)

quiet-by : (due was now done : Bool) → is_refresh_due was now done ≡ due → ((now ≡ true) × ((was ≡ false) ⊎ (done ≡ true)) → ⊥) → due ≡ false
quiet-by true was true true is none = absurd (none (refl, inr refl))
quiet-by true false true false is none = absurd (none (refl, inl refl))
quiet-by true true true false is none = sym is
quiet-by true was false done is none = sym is
quiet-by false was now done is none = refl

due-by : (was now done : Bool) → now ≡ true → (was ≡ false) ⊎ (done ≡ true) → is_refresh_due was now done ≡ true
due-by was now done quiet (inl new) = λ i. quiet i && (not (new i) || done)
due-by was now done quiet (inr some) = (λ i. quiet i && (not was || some i)) ∙ or-true was
  where
    or-true : (b : Bool) → (not b || true) ≡ true
    or-true true = refl
    or-true false = refl

-- what is asked for where this flag is set
abbrev if_due : Bool → TurnState State → Result (TurnState State) Counter
if_due due w = if due then client_refreshed w.state.client.settings.capabilities w else Ok w

quiet-is : (facts : FactsBefore) (w : TurnState State) (due : Bool) → is_refresh_due facts.quiescent (is_quiescent w.state.files w.state.workspaces) facts.processed ≡
    due → refreshes_done facts w ≡ if_due due w
unfolding refreshes_done
quiet-is facts w due is = ap (λ b. if_due b w) is

pub shown-anew : (t : Turning) (out : Written) → IsShownAnew t
    → refreshes_done t.facts (record { state = t.state; out = out }) ≡ client_refreshed t.state.client.settings.capabilities (record { state = t.state; out = out })
shown-anew t out anew =
    quiet-is t.facts (record { state = t.state; out = out }) true
    (due-by t.facts.quiescent (is_quiescent t.state.files t.state.workspaces) t.facts.processed anew.quiescent anew.since)

pub not-shown : (t : Turning) (out : Written) → (IsShownAnew t → ⊥)
    → refreshes_done t.facts (record { state = t.state; out = out }) ≡ Ok (record { state = t.state; out = out })
not-shown t out none =
    let now = is_quiescent t.state.files t.state.workspaces in
    let due = is_refresh_due t.facts.quiescent now t.facts.processed in
    let not_due : due ≡ false = quiet-by due t.facts.quiescent now t.facts.processed refl (λ h. none (record { quiescent = h.0; since = h.1 })) in
    quiet-is t.facts (record { state = t.state; out = out }) false not_due
