-- A session with nothing to tell has a status that says so.
use Rattle.std.proofs.Common.{◌≡◌, Bool, true, false, List, [], ◌∷◌, ℕ, refl, ap, sym, ◌∙◌}
use Rattle.std.proofs.lemmas.Bool.{and_parts, true≢false}
use Rattle.std.specs.Prelude.{Result, Ok, Err, IfOk, IsTrue, Option, None, Some, is_some, not}
use Rattle.std.specs.List.{list_all}
use Rattle.ra_settings.specs.declared.value.LinkedProject.{LinkedProject}
use Rattle.project_model.specs.Workspaces.{manifest_or_root}
use Rattle.project_model.specs.declared.workspace.ProjectWorkspace.{ProjectWorkspace}
use Rattle.status.specs.Drafts.{add_each, nothing_told, message_of}
use Rattle.status.specs.Facts.{add_workspace, add_workspaces, all_of, errors_of, fact_if, line_if, session_facts, status_of, warning}
use Rattle.status.specs.Texts.{reload_text, rebuild_text, build_text, discover_text, load_text}
use Rattle.status.specs.declared.draft.Draft.{Draft}
use Rattle.status.specs.declared.health.Health.TheVariants.{Warning, Error}
use Rattle.status.specs.declared.status.Status.{Status}
use Rattle.status.specs.declared.status.StatusInput.{StatusInput}
use Rattle.status.specs.Same.{is_same_status}
use Rattle.status.proofs.Same.{status_told}
use Rattle.session_port.specs.TurnState.{TurnState}
use Rattle.session_model.specs.Machine.{status_changed, status_done, status_kept, with_status}
use Rattle.session_model.specs.State.{State}
use Rattle.session_model.specs.Status.{status_now}
use Rattle.session_status.specs.Well.{has_no_error, IsWell, well_status}

none_where : (text : Option (List ℕ)) → not (is_some text) ≡ true → text ≡ None
none_where None is = refl
none_where (Some text) is = absurd (true≢false (sym is))

-- errors that aren't there add nothing
errors-add : (workspace : ProjectWorkspace) (draft : Draft)
    → workspace.error ≡ None → workspace.sysroot_error ≡ None → workspace.sysroot_metadata_error ≡ None → workspace.rustc_error ≡ None
    → add_each all_of (errors_of (manifest_or_root workspace) workspace) draft ≡ draft
errors-add workspace draft e s m r = rw (e, s, m, r) refl

workspace-adds : (workspace : ProjectWorkspace) (draft : Draft) → has_no_error workspace ≡ true → add_workspace workspace draft ≡ draft
workspace-adds workspace draft free =
    let three = and_parts _ (not (is_some workspace.rustc_error)) free in
    let two = and_parts _ (not (is_some workspace.sysroot_metadata_error)) three.0 in
    let one = and_parts (not (is_some workspace.error)) (not (is_some workspace.sysroot_error)) two.0 in
    errors-add workspace draft (none_where _ one.0) (none_where _ one.1) (none_where _ two.1) (none_where _ three.1)

-- workspaces without errors add nothing
workspaces-add : (workspaces : List ProjectWorkspace) (draft : Draft) → list_all has_no_error workspaces ≡ true → add_workspaces workspaces draft ≡ draft
workspaces-add [] draft free = refl
workspaces-add (workspace ∷ rest) draft free =
    let parts = and_parts (has_no_error workspace) (list_all has_no_error rest) free in
    workspaces-add rest (add_workspace workspace draft) parts.1 ∙ workspace-adds workspace draft parts.0

-- facts of the session that don't hold add nothing
session-adds : (reload deps build none load : Bool) (config check : Option (List ℕ)) (linked : List LinkedProject)
    → reload ≡ false → deps ≡ false → build ≡ false → config ≡ None → check ≡ None → none ≡ false → load ≡ false
    → add_each all_of (fact_if reload Warning reload_text ∷ fact_if deps Warning rebuild_text ∷ fact_if build Warning build_text ∷ line_if config
    ∷ line_if check
    ∷ fact_if none Warning discover_text ∷ fact_if load Error (load_text linked) ∷ []) nothing_told ≡ nothing_told
session-adds reload deps build none load config check linked r d b c k n l = rw (r, d, b, c, k, n, l) refl

abbrev status_from : Bool → Draft → Status
status_from ready draft = record { health = draft.health; quiescent = ready; message = message_of draft.text }

pub nothing_is_told : (input : StatusInput) → IsWell input → status_of input ≡ well_status input.fully_ready
nothing_is_told input (reload, deps, build, config, check, none, load, msrv, free) =
    let told : add_each all_of (session_facts input) nothing_told ≡ nothing_told =
    session-adds input.reload_needed input.build_deps_changed input.build_error input.no_projects input.workspace_error input.config_errors input.check_error
    input.linked reload deps build config check none load in
    ap (status_from input.fully_ready)
    (workspaces-add input.workspaces _ free ∙ ap (λ texts. add_each warning texts (add_each all_of (session_facts input) nothing_told)) msrv ∙ told)

-- a status that tells nothing is that of a session with nothing to tell
pub same_where : (status : Status) (input : StatusInput) → is_same_status status (well_status input.fully_ready) ≡ true → IsWell input
    → is_same_status status (status_of input) ≡ true
same_where status input same well = ap (is_same_status status) (nothing_is_told input well) ∙ same

-- what follows from what a call answers
pub carried : {E : Type 0} (result : Result Bool E) (P Q : Type 0) → (P → Q) → IfOk result (λ b. IsTrue b → P) → IfOk result (λ b. IsTrue b → Q)
carried (Ok b) P Q f h = λ is. f (h is)
carried (Err e) P Q f h = tt

-- a status that is the same as the one told last leaves all as it was
kept : (w : TurnState State) (status : Status) → is_same_status w.state.status status ≡ true → status_kept status w ≡ Ok w
unfolding status_kept status_changed
kept w status same = rw same (ap (λ s. Ok (record w { state = with_status s w.state })) (sym ((status_told w.state.status status).0 same)))

pub status_stays : (w : TurnState State) → is_same_status w.state.status (status_now w.state.client w.state.files w.state.workspaces w.state.activities.checks) ≡ true
    → status_done w ≡ Ok w
unfolding status_done
status_stays w same = kept w (status_now w.state.client w.state.files w.state.workspaces w.state.activities.checks) same
