-- The checks of a session: which are set, what is told of how far one is, and which restart and are cancelled.
use Rattle.std.specs.Prelude.{ℕ, ◌+◌, ◌==◌, Bool, true, false, List, [], ◌∷◌, ◌++◌, length, map, codes, Option, None}
use Rattle.std.specs.Prelude.{Some}
use Rattle.std.specs.Prelude.{if◌then◌else◌, unwrap_or, Result, Ok, Err}
use Rattle.std.specs.FinMap as by_key
use Rattle.std.specs.List.{list_any}
use Rattle.std.specs.Ordering.{nat_cmp}
use Rattle.project_model.specs.declared.check_scope.CheckScope.TheVariants.{Workspace}
use Rattle.project_model.specs.declared.kinds.WorkspaceKind.{WorkspaceKind}
use Rattle.project_model.specs.declared.kinds.WorkspaceKind.TheVariants.{Cargo, Json, DetachedFile}
use Rattle.project_model.specs.declared.workspace.ProjectWorkspace.{ProjectWorkspace}
use Rattle.ra_config.specs.Config.{ConfigData}
use Rattle.session_port.specs.declared.news.CheckProgress.{CheckProgress}
use Rattle.session_port.specs.declared.news.CheckProgress.TheVariants.{DidStart, DidCheckCrate, DidCancel}
use Rattle.session_port.specs.declared.news.CheckProgress.TheVariants.{DidFailToRestart, DidFinish}
use Rattle.session_port.specs.declared.news.FlycheckMsg.{FlycheckMsg}
use Rattle.session_port.specs.declared.news.FlycheckMsg.TheVariants.{Progress}
use Rattle.activities.specs.CheckNames.{command_set, title_by, token_of, id_in}
use Rattle.activities.specs.Settings.{runs_once, words_set}
use Rattle.activities.specs.Announced.{Announced, telling, silent}
use Rattle.activities.specs.declared.telling.Telling.{Telling}
use Rattle.activities.specs.declared.telling.Telling.TheVariants.{Begin, Report, End, SetChecks, RestartCheck}
use Rattle.activities.specs.declared.telling.Telling.TheVariants.{CancelCheck}

pub record Checks : Type 0 where
  -- those that may run, each with the folder that it is for
  pub set : List (ℕ × List ℕ)
  -- the command with which each was started last since they were set
  pub commands : by_key.FinMap nat_cmp (List ℕ)
  -- why the last that failed did, unless one went well since
  pub error : Option (List ℕ)

abbrev pub no_checks : Checks
no_checks = record { set = []; commands = by_key.empty; error = None }

-- ---- which are set

-- a workspace of cargo has a check; one that is described as JSON has one where the settings give the command
abbrev pub is_checked : Bool → WorkspaceKind → Bool
is_checked overridden Cargo = true
is_checked overridden Json = overridden
is_checked overridden DetachedFile = false

-- a check for each workspace that has one, with the place of the workspace as its id; the first has this place
abbrev pub checks_from : Bool → ℕ → List ProjectWorkspace → List (ℕ × List ℕ)
checks_from overridden place [] = []
checks_from overridden place (workspace ∷ rest) =
    if is_checked overridden workspace.kind then (place, workspace.root) ∷ checks_from overridden (place + 1) rest
    else checks_from overridden (place + 1) rest

abbrev pub is_given : {A : Type 0} → Option A → Bool
is_given None = false
is_given (Some x) = true

-- the checks of these workspaces: one at the root path, or one for each of them
abbrev pub checks_for : ConfigData → List ProjectWorkspace → List (ℕ × List ℕ)
checks_for settings present =
    if runs_once settings then (0, settings.root_path) ∷ [] else checks_from (is_given (words_set settings)) 0 present

-- the checks of these workspaces are set; what was started before is forgotten
abbrev pub checks_set : ConfigData → List ProjectWorkspace → Checks → Announced Checks
checks_set settings present checks =
    let set = checks_for settings present in
    telling (SetChecks set ∷ []) (record { set = set; commands = by_key.empty; error = checks.error })

-- ---- how far one is

-- the command of a check: that with which it was started, else the settings'
abbrev pub command_of : ConfigData → ℕ → Checks → List ℕ
command_of settings id checks = unwrap_or (by_key.get checks.commands id) (command_set settings)

abbrev pub title_of : ConfigData → ℕ → Checks → List ℕ
title_of settings id checks = title_by (length checks.set) id (command_of settings id checks)

abbrev pub failed : List ℕ → Option (List ℕ)
failed reason = Some (codes "cargo check failed to start: " ++ reason)

abbrev pub error_of : Result (Unit {0}) (List ℕ) → Option (List ℕ)
error_of (Ok done) = None
error_of (Err reason) = failed reason

abbrev pub with_error : Option (List ℕ) → Checks → Checks
with_error error checks = record checks { error = error }

-- a check ends, well or with this error
abbrev pub ended : ConfigData → ℕ → Option (List ℕ) → Checks → Announced Checks
ended settings id error checks =
    telling (End (title_of settings id checks) (Some (token_of id)) None ∷ []) (with_error error checks)

-- this is the command of the check
abbrev pub with_command : ℕ → List ℕ → Checks → Checks
with_command id command checks = record checks { commands = by_key.insert checks.commands id command }

-- a check begins with this command
abbrev pub begun : ℕ → List ℕ → Checks → Announced Checks
begun id command checks =
    telling (Begin (title_by (length checks.set) id command) (Some (token_of id)) None None ∷ [])
    (with_command id command checks)

-- it is done with a crate
abbrev pub reported : ConfigData → ℕ → List ℕ → Checks → List Telling
reported settings id name checks = Report (title_of settings id checks) (Some (token_of id)) (Some name) None ∷ []

-- a check says how far it is
abbrev pub progressed : ConfigData → ℕ → CheckProgress → Checks → Announced Checks
progressed settings id (DidStart command) checks = begun id command checks
progressed settings id (DidCheckCrate name) checks = telling (reported settings id name checks) checks
progressed settings id DidCancel checks = ended settings id None checks
progressed settings id (DidFailToRestart reason) checks = silent (with_error (failed reason) checks)
progressed settings id (DidFinish result) checks = ended settings id (error_of result) checks

-- a check ends by this
abbrev pub is_end : CheckProgress → Bool
is_end DidCancel = true
is_end (DidFinish result) = true
is_end other = false

abbrev pub ends_check : FlycheckMsg → Bool
ends_check (Progress id progress) = is_end progress
ends_check other = false

-- behind messages of which one ends a check the client is to ask anew for what is wrong in files
abbrev pub end_checks : List FlycheckMsg → Bool
end_checks messages = list_any ends_check messages

-- ---- which restart and are cancelled

abbrev pub ids_of : Checks → List ℕ
ids_of checks = map (λ (check : ℕ × List ℕ). check.0) checks.set

abbrev pub restart : ℕ × List ℕ → Telling
restart check = RestartCheck check.0 (Workspace None)

-- all restart, in order
abbrev pub all_restarted : Checks → List Telling
all_restarted checks = map restart checks.set

abbrev pub is_set : ℕ → Checks → Bool
is_set id checks = list_any (λ (check : ℕ × List ℕ). check.0 == id) checks.set

-- where one check runs for all workspaces, it restarts for a saved file, if it is set; else which do depends on the
-- crates that the file is of
abbrev pub file_restarted : ConfigData → List ℕ → Checks → Option (List Telling)
file_restarted settings path checks =
    if runs_once settings then Some (if is_set 0 checks then RestartCheck 0 (Workspace (Some path)) ∷ [] else [])
    else None

abbrev pub cancel : ℕ × List ℕ → Telling
cancel check = CancelCheck check.0

-- all are cancelled, in order
abbrev pub all_cancelled : Checks → List Telling
all_cancelled checks = map cancel checks.set

abbrev pub cancelled_by : Option ℕ → Checks → List Telling
cancelled_by None checks = []
cancelled_by (Some id) checks = if is_set id checks then CancelCheck id ∷ [] else []

-- the check is cancelled that is told under a token, if it is set
abbrev pub cancelled_at : List ℕ → Checks → List Telling
cancelled_at token checks = cancelled_by (id_in token) checks
