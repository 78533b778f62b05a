-- Runs of the calls on checks: what they did, one act after another. A run has its last act first.
use Rattle.std.specs.Prelude.{◌≡◌, ◌≢◌, ℕ, ◌<◌, Bool, true, List, [], ◌∷◌, All, Option, None, Some, slice_get}
use Rattle.project_model.specs.declared.workspace.ProjectWorkspace.{ProjectWorkspace}
use Rattle.ra_config.specs.Config.{ConfigData}
use Rattle.session_port.specs.declared.news.CheckProgress.{CheckProgress}
use Rattle.session_port.specs.declared.news.CheckProgress.TheVariants.{DidStart}
use Rattle.activities.specs.Checks.{Checks, no_checks, is_checked, checks_set, progressed, all_restarted}
use Rattle.activities.specs.Checks.{file_restarted}
use Rattle.activities.specs.Checks.{all_cancelled, cancelled_at, is_set}
use Rattle.activities.specs.Announced.{Announced, telling}
use Rattle.activities.specs.declared.telling.Telling.{Telling}
use Rattle.activities.specs.declared.telling.Telling.TheVariants.{RestartCheck, CancelCheck}

pub data CheckAct : Type 0 where
  -- the checks of these workspaces are set
  Sets : ConfigData → List ProjectWorkspace → CheckAct
  -- a check says how far it is
  Progresses : ConfigData → ℕ → CheckProgress → CheckAct
  -- all restart
  RestartsAll : CheckAct
  -- a file was saved
  Saves : ConfigData → List ℕ → CheckAct
  -- all are cancelled
  CancelsAll : CheckAct
  -- the one that is told under this token is cancelled
  Cancels : List ℕ → CheckAct

abbrev pub those_of : Option (List Telling) → List Telling
those_of None = []
those_of (Some tellings) = tellings

-- what an act does
abbrev pub check_step : CheckAct → Checks → Announced Checks
check_step (Sets settings present) checks = checks_set settings present checks
check_step (Progresses settings id progress) checks = progressed settings id progress checks
check_step RestartsAll checks = telling (all_restarted checks) checks
check_step (Saves settings path) checks = telling (those_of (file_restarted settings path checks)) checks
check_step CancelsAll checks = telling (all_cancelled checks) checks
check_step (Cancels token) checks = telling (cancelled_at token checks) checks

abbrev pub checks_after : List CheckAct → Checks
checks_after [] = no_checks
checks_after (act ∷ before) = (check_step act (checks_after before)).state

-- each number is below all that follow
abbrev pub Rises : List ℕ → Type 0
Rises [] = Unit {0}
Rises (number ∷ more) = All (λ other. number < other) more × Rises more

-- the check is of the workspace at its place, and has that one's folder
pub record IsOfWorkspace (overridden : Bool) (present : List ProjectWorkspace) (check : ℕ × List ℕ) : Type 0 where
  pub workspace : ProjectWorkspace
  pub there : slice_get present check.0 ≡ Some workspace
  pub folder : check.1 ≡ workspace.root
  pub checked : is_checked overridden workspace.kind ≡ true

-- a check that restarts or is cancelled is set
abbrev pub IsOfSet : Checks → Telling → Type 0
IsOfSet checks (RestartCheck id scope) = is_set id checks ≡ true
IsOfSet checks (CancelCheck id) = is_set id checks ≡ true
IsOfSet checks other = Unit {0}

-- the act neither sets checks nor starts this one
abbrev pub GoesOn : ℕ → CheckAct → Type 0
GoesOn id (Sets settings present) = ⊥
GoesOn id (Progresses settings other (DidStart command)) = id ≢ other
GoesOn id other = Unit {0}
