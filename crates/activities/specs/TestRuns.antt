-- Runs of the calls on the run of tests: what they did, one act after another. A run has its last act first.
use Rattle.std.specs.Prelude.{◌≡◌, ℕ, ◌+◌, Bool, true, false, List, [], ◌∷◌, Option, if◌then◌else◌}
use Rattle.std.specs.List.{count_by}
use Rattle.session_port.specs.declared.news.TestMsg.{TestMsg}
use Rattle.session_port.specs.declared.news.TestOutput.{TestOutput}
use Rattle.session_port.specs.declared.news.TestOutput.TheVariants.{Finished}
use Rattle.activities.specs.TestRun.{Tests, no_tests, aborted, run_asked, test_told}
use Rattle.activities.specs.Announced.{Announced}
use Rattle.activities.specs.declared.telling.Telling.{Telling}
use Rattle.activities.specs.declared.telling.Telling.TheVariants.{EndRunTest, RunTest, StopTest}

pub data TestAct : Type 0 where
  -- a run is asked for, of these tests without those, in so many workspaces
  Runs : Option (List (List ℕ)) → Option (List (List ℕ)) → ℕ → TestAct
  Aborts : TestAct
  Tells : TestMsg → TestAct

-- what an act does
abbrev pub test_step : TestAct → Tests → Announced Tests
test_step (Runs included excluded workspaces) tests = run_asked included excluded workspaces tests
test_step Aborts tests = aborted tests
test_step (Tells message) tests = test_told message tests

abbrev pub tests_after : List TestAct → Tests
tests_after [] = no_tests
tests_after (act ∷ before) = (test_step act (tests_after before)).state

abbrev pub starts_run : Telling → Bool
starts_run (RunTest included excluded) = true
starts_run other = false

abbrev pub ends_run : Telling → Bool
ends_run EndRunTest = true
ends_run other = false

abbrev pub stops_run : Telling → Bool
stops_run StopTest = true
stops_run other = false

-- how many runs were ordered
abbrev pub runs_started : List TestAct → ℕ
runs_started [] = 0
runs_started (act ∷ before) = count_by starts_run (test_step act (tests_after before)).tellings + runs_started before

-- the ends that an act tells while a run is in progress
abbrev pub ends_in : Tests → List Telling → ℕ
ends_in tests tellings = if tests.active then count_by ends_run tellings else 0

-- how often the client was told the end of a run that was in progress
abbrev pub runs_ended : List TestAct → ℕ
runs_ended [] = 0
runs_ended (act ∷ before) = ends_in (tests_after before) (test_step act (tests_after before)).tellings + runs_ended
    before

-- how many runs are in progress: none or one
abbrev pub running : Tests → ℕ
running tests = if tests.active then 1 else 0

abbrev pub ends_program : TestOutput → ℕ
ends_program Finished = 1
ends_program other = 0

-- how many programs have ended
abbrev pub programs_ended : List TestAct → ℕ
programs_ended [] = 0
programs_ended (Tells message ∷ before) = ends_program message.output + programs_ended before
programs_ended (act ∷ before) = programs_ended before

-- no run begins, since none is asked for where there is a workspace
abbrev pub StartsNone : List TestAct → Type 0
StartsNone [] = Unit {0}
StartsNone (Runs included excluded workspaces ∷ before) = (workspaces ≡ 0) × StartsNone before
StartsNone (act ∷ before) = StartsNone before
