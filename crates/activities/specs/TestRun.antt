-- The run of tests: how it starts and ends, and what is told of it.
use Rattle.std.specs.Prelude.{ℕ, ◌-◌, ◌==◌, Bool, true, false, List, [], ◌∷◌, ◌++◌, map, codes, Option, if◌then◌else◌}
use Rattle.notify.specs.declared.outgo.TestReport.{TestReport}
use Rattle.notify.specs.declared.outgo.TestReport.TheVariants as report
use Rattle.session_port.specs.declared.news.TestMsg.{TestMsg}
use Rattle.session_port.specs.declared.news.TestOutput.{TestOutput}
use Rattle.session_port.specs.declared.news.TestOutput.TheVariants.{Test, Suite, Finished, Custom}
use Rattle.session_port.specs.declared.news.TestState.{TestState}
use Rattle.session_port.specs.declared.news.TestState.TheVariants as state
use Rattle.activities.specs.Announced.{Announced, telling, silent}
use Rattle.activities.specs.declared.telling.Telling.{Telling}
use Rattle.activities.specs.declared.telling.Telling.TheVariants.{TestState as TestStateTold, EndRunTest, AppendOutput}
use Rattle.activities.specs.declared.telling.Telling.TheVariants.{RunTest, StopTest}

pub record Tests : Type 0 where
  -- a run is in progress
  pub active : Bool
  -- how many of the programs of the last run have not ended
  pub remaining : ℕ

abbrev pub no_tests : Tests
no_tests = record { active = false; remaining = 0 }

-- ---- its start and its end

-- the host is to stop a run that is in progress, and the client is told
abbrev pub stops : Tests → List Telling
stops tests = if tests.active then EndRunTest ∷ StopTest ∷ [] else []

abbrev pub aborted : Tests → Announced Tests
aborted tests = telling (stops tests) (record tests { active = false })

-- a run that is asked for ends the one before, and begins where there are so many workspaces, a program for each
abbrev pub run_asked : Option (List (List ℕ)) → Option (List (List ℕ)) → ℕ → Tests → Announced Tests
run_asked included excluded workspaces tests =
    if workspaces == 0 then aborted tests
    else telling (stops tests ++ RunTest included excluded ∷ []) (record { active = true; remaining = workspaces })

-- a program has ended; with the last one the run ends
abbrev pub finished : ℕ → Tests → Announced Tests
finished left tests =
    if left == 0 then telling (EndRunTest ∷ []) (record { active = false; remaining = 0 })
    else silent (record tests { remaining = left })

-- ---- what is told of tests

abbrev pub report_of : TestState → TestReport
report_of state.Started = report.Started
report_of state.Ignored = report.Skipped
report_of state.Ok = report.Passed
report_of (state.Failed stdout) = report.Failed stdout

-- `_` in the place of `-`
abbrev pub underscored : ℕ → ℕ
underscored code = if code == 45 then 95 else code

-- a test is named by its target, as a name of Rust, and its own name
abbrev pub test_id : List ℕ → List ℕ → List ℕ
test_id target name = map underscored target ++ (codes "::" ++ name)

abbrev pub output_told : List ℕ → TestOutput → Tests → Announced Tests
output_told target (Test name state) tests = telling (TestStateTold (report_of state) (test_id target name) ∷ []) tests
output_told target Suite tests = silent tests
output_told target Finished tests = finished (tests.remaining - 1) tests
output_told target (Custom text) tests = telling (AppendOutput text ∷ []) tests

-- a message of the run
abbrev pub test_told : TestMsg → Tests → Announced Tests
test_told message tests = output_told message.target message.output tests
