-- A run of tests ends once, and waits for a program for each workspace.
use Rattle.std.proofs.Common.{◌≡◌, ℕ, ◌+◌, ◌-◌, Bool, true, false, List, [], ◌∷◌, ◌++◌, refl, ap, sym, ◌∙◌, ⊎_elim}
use Rattle.std.proofs.Common.{arith}
use Rattle.std.specs.Prelude.{cond, ◌==◌, Option}
use Rattle.std.specs.List.{count_by}
use Rattle.std.proofs.lemmas.Bool.{cond-true, cond-false, true≢false, eq-eqb}
use Rattle.std.proofs.lemmas.Bool.Decides.{eqb_tells}
use Rattle.session_port.specs.declared.news.TestOutput.{TestOutput}
use Rattle.session_port.specs.declared.news.TestOutput.TheVariants.{Test, Suite, Finished, Custom}
use Rattle.activities.specs.TestRun.{Tests, stops, aborted, run_asked, finished, report_of, test_id, output_told}
use Rattle.activities.specs.TestRuns.{TestAct, test_step, tests_after, starts_run, ends_run, ends_in, ends_program}
use Rattle.activities.specs.TestRuns.{stops_run, runs_started, runs_ended, running, programs_ended, StartsNone}
use Rattle.activities.specs.TestRuns.TestAct.{Runs, Aborts, Tells}
use Rattle.activities.specs.Announced.{Announced, telling}
use Rattle.activities.specs.declared.telling.Telling.{Telling}
use Rattle.activities.specs.declared.telling.Telling.TheVariants.{TestState as TestStateTold, EndRunTest, AppendOutput}
use Rattle.activities.specs.declared.telling.Telling.TheVariants.{RunTest}

-- one of two, of which each does
pub either : {A : Type 0} (P : A → Type 0) (b : Bool) (x y : A) → P x → P y → P (cond b x y)
either P true x y h k = h
either P false x y h k = k

-- what an act starts and ends, and what is in progress before and after it
abbrev Balances : Tests → Announced Tests → Type 0
Balances tests told = count_by starts_run told.tellings + running tests ≡ ends_in tests told.tellings + running
    told.state

abbrev tests_of : Bool → ℕ → Tests
tests_of active remaining = record { active = active; remaining = remaining }

balances_aborted : (active : Bool) (remaining : ℕ)
    → Balances (tests_of active remaining) (aborted (tests_of active remaining))
balances_aborted true remaining = refl
balances_aborted false remaining = refl

balances_started : (active : Bool) (remaining workspaces : ℕ) (included excluded : Option (List (List ℕ)))
    → Balances (tests_of active remaining) (telling
    (stops (tests_of active remaining) ++ RunTest included excluded ∷ []) (tests_of true workspaces))
balances_started true remaining workspaces included excluded = refl
balances_started false remaining workspaces included excluded = refl

balances_ended : (active : Bool) (remaining : ℕ)
    → Balances (tests_of active remaining) (telling (EndRunTest ∷ []) (tests_of false 0))
balances_ended true remaining = refl
balances_ended false remaining = refl

balances_other : (active : Bool) (remaining left : ℕ) (tellings : List Telling) → count_by starts_run tellings ≡ 0
    → count_by ends_run tellings ≡ 0
    → Balances (tests_of active remaining) (telling tellings (tests_of active left))
balances_other true remaining left tellings starts ends = omega (arith, starts, ends)
balances_other false remaining left tellings starts ends = omega (arith, starts, ends)

balances_heard : (target : List ℕ) (output : TestOutput) (tests : Tests)
    → Balances tests (output_told target output tests)
balances_heard target (Test name state) tests =
    balances_other tests.active tests.remaining
    tests.remaining (TestStateTold (report_of state) (test_id target name) ∷ []) refl refl
balances_heard target Suite tests = balances_other tests.active tests.remaining tests.remaining [] refl refl
balances_heard target Finished tests =
    either (Balances tests) (tests.remaining - 1 == 0) _ _ (balances_ended tests.active tests.remaining)
    (balances_other tests.active tests.remaining (tests.remaining - 1) [] refl refl)
balances_heard target (Custom text) tests =
    balances_other tests.active tests.remaining tests.remaining (AppendOutput text ∷ []) refl refl

balances : (act : TestAct) (tests : Tests) → Balances tests (test_step act tests)
balances (Runs included excluded workspaces) tests =
    either (Balances tests) (workspaces == 0) _ _ (balances_aborted tests.active tests.remaining)
    (balances_started tests.active tests.remaining workspaces included excluded)
balances Aborts tests = balances_aborted tests.active tests.remaining
balances (Tells message) tests = balances_heard message.target message.output tests

pub run_ends : (run : List TestAct) → runs_started run ≡ runs_ended run + running (tests_after run)
run_ends [] = refl
run_ends (act ∷ before) =
    let step = balances act (tests_after before) in
    let more = run_ends before in
    omega (arith, step, more)

-- ---- a host stops only a run in progress

abbrev StopsNone : Announced Tests → Type 0
StopsNone told = count_by stops_run told.tellings ≡ 0

stops_none : (active : Bool) (remaining : ℕ) → active ≡ false → stops (tests_of active remaining) ≡ []
stops_none true remaining idle = absurd (true≢false idle)
stops_none false remaining idle = refl

heard_stops : (target : List ℕ) (output : TestOutput) (tests : Tests) → StopsNone (output_told target output tests)
heard_stops target (Test name state) tests = refl
heard_stops target Suite tests = refl
heard_stops target Finished tests = either StopsNone (tests.remaining - 1 == 0) _ _ refl refl
heard_stops target (Custom text) tests = refl

pub run_stops : (act : TestAct) (tests : Tests) → tests.active ≡ false
    → count_by stops_run (test_step act tests).tellings ≡ 0
run_stops (Runs included excluded workspaces) tests idle =
    let none = stops_none tests.active tests.remaining idle in
    either StopsNone (workspaces == 0) _ _ (ap (count_by stops_run) none)
    (ap (λ before. count_by stops_run (before ++ RunTest included excluded ∷ [])) none)
run_stops Aborts tests idle = ap (count_by stops_run) (stops_none tests.active tests.remaining idle)
run_stops (Tells message) tests idle = heard_stops message.target message.output tests

-- ---- what remains

left_of : (left : ℕ) (tests : Tests) → (finished left tests).state.remaining ≡ left
left_of left tests =
    ⊎_elim
    (λ none. ap (λ (told : Announced Tests). told.state.remaining) (cond-true (left == 0) _ _ none.0) ∙ sym none.1)
    (λ some. ap (λ (told : Announced Tests). told.state.remaining) (cond-false (left == 0) _ _ some.0))
    (eqb_tells left 0)

one_more : (more : ℕ) → (more + 1 == 0) ≡ false
one_more more = ⊎_elim (λ none. absurd (omega (arith, none.1))) (λ some. some.0) (eqb_tells (more + 1) 0)

module _ (before : List TestAct) (included excluded : Option (List (List ℕ))) (more : ℕ) where
  abbrev since_start : List TestAct → Tests
  since_start since = tests_after (since ++ Runs included excluded (more + 1) ∷ before)

  heard_left : (target : List ℕ) (output : TestOutput) (tests : Tests) (ended : ℕ)
      → tests.remaining ≡ (more + 1) - ended
      → (output_told target output tests).state.remaining ≡ (more + 1) - (ends_program output + ended)
  heard_left target (Test name state) tests ended is = omega (arith, is)
  heard_left target Suite tests ended is = omega (arith, is)
  heard_left target Finished tests ended is = omega (arith, is, left_of (tests.remaining - 1) tests)
  heard_left target (Custom text) tests ended is = omega (arith, is)

  pub run_waits : (since : List TestAct) → StartsNone since
      → (since_start since).remaining ≡ (more + 1) - programs_ended since
  run_waits [] none =
      let started : (run_asked included excluded (more + 1) (tests_after before)).state.remaining ≡ more + 1 =
      ap (λ (told : Announced Tests). told.state.remaining) (cond-false (more + 1 == 0) _ _ (one_more more)) in
      omega (arith, started)
  run_waits (Runs i e n ∷ since) none =
      let kept : (run_asked i e n (since_start since)).state.remaining ≡ (since_start since).remaining =
      ap (λ (told : Announced Tests). told.state.remaining) (cond-true (n == 0) _ _ (eq-eqb n 0 none.0)) in
      kept ∙ run_waits since none.1
  run_waits (Aborts ∷ since) none = run_waits since none
  run_waits (Tells message ∷ since) none =
      heard_left message.target message.output (since_start since) (programs_ended since) (run_waits since none)
