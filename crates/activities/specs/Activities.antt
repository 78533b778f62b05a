-- What a session keeps of the work that its host does beside its jobs.
use Rattle.std.specs.Prelude.{ℕ}
use Rattle.activities.specs.Checks.{no_checks}
use Rattle.activities.specs.Discovery.{no_discovery_at}
use Rattle.activities.specs.Priming.{no_priming}
use Rattle.activities.specs.TestRun.{no_tests}
use Rattle.activities.specs.declared.activities.Activities.{Activities}

-- nothing goes on, and so many discoveries were ordered before
abbrev pub no_activities_at : ℕ → Activities
no_activities_at discoveries = record {
  checks = no_checks;
  tests = no_tests;
  discovery = no_discovery_at discoveries;
  priming = no_priming;
}
