use Rattle.std.proofs.Common.{◌≡◌, ◌++◌, map, length}
use denote.Text.{Utf8}
use denote.Shadow.{shadow}
use Rattle.activities.specs.TestRun.{underscored}
use Rattle.activities.proofs.test_run.push_underscored.Given as goal

abbrev pub invariant-loop-front : goal.invariant-loop-front
invariant-loop-front l = shadow (Utf8 l.rest) × (l.text ++ map underscored l.rest ≡ l.initial.text ++ map underscored l.more)

abbrev pub decreases-loop-front : goal.decreases-loop-front
decreases-loop-front l = length l.rest
