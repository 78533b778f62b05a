use Rattle.std.proofs.Common.{◌≡◌, ◌++◌, drop}
use Rattle.activities.specs.CheckNames.{spaced}
use Rattle.activities.proofs.check_names.push_spaced.Given as goal

abbrev pub invariant-loop-word : goal.invariant-loop-word
invariant-loop-word l = l.text ++ spaced (drop l.word-index l.words) ≡ l.initial.text ++ spaced l.words
