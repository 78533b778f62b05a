use Rattle.std.proofs.Common.{take}
use Rattle.std.specs.List.{concat}
use Rattle.sha1.specs.Sha1.{Holds}
use Rattle.session_generate.proofs.output.output_hash.Given as goal

abbrev pub invariant-loop-turn : goal.invariant-loop-turn
invariant-loop-turn l = Holds l.hasher (concat (take l.turn-index l.turns))
