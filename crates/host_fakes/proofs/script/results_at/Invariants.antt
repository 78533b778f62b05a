use Rattle.std.proofs.Common.{drop}
use Rattle.host_fakes.specs.Script.{left_out}
use Rattle.host_fakes.proofs.Scripts.{Continues}
use Rattle.host_fakes.proofs.script.results_at.Given as goal

abbrev pub invariant-loop-number : goal.invariant-loop-number
invariant-loop-number g l = Continues g.A.Analysis.answer l.numbers l.out l.batch.items (drop l.number-index l.numbers) (left_out l.out l.done)
