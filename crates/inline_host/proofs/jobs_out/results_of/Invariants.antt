use Rattle.std.proofs.Common.{take}
use Rattle.std.specs.List.{AllZip}
use Rattle.inline_host.specs.Results.{Finishes}
use Rattle.inline_host.proofs.jobs_out.results_of.Given as goal

abbrev pub invariant-loop-job : goal.invariant-loop-job
invariant-loop-job g l = AllZip (Finishes g.A.Analysis.answer) (take l.job-index l.jobs) l.batch.items
