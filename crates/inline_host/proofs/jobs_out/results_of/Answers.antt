use Rattle.std.proofs.Common.{refl}
use Rattle.std.proofs.lemmas.List.{take_more}
use Rattle.inline_host.proofs.Rising.{finish_push}
use Rattle.inline_host.proofs.jobs_out.results_of.Goals as goal

pub loop-job-preserved : goal.loop-job-preserved
loop-job-preserved g c =
    let taken = take_more c.args.jobs.now c.loop-job.job-index c.job-item.result c.loop-job-test.true in
    rw c.in_ok-push.ensures.items (rw (taken, ← c.job-item.is)
    (finish_push g.A.Analysis.answer _ _ _ _ c.loop-job.invariant (record { number = refl; result = c.result_of.ensures.is; uncancelled = c.result_of.ensures.uncancelled; fits = c.result_of.ensures.fits; project = c.result_of.ensures.project })))
