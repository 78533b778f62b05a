use Rattle.std.proofs.Common.{ap}
use Rattle.inline_host.proofs.Rising.{all_results}
use Rattle.inline_host.proofs.jobs_out.JobsOut.results.Goals as goal

pub returns : goal.returns
returns g c =
    let finish = rw c.deref.ensures.value at c.in_ok-results_of.ensures in
    let all = all_results g.A.Analysis.answer c.self.inside.jobs.items c.args.self.now.out c.in_ok-results_of.field-0.items c.from_vec.result
    (ap (λ j. j.out) c.self.view_is) c.from_vec.ensures c.self.invariant.0 finish in
    record { honest = all.honest; all = all.all; numbers = all.numbers; uncancelled = all.uncancelled; project = all.project }
