use Rattle.std.proofs.Common.{◌≡◌, ◌<◌, arith, ap, ◌∙◌}
use Rattle.std.specs.FinMap as map
use Rattle.session_port.specs.Record.{last_number, with_jobs}
use Rattle.inline_host.proofs.Rising.{AreRising-push, last_number-push, with_jobs-push}
use Rattle.inline_host.proofs.jobs_out.JobsOut.push.Goals as goal

pub invariant_of-self-2 : goal.invariant_of-self-2
invariant_of-self-2 c =
    let same : c.self.inside.last_job ≡ c.args.self.now.last_job = ap (λ j. j.last_job) c.self.view_is in
    let above : last_number 0 c.self.inside.jobs.items < c.args.job.number = omega (arith, c.self.invariant.1, c.requires, same) in
    rw c.in_ok-push.ensures.items (AreRising-push 0 _ _ c.self.invariant.0 above, omega (arith, last_number-push 0 c.self.inside.jobs.items c.args.job))

pub returns-clause-ok : goal.returns-clause-ok
returns-clause-ok c =
    let out : with_jobs c.push.new.self.items map.empty ≡ map.insert c.args.self.now.out c.args.job.number c.args.job =
    ap (λ jobs. with_jobs jobs map.empty) c.in_ok-push.ensures.items ∙ with_jobs-push c.self.inside.jobs.items c.args.job map.empty
    ∙ ap (λ out. map.insert out c.args.job.number c.args.job) (ap (λ j. j.out) c.self.view_is) in
    λ i. record { out = out i; last_job = c.args.job.number }
