use Rattle.std.proofs.Common.{rules, refl, subst}
use Rattle.session_port.specs.declared.event.TaskBody.TheVariants.{Final}
use Rattle.task_pool.specs.Threaded.{IsOneResult, ThreadedData}
use Rattle.task_pool.proofs.host.ThreadedHost.finish_job.Goals as goal

pub returns-clause-result : goal.returns-clause-result
returns-clause-result g c =
    let end = c.in-Some.ensures.end in (
      c.push.new.self,
      refl,
      subst (λ (d : ThreadedData). IsOneResult g.A.Analysis.answer d.out d.revision c.push.new.self) c.self.view_is
          (record {
            message = record { job = c.args.number; body = Final c.in-Some.result };
            one = search rules;
            job = end.job;
            is_out = end.is_out;
            is = end.is;
            fits = end.fits;
            saw = end.saw;
          }),
    )
