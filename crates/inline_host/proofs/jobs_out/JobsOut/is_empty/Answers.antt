use Rattle.std.proofs.Common.{◌≡◌, ap, sym, ◌∙◌, arith, length}
use Rattle.std.specs.FinMap as map
use Rattle.std.proofs.lemmas.Grind.{common_steps}
use Rattle.std.proofs.lemmas.List.{nil_from_length}
use Rattle.session_port.specs.Record.{with_jobs}
use Rattle.inline_host.proofs.Rising.{none_out}
use Rattle.inline_host.proofs.jobs_out.JobsOut.is_empty.Goals as goal

pub returns : goal.returns
returns c =
    let out = ap (λ j. j.out) c.self.view_is in (
      λ empty. let none : length c.self.inside.jobs.items ≡ 0 = grind (arith, common_steps) in
          sym out ∙ ap (λ jobs. with_jobs jobs map.empty) (nil_from_length c.self.inside.jobs.items none),
      λ is. let none : length c.self.inside.jobs.items ≡ 0 = none_out c.self.inside.jobs.items c.self.invariant.0 (out ∙ is) in grind (arith, common_steps),
    )
