use Rattle.std.proofs.Common.{◌∙◌, arith, rules, subst, sym}
use Rattle.inline_host.proofs.FirstPieces.{comes_as_end}
use Rattle.inline_host.proofs.inline_host.coming.Goals as goal
use Rattle.inline_host.specs.Coming.{Comes, source_before}

pub returns-then-end-eq0-clause-event : goal.returns-then-end-eq0-clause-event
returns-then-end-eq0-clause-event g c =
    subst (λ event. Comes g.A.Analysis.answer c.args.jobs.now.out c.args.orders.now c.args.source.now (source_before event c.next_end.new.self) event)
    (sym c.in_ok-recorded-2.ensures.event)
    (comes_as_end c.args.jobs.now.out c.args.orders.now c.next_end.new.self c.in_ok-end.end (search rules) (sym c.in_ok-event-2.ensures.event ∙ c.in_default.is) c.in_ok-end.ensures.end
    (omega arith))
