use Rattle.std.proofs.Common.{[], ap, sym, subst, ◌∙◌}
use Rattle.std.specs.List.{AllZip}
use Rattle.std.proofs.lemmas.List.{append-nil, drop_all}
use Rattle.host_fakes.specs.Script.{FinishesAt, left_out, named}
use Rattle.host_fakes.proofs.Scripts.{continues_start, left_none}
use Rattle.host_fakes.proofs.script.results_at.Goals as goal

pub loop-number-init : goal.loop-number-init
loop-number-init g c =
    rw c.new-batch.ensures.items
    (continues_start g.A.Analysis.answer c.args.numbers.now c.args.out.now (left_out c.args.out.now c.new-done.result)
    (ap (left_out c.args.out.now) c.new-done.ensures ∙ left_none c.args.out.now))

pub returns : goal.returns
returns g c =
    let all = c.loop-number.invariant [] (subst (λ numbers. AllZip (FinishesAt g.A.Analysis.answer) (named numbers (left_out c.args.out.now c.loop-number.done)) [])
    (sym (drop_all c.loop-number.number-index c.args.numbers.now c.loop-number-test.false)) tt) in
    subst (λ batch. AllZip (FinishesAt g.A.Analysis.answer) (named c.args.numbers.now c.args.out.now) batch) (append-nil c.loop-number.batch.items) all
