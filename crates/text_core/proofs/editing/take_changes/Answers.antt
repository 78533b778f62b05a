use Rattle.std.proofs.Common.{ap, sym, ◌∙◌, arith}
use Rattle.text_core.specs.Rebuilds.{Progress}
use Rattle.text_core.specs.IndexInvariant.{progress}
use Rattle.text_core.proofs.FoldLemmas.{fold_more, fold_step}
use Rattle.text_core.proofs.editing.take_changes.Goals as goal

pub returns-in_err-take_change-clause-most : goal.returns-in_err-take_change-clause-most
returns-in_err-take_change-clause-most g c =
    let rises = fold_more c.args.encoding c.args.limit (progress c.loop-change.draft c.loop-change.steps) c.args.changes.now c.loop-change.change-index c.change-item.result c.loop-change-test.true (sym c.change-item.is) c.requires.ranged in
    let all = ap (λ (p : Progress). p.rebuilds) c.loop-change.invariant.so_far in
    omega (arith, rises, c.in_err-take_change.ensures.most, all)

pub loop-change-preserved : goal.loop-change-preserved
loop-change-preserved g c = record {
  kept = c.in_ok-take_change.ensures.kept;
  size = c.in_ok-take_change.ensures.size;
  so_far =
      fold_step c.args.encoding c.args.limit (progress c.loop-change.draft c.loop-change.steps) _ c.args.changes.now c.loop-change.change-index c.change-item.result c.loop-change-test.true
      (sym c.change-item.is) c.in_ok-take_change.ensures.progress
      ∙ c.loop-change.invariant.so_far;
  least = omega arith;
  from = λ before from. c.in_ok-take_change.ensures.from before (c.loop-change.invariant.from before from);
}
