use Rattle.std.proofs.Common.{◌++◌, ◌∷◌, [], take, None, sym, ap, ◌∙◌}
use Rattle.std.specs.List.{enumerate_from}
use Rattle.std.proofs.lemmas.List.{take_more, take_all}
use Rattle.docs_vfs.specs.Parents.{length_above, parent_above, better}
use Rattle.docs_vfs.proofs.Greatest.{best_is, better_is, length_both, none_above}
use Rattle.docs_vfs.proofs.source_roots.parent_in.Goals as goal

pub loop-include-init : goal.loop-include-init
loop-include-init c = λ roots x. best_is (length_above c.args.at []) (enumerate_from 0 roots) None (λ i root is. none_above c.args.at root)

pub loop-include-preserved : goal.loop-include-preserved
loop-include-preserved c = λ roots x.
    let at = c.args.at in
    let some = take c.loop-include.include-index c.args.includes.now in
    let item = c.include-item.result in
    c.better-best.ensures
    ∙ (λ i. better (c.loop-include.invariant roots x i) (c.parent_above.ensures roots x i))
    ∙ better_is (length_above at some) (length_above at (item ∷ [])) (length_above at (some ++ item ∷ [])) (enumerate_from 0 roots) (length_both at some (item ∷ []))
    ∙ ap (λ l. parent_above at l roots)
    (ap (λ y. some ++ y ∷ []) c.include-item.is ∙ sym (take_more c.args.includes.now c.loop-include.include-index item c.loop-include-test.true))

pub returns : goal.returns
returns c = λ roots x. c.loop-include.invariant roots x ∙ ap (λ l. parent_above c.args.at l roots) (take_all c.loop-include.include-index c.args.includes.now c.loop-include-test.false)
