use Rattle.std.proofs.Common.{◌≡◌, ◌++◌, map, ap, subst, ◌∙◌}
use Rattle.std.specs.List.Sorted.{IsPermutation}
use Rattle.text_core.specs.declared.change.TextEdit.{TextEdit}
use Rattle.text_core.specs.Edits.{own_range, ranges_of, is_chain, ChainTells}
use Rattle.text_core.proofs.EveryTwo.{chain_tells}
use Rattle.text_core.proofs.disjoint.all_edits_are_disjoint.Goals as goal

pub returns-clause-every_two : goal.returns-clause-every_two
returns-clause-every_two c = λ lawful forward.
    let listed : c.push_ranges-2.new.ranges.items ≡ ranges_of c.args.edit.now c.args.own.now c.args.more.now =
    c.in_ok-push_ranges-2.ensures ∙ ap (λ l. l ++ map (λ (e : TextEdit). e.range) c.args.more.now)
    (c.in_ok-push_ranges.ensures ∙ ap (λ l. l ++ map (λ (e : TextEdit). e.range) c.args.own.now)
    (c.in_ok-push_own_range.ensures ∙ ap (λ l. l ++ own_range c.args.edit.now) c.new-ranges.ensures.items)) in
    let tells : ChainTells (ranges_of c.args.edit.now c.args.own.now c.args.more.now) c.is_chain.result = record {
      sorted = c.sort_ranges.new.ranges.items;
      same = subst (λ l. IsPermutation l c.sort_ranges.new.ranges.items) listed c.sort_ranges.ensures.same;
      rises = c.sort_ranges.ensures.rises;
      chain = c.is_chain.ensures ∙ ap is_chain c.deref.ensures.value;
    } in
    chain_tells (ranges_of c.args.edit.now c.args.own.now c.args.more.now) c.is_chain.result tells forward
