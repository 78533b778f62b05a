use Rattle.std.proofs.Common.{◌+◌, List, get_or, rules, arith}
use Rattle.std.proofs.lemmas.Fn.{always_returns_same}
use Rattle.text_core.specs.declared.position.Range.{Range}
use Rattle.text_core.proofs.EditLemmas.{order_of, sorted_from}
use Rattle.text_core.proofs.disjoint.sort_ranges.Goals as goal

pub returns-clause-rises : goal.returns-clause-rises
returns-clause-rises c =
    let sorted = c.sort_unstable_by_key.ensures.sorted (λ (r : Range). (r.start, r.end)) (always_returns_same _ _ _ (λ a r f h. search rules)) in
    let xs : List Range = c.sort_unstable_by_key.new.self.items in
    sorted_from xs (λ k d lt. order_of (get_or xs k d) (get_or xs (k + 1) d) (sorted k d (omega arith) lt))
