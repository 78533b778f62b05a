use Rattle.std.proofs.Common.{◌≡◌, ◌+◌, ◌-◌, sym, ◌∙◌, ap, arith, drop, ◌&&◌}
use Rattle.text_core.specs.Edits.{is_chain}
use Rattle.text_core.proofs.EditLemmas.{chain_step, chain_last, no_range}
use Rattle.text_core.proofs.disjoint.is_chain.Goals as goal

pub loop-i-preserved : goal.loop-i-preserved
loop-i-preserved c =
    let xs = c.args.ranges.now in
    let step = chain_step xs c.loop-i.i no_range c.loop-i.invariant.0 c.loop-i-test.true in
    let here : c.loop-i.i + 1 - 1 ≡ c.loop-i.i = omega arith in (
      omega arith,
      c.loop-i.invariant.1 ∙ step ∙ ap (λ b. b && is_chain (drop c.loop-i.i xs)) (sym c.if-not-is_at_most.ensures) ∙ ap (λ n. is_chain (drop n xs)) (sym here),
    )

pub returns-then-not-is_at_most : goal.returns-then-not-is_at_most
returns-then-not-is_at_most c =
    let xs = c.args.ranges.now in
    let step = chain_step xs c.loop-i.i no_range c.loop-i.invariant.0 c.loop-i-test.true in
    sym (c.loop-i.invariant.1 ∙ step ∙ ap (λ b. b && is_chain (drop c.loop-i.i xs)) (sym c.if-not-is_at_most.ensures))

pub returns : goal.returns
returns c = sym (c.loop-i.invariant.1 ∙ chain_last c.args.ranges.now c.loop-i.i c.loop-i.invariant.0 c.loop-i-test.false)
