use Rattle.std.proofs.Common.{◌≡◌, ◌+◌, List, ℕ, [], ◌∷◌, length, subst, ap, ◌∙◌, arith, length-append}
use Rattle.check_restarts.specs.Walk.{Reached, WentOn}
use Rattle.check_restarts.proofs.WalkLaws.{went_nowhere, went_on}
use Rattle.check_restarts.proofs.walk.spread.Goals as goal

pub loop-number-init : goal.loop-number-init
loop-number-init c = went_nowhere c.args.rows.now c.args.marks.now c.args.waiting.now

pub loop-number-preserved : goal.loop-number-preserved
loop-number-preserved c =
    let at = c.loop-number in
    let new = c.mark_each.new in
    let step = subst (λ (row : List ℕ). Reached row at.marks c.pop.new.self new.marks new.waiting) c.row_at.ensures c.in_ok-mark_each.ensures in
    went_on c.args.rows.now c.args.marks.now c.args.waiting.now at.marks at.waiting c.pop.new.self c.in-Some.number new.marks new.waiting
    at.invariant c.in-Some.ensures.last step

pub loop-number-smaller : goal.loop-number-smaller
loop-number-smaller c =
    let left = c.pop.new.self in
    let popped : length c.loop-number.waiting ≡ length left + 1 = ap length c.in-Some.ensures.last ∙ length-append left (c.in-Some.number ∷ []) in
    let step = c.in_ok-mark_each.ensures.work in
    omega (arith, popped, step)

pub returns : goal.returns
returns c =
    let at = c.loop-number in
    subst (λ (w : List ℕ). WentOn c.args.rows.now c.args.marks.now c.args.waiting.now at.marks w) c.in_default.ensures.none at.invariant
