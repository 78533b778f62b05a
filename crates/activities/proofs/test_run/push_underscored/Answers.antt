use Rattle.std.proofs.Common.{None, Some, arith, rules, lit<, append_assoc}
use Rattle.std.proofs.lemmas.Grind.{common_steps}
use Rattle.std.proofs.lemmas.Str.Pattern.{split_once_first}
use Rattle.activities.proofs.Underscores.{map-underscored_none, map-underscored_first}
use Rattle.activities.proofs.test_run.push_underscored.Goals as goal

pub loop-front-preserved : goal.loop-front-preserved
loop-front-preserved c =
    let parts = split_once_first 45 c.loop-front.rest.now (Some (c.in-Some.front, c.in-Some.back)) c.in-Some.ensures.cases (lit< tt) in
    let whole = map-underscored_first c.loop-front.rest.now parts.0 in
    let kept = c.loop-front.invariant.1 in
    (search rules, grind (arith, common_steps, append_assoc))

pub returns : goal.returns
returns c =
    let parts = split_once_first 45 c.loop-front.rest.now None c.in_default.ensures.cases (lit< tt) in
    let whole = map-underscored_none c.loop-front.rest.now parts in
    let kept = c.loop-front.invariant.1 in
    grind (arith, common_steps)
