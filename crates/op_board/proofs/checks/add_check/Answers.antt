use Rattle.std.proofs.Common.{ap, ◌∙◌}
use Rattle.std.specs.FinMap as map
use Rattle.op_board.specs.Checks.{packages_or_none, add_in}
use Rattle.op_board.proofs.Lending.{on_some, on_ok}
use Rattle.op_board.proofs.checks.add_check.Goals as goal

pub returns-in-Some : goal.returns-in-Some
returns-in-Some c =
    on_ok c.add_in.result (λ added.
    let whole = added ∙ ap (λ o. add_in c.args.generation c.args.name c.args.entry (packages_or_none o, c.args.marks.now)) c.in-Some.ensures.value in
    let map_is =
    on_some c.get_mut.result c.in-Some.packages c.in-Some.is (c.get_mut.follows.holds c.add_in.new.packages)
    ∙ ap (λ t. map.insert c.args.checks.now c.args.id t.0) whole in
    λ i. (map_is i, (whole i).1)) c.add_in.ensures
