use Rattle.std.proofs.Common.{ap, ◌∙◌}
use Rattle.std.specs.FinMap as map
use Rattle.op_board.specs.Checks.{package_or_new, add_to}
use Rattle.op_board.proofs.Lending.{on_some, on_ok}
use Rattle.op_board.proofs.checks.add_in.Goals as goal

pub returns-in-Some : goal.returns-in-Some
returns-in-Some c =
    on_ok c.add_to.result (λ added.
    let whole = added ∙ ap (λ o. add_to c.args.generation c.args.entry (package_or_new c.args.generation o, c.args.marks.now)) c.in-Some.ensures.value in
    let map_is =
    on_some c.get_mut.result c.in-Some.row c.in-Some.is (c.get_mut.follows.holds c.add_to.new.row)
    ∙ ap (λ t. map.insert c.args.packages.now c.args.name t.0) whole in
    λ i. (map_is i, (whole i).1)) c.add_to.ensures
