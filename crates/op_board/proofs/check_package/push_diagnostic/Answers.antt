use Rattle.std.proofs.Common.{◌++◌, ◌∷◌, [], ap, ◌∙◌}
use Rattle.std.specs.FinMap as map
use Rattle.op_board.specs.Checks.{listed}
use Rattle.op_board.proofs.Lending.{on_some}
use Rattle.op_board.proofs.check_package.push_diagnostic.Goals as goal

pub returns-in-Some : goal.returns-in-Some
returns-in-Some c =
    on_some c.get_mut.result c.in-Some.list c.in-Some.is (c.get_mut.follows.holds c.push.new.self)
    ∙ ap (map.insert c.args.lists.now c.args.file.0) (c.in_ok-push.ensures.ok ∙ ap (λ l. listed l ++ c.args.diagnostic ∷ []) c.in-Some.ensures.value)
