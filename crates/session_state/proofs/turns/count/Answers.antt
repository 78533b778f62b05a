use Rattle.std.proofs.Common.{rules}
use Rattle.session_model.specs.DeskSteps.{counted as counted_at_desk}
use Rattle.session_model.specs.Machine.{turn_counted}
use Rattle.session_store.proofs.AtDesk.{desk_meets}
use Rattle.session_state.proofs.turns.count.Goals as goal

pub returns-clause-meets : goal.returns-clause-meets
unfolding turn_counted
returns-clause-meets c =
    desk_meets counted_at_desk c.count.result c.args.store.now _ c.store.inside.desk c.count.new.self _ _ (search rules) (search rules) c.count.ensures.meets
