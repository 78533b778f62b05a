use Rattle.std.proofs.Common.{rules}
use Rattle.session_model.specs.DeskSteps.{handed_over}
use Rattle.session_store.proofs.AtDesk.{desk_meets}
use Rattle.session_store.proofs.state.Store.hand_over_as.Goals as goal

pub returns : goal.returns
returns c =
    desk_meets (handed_over c.args.snapshot c.args.class c.args.kind) c.hand_over.result c.args.self.now _ c.self.inside.desk c.hand_over.new.self _ _
    (search rules) (search rules) c.hand_over.ensures
