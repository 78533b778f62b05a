use Rattle.std.proofs.Common.{rules}
use Rattle.session_model.specs.DeskSteps.{cancelled}
use Rattle.session_store.proofs.AtDesk.{desk_gives}
use Rattle.session_notices.proofs.notifications.on_cancel.Goals as goal

pub returns : goal.returns
returns c =
    desk_gives (cancelled c.args.id) c.args.store.now _ c.store.inside.desk c.cancel.new.self _ _ (search rules) (search rules) (search rules)
