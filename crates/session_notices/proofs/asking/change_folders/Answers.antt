use Rattle.std.proofs.Common.{rules}
use Rattle.std.specs.Prelude.{Ok}
use Rattle.session_model.specs.ClientSteps.{folders_changed}
use Rattle.session_store.proofs.AtClient.{client_meets}
use Rattle.session_notices.proofs.asking.change_folders.Goals as goal

pub returns : goal.returns
returns c =
    client_meets (λ w. Ok (folders_changed c.args.added c.args.removed w)) c.change_folders.result c.args.store.now _ c.store.inside.client
    c.change_folders.new.self _ _
    (search rules) (search rules) c.change_folders.ensures
