use Rattle.std.proofs.Common.{rules}
use Rattle.session_model.specs.ClientSteps.{asked_for}
use Rattle.session_store.proofs.AtClient.{client_meets}
use Rattle.session_store.proofs.state.Store.send_request.Goals as goal

pub returns-clause-meets : goal.returns-clause-meets
returns-clause-meets c =
    client_meets (asked_for c.args.message c.args.then) c.ask.result c.args.self.now _ c.self.inside.client c.ask.new.self _ _ (search rules) (search rules)
    c.ask.ensures
