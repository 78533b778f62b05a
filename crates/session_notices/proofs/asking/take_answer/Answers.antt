use Rattle.std.proofs.Common.{rules}
use Rattle.std.specs.Prelude.{Ok}
use Rattle.session_model.specs.ClientSteps.{answered}
use Rattle.session_store.proofs.AtClient.{client_meets}
use Rattle.session_notices.proofs.asking.take_answer.Goals as goal

pub returns : goal.returns
returns c =
    client_meets (λ w. Ok (answered c.args.response w)) c.complete.result c.args.store.now _ c.store.inside.client c.complete.new.self _
    _ (search rules) (search rules) c.complete.ensures
