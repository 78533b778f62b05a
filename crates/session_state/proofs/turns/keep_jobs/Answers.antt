use Rattle.std.proofs.Common.{rules}
use Rattle.std.specs.Prelude.{Ok}
use Rattle.session_model.specs.DeskSteps.{jobs_kept as kept_at_desk}
use Rattle.session_model.specs.Machine.{desk_kept}
use Rattle.session_store.proofs.AtDesk.{desk_meets}
use Rattle.session_state.proofs.turns.keep_jobs.Goals as goal

pub returns : goal.returns
unfolding desk_kept
returns c =
    desk_meets (λ d. Ok (kept_at_desk c.args.before d)) c.keep_jobs.result c.args.store.now _ c.store.inside.desk c.keep_jobs.new.self _
    _ (search rules) (search rules) c.keep_jobs.ensures
