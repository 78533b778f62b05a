use Rattle.std.proofs.Common.{rules}
use Rattle.session_model.specs.ClientProgress.{progress_reported}
use Rattle.session_store.proofs.AtClient.{client_meets}
use Rattle.session_store.proofs.state.Store.report_progress.Goals as goal

pub returns-clause-meets : goal.returns-clause-meets
returns-clause-meets c =
    client_meets (progress_reported c.args.work) c.report_progress.result c.args.self.now _ c.self.inside.client c.report_progress.new.self _ _
    (search rules) (search rules) c.report_progress.ensures
