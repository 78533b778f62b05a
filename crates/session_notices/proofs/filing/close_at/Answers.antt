use Rattle.std.proofs.Common.{rules}
use Rattle.std.specs.Prelude.{Ok}
use Rattle.session_model.specs.FilesSteps.{closed_document}
use Rattle.session_store.proofs.AtFiles.{files_meets}
use Rattle.session_notices.proofs.filing.close_at.Goals as goal

pub returns : goal.returns
returns c =
    files_meets (λ f. Ok (closed_document c.args.path f)) c.close.result c.args.store.now _ c.store.inside.files c.close.new.self _
    _ (search rules) (search rules) c.close.ensures
