use Rattle.std.proofs.Common.{rules}
use Rattle.session_model.specs.FilesSteps.{loaded}
use Rattle.session_store.proofs.AtFiles.{files_meets}
use Rattle.session_notices.proofs.filing.load.Goals as goal

pub returns : goal.returns
returns c = files_meets (loaded c.args.messages) c.load.result c.args.store.now _ c.store.inside.files c.load.new.self _ _ (search rules) (search rules)
    c.load.ensures
