use Rattle.std.proofs.Common.{rules}
use Rattle.session_model.specs.FilesSteps.{processed}
use Rattle.session_store.proofs.AtFiles.{files_meets, roots_as}
use Rattle.session_notices.proofs.filing.take_up.Goals as goal

pub returns-clause-meets : goal.returns-clause-meets
returns-clause-meets c =
    files_meets (processed c.args.store.now.sources.roots) c.process.result c.args.store.now _ c.store.inside.files c.process.new.self _
    _ (search rules) (search rules)
    (roots_as processed c.process.result c.store.inside.roots c.args.store.now.sources.roots _ _ _ (search rules) c.process.ensures.meets)
