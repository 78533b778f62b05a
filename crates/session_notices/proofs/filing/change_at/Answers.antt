use Rattle.std.proofs.Common.{rules}
use Rattle.std.proofs.lemmas.Int.{to_z-of_z}
use Rattle.session_model.specs.FilesSteps.{changed_document}
use Rattle.session_model.specs.State.{columns_in}
use Rattle.session_store.proofs.AtFiles.{changed_as, files_meets}
use Rattle.session_notices.proofs.filing.change_at.Goals as goal

pub returns : goal.returns
returns c =
    files_meets (changed_document (columns_in c.args.store.now.client.settings) c.args.path c.args.version c.args.changes) c.change.result c.args.store.now _
    c.store.inside.files c.change.new.self _ _
    (search rules) (search rules) (changed_as _ _ _ _ _ _ _ _ _ _ (search rules) (to_z-of_z _ _ c.ranges.version) c.change.ensures)
