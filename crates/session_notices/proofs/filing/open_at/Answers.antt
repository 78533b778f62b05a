use Rattle.std.proofs.Common.{rules}
use Rattle.std.proofs.lemmas.Int.{to_z-of_z}
use Rattle.session_model.specs.FilesSteps.{opened_document}
use Rattle.session_model.specs.State.{excludes_in}
use Rattle.session_store.proofs.AtFiles.{files_meets, opened_as}
use Rattle.session_notices.proofs.filing.open_at.Goals as goal

pub returns : goal.returns
returns c =
    files_meets (opened_document (excludes_in c.args.store.now.client.settings) c.args.path c.args.version c.args.text) c.open.result c.args.store.now _
    c.store.inside.files c.open.new.self _ _
    (search rules) (search rules) (opened_as _ _ _ _ _ _ _ _ _ _ (search rules) (to_z-of_z _ _ c.ranges.version) c.open.ensures)
