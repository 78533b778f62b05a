use Rattle.docs_vfs.proofs.Ancestors.{above-parent, above-path}
use Rattle.docs_vfs.proofs.relative.parent_text.Goals as goal

pub returns-clause-value : goal.returns-clause-value
returns-clause-value c = above-parent c.folder_above.result c.args.path.now c.requires c.folder_above.ensures

pub returns-clause-path : goal.returns-clause-path
returns-clause-path c = above-path c.folder_above.result c.args.path.now c.folder_above.ensures
