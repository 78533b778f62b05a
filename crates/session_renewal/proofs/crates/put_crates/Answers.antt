use Rattle.std.proofs.Common.{List, rules}
use Rattle.docs_vfs.specs.declared.source_roots.Root.{Root}
use Rattle.session_model.specs.FilesSteps.{crates_put}
use Rattle.session_store.proofs.AtFiles.{files_meets, roots_as}
use Rattle.session_renewal.proofs.crates.put_crates.Goals as goal

pub returns : goal.returns
returns c =
    files_meets (crates_put c.args.store.now.sources.roots c.args.crates) c.put_crates.result c.args.store.now _ c.store.inside.files c.put_crates.new.self _
    _ (search rules) (search rules)
    (roots_as (λ (roots : List Root). crates_put roots c.args.crates) c.put_crates.result c.store.inside.roots c.args.store.now.sources.roots _ _
    _ (search rules) c.put_crates.ensures)
