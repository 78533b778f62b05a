use Rattle.std.proofs.Common.{◌∙◌}
use Rattle.docs_vfs.specs.Paths.{begins_with_folder}
use Rattle.docs_vfs.proofs.WithinLemmas.{begins_with_folder-is_within}
use Rattle.docs_vfs.proofs.path.VfsPath.starts_with.Goals as goal

pub returns : goal.returns
returns c =
    c.begins_with_folder_text.ensures
    ∙ (λ i. begins_with_folder (c.as_str-2.ensures.value i) (c.as_str.ensures.value i))
    ∙ begins_with_folder-is_within c.args.base.now c.args.self.now c.as_str-2.ensures.path c.as_str.ensures.path
