use Rattle.std.proofs.Common.{◌∷◌, ◌++◌, ap, ◌∙◌}
use Rattle.docs_vfs.specs.Paths.{is_path}
use Rattle.docs_vfs.specs.Resolve.{front}
use Rattle.docs_vfs.proofs.FrontLemmas.{below_is_path}
use Rattle.docs_vfs.proofs.path.VfsPath.join.Goals as goal

pub from_string-requires : goal.from_string-requires
from_string-requires c =
    ap is_path (c.in_ok-push_segment.ensures ∙ ap (λ t. t ++ 47 ∷ c.args.segment.now) (c.in_ok-text.ensures.ok ∙ c.front_text.ensures ∙ ap front c.as_str.ensures.value))
    ∙ below_is_path c.args.self.now c.args.segment.now c.as_str.ensures.path c.requires
