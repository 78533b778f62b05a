use Rattle.std.proofs.Common.{◌≡◌, List, true, length}
use denote.Shadow.{shadow}
use denote.Text.{Utf8}
use Rattle.docs_vfs.specs.declared.source_roots.Root.{Root}
use Rattle.docs_vfs.specs.Paths.{is_path}
use Rattle.docs_vfs.specs.Includes.{IsIndex}
use Rattle.docs_vfs.proofs.Rises.{Rises}
use Rattle.docs_vfs.proofs.source_roots.parent_above.Given as goal

abbrev pub invariant-folders : goal.invariant-folders
invariant-folders l = ((roots : List Root) → IsIndex true roots l.index → Rises l.at roots l.include l.folder) × (is_path l.folder ≡ true) × shadow (Utf8 l.folder)

abbrev pub decreases-folders : goal.decreases-folders
decreases-folders l = length l.folder
