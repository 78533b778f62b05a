use Rattle.std.proofs.Common.{length}
use denote.Shadow.{shadow}
use denote.Text.{Utf8}
use Rattle.docs_vfs.proofs.Climbs.{Climbs}
use Rattle.docs_vfs.proofs.source_roots.root_above.Given as goal

abbrev pub invariant-folders : goal.invariant-folders
invariant-folders l = Climbs l.roots l.path l.folder × shadow (Utf8 l.folder)

abbrev pub decreases-folders : goal.decreases-folders
decreases-folders l = length l.folder
