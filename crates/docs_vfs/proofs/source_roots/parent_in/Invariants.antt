use Rattle.std.proofs.Common.{◌≡◌, List, true, take}
use Rattle.docs_vfs.specs.declared.source_roots.Root.{Root}
use Rattle.docs_vfs.specs.Includes.{IsIndex}
use Rattle.docs_vfs.specs.Parents.{parent_above}
use Rattle.docs_vfs.proofs.source_roots.parent_in.Given as goal

abbrev pub invariant-loop-include : goal.invariant-loop-include
invariant-loop-include l = (roots : List Root) → IsIndex true roots l.index → l.best ≡ parent_above l.at (take l.include-index l.includes) roots
