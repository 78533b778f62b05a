use Rattle.std.proofs.Common.{List, Option, ◌++◌, length}
use Rattle.docs_vfs.specs.declared.file_kinds.FileId.{FileId}
use Rattle.reload.specs.Asked.{Asked}
use Rattle.reload.proofs.ask.ask_each.Given as goal

-- what is answered to the rest is answered behind the answers so far
abbrev pub invariant-loop-root : goal.invariant-loop-root
invariant-loop-root g l =
    goal.F-IsAlwaysCallable g l.load
    × ((more : List (Option FileId)) (last : _) → Asked g.F.FnMut l.load l.rest more last → Asked g.F.FnMut l.fn.load l.fn.roots (l.files ++ more) last)

abbrev pub decreases-loop-root : goal.decreases-loop-root
decreases-loop-root g l = length l.rest
