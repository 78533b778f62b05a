use Rattle.std.proofs.Common.{◌≡◌, ◌++◌, drop, map}
use Rattle.session_port.specs.Asking.{about}
use Rattle.session_port.proofs.asking.about_each.Given as goal

abbrev pub invariant-loop-file : goal.invariant-loop-file
invariant-loop-file l = l.asks ++ map (about l.question) (drop l.file-index l.files) ≡ map (about l.question) l.files
