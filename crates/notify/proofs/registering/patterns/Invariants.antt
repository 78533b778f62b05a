use Rattle.std.proofs.Common.{◌≡◌, take}
use Rattle.notify.specs.Registering.{patterns}
use Rattle.notify.proofs.registering.patterns.Given as goal

abbrev pub invariant-loop-file : goal.invariant-loop-file
invariant-loop-file l = l.patterns ≡ patterns (take l.file-index l.files)
