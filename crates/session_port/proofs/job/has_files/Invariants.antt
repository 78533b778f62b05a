use Rattle.std.proofs.Common.{◌≡◌, drop}
use Rattle.session_port.specs.Jobs.{has_files}
use Rattle.session_port.proofs.job.has_files.Given as goal

abbrev pub invariant-loop-list : goal.invariant-loop-list
invariant-loop-list l = has_files l.remaining (drop l.list-index l.lists) ≡ has_files l.files l.lists
