use Rattle.std.proofs.Common.{◌≡◌, ◌++◌, drop, filter}
use Rattle.analysis_host.specs.SnapshotFiles.{file_exists}
use Rattle.session_renewal.proofs.checking.existing.Given as goal

abbrev pub invariant-loop-file : goal.invariant-loop-file
invariant-loop-file l = l.list ++ filter (file_exists l.snapshot) (drop l.file-index l.files) ≡ filter (file_exists l.snapshot) l.files
