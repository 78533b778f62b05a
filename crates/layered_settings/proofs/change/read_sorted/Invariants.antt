use Rattle.std.proofs.Common.{◌≡◌, ◌++◌, drop}
use Rattle.std.specs.FinMap as finmap
use Rattle.layered_settings.specs.Change.{held, over, put_files, tell_files}
use Rattle.layered_settings.proofs.change.read_sorted.Given as goal

abbrev pub invariant-loop-change : goal.invariant-loop-change
invariant-loop-change l = record {
  files : put_files l.source l.root_path (held l.done (drop l.change-index l.changes)) l.files ≡ put_files l.source l.root_path (held finmap.empty l.changes) l.before;
  errors : l.errors ++ tell_files l.source l.root_path (held l.done (drop l.change-index l.changes)) ≡ tell_files l.source l.root_path (held finmap.empty l.changes);
  passed : l.passed_over ++ over l.done (drop l.change-index l.changes) ≡ over finmap.empty l.changes;
}
