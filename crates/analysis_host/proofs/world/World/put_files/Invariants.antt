use Rattle.std.proofs.Common.{◌≡◌, ℕ, ◌+◌, ◌≤◌, length}
use Rattle.std.specs.Vec.Iter.{into_iter_items}
use Rattle.std.specs.FinMap as map
use Rattle.analysis_host.specs.HostData.{with_files}
use Rattle.analysis_host.specs.Costs.{AreQuick}
use Rattle.analysis_host.proofs.world.World.put_files.Given as goal

abbrev pub invariant-loop-file : goal.invariant-loop-file
invariant-loop-file g l = record {
  same : with_files (into_iter_items l.file-iterator) l.texts ≡ with_files l.fn.files l.fn.self.texts;
  done : ℕ;
  of_all : done + length (into_iter_items l.file-iterator) ≡ length l.fn.files;
  grown : map.len l.texts ≤ map.len l.fn.self.texts + done;
  quick : AreQuick done (map.len l.fn.self.texts + length l.fn.files) l.fn.steps l.steps;
}
