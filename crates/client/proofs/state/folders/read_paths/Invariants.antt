use Rattle.std.proofs.Common.{◌≡◌, ◌++◌}
use Rattle.std.specs.Vec.Iter.{into_iter_items}
use Rattle.client.specs.Folds.{paths_named}
use Rattle.client.specs.Steps.{misses}
use Rattle.client.proofs.state.folders.read_paths.Given as goal

-- what was read so far, and then what is left
abbrev pub invariant-loop-url : goal.invariant-loop-url
invariant-loop-url l = record {
  paths : l.paths ++ paths_named (into_iter_items l.url-iterator) ≡ paths_named l.fn.urls;
  commands : l.out.commands ++ misses (into_iter_items l.url-iterator) ≡ l.initial.out.commands ++ misses l.fn.urls;
  messages : l.out.messages ≡ l.initial.out.messages;
}
