use Rattle.std.proofs.Common.{◌≡◌, ◌+◌, ◌<◌, ◌++◌, length, map}
use Rattle.std.specs.Prelude.{All}
use Rattle.text_core.specs.Starts.{starts_in}
use Rattle.text_core.proofs.starts.push_starts.Given as goal

abbrev pub invariant-loop-offset : goal.invariant-loop-offset
invariant-loop-offset l = record {
  built : l.starts.items ++ map (λ n. l.place + n + 1) l.offset-iterator ≡ l.fn.starts.items ++ starts_in l.place l.part;
  within : All (λ n. n < length l.part) l.offset-iterator;
}
