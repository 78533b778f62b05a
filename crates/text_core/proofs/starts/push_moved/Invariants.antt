use Rattle.std.proofs.Common.{◌≡◌, ◌+◌, ◌-◌, ◌++◌, drop, map}
use Rattle.text_core.proofs.starts.push_moved.Given as goal

abbrev pub invariant-loop-start : goal.invariant-loop-start
invariant-loop-start l =
    l.starts.items ++ map (λ start. start - l.from + l.to) (drop l.start-index l.moved) ≡ l.fn.starts.items ++ map (λ start. start - l.from + l.to) l.moved
