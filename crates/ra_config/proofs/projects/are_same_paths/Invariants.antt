use Rattle.std.proofs.Common.{◌≡◌, ◌↔◌, drop, length}
use Rattle.ra_config.proofs.projects.are_same_paths.Given as goal

-- the lists are the same exactly where what is left is
abbrev pub invariant-loop-x : goal.invariant-loop-x
invariant-loop-x l = (drop (length l.yielded) l.a ≡ drop (length l.yielded) l.b) ↔ (l.a ≡ l.b)
