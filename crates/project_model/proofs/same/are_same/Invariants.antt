use Rattle.std.proofs.Common.{◌≡◌, ◌↔◌, drop, length}
use Rattle.project_model.proofs.same.are_same.Given as goal

-- the lists are the same exactly where what is left is
abbrev pub invariant-loop-x : goal.invariant-loop-x
invariant-loop-x g l = (drop (length l.yielded) l.a ≡ drop (length l.yielded) l.b) ↔ (l.a ≡ l.b)
