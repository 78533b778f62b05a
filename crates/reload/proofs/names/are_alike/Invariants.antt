use Rattle.std.proofs.Common.{◌≡◌, drop, length}
use Rattle.reload.specs.Names.{is_alike}
use Rattle.reload.proofs.names.are_alike.Given as goal

-- the texts are alike exactly where what is left is
abbrev pub invariant-loop-x : goal.invariant-loop-x
invariant-loop-x l = is_alike (drop (length l.yielded) l.one) (drop (length l.yielded) l.two) ≡ is_alike l.one l.two
