use Rattle.std.proofs.Common.{◌≡◌}
use Rattle.std.specs.Io.KnownBytes.{Keeps}
use Rattle.server.proofs.stdio.standard_input.StandardInputSource.read_piece.Given as goal

abbrev pub invariant-reading : goal.invariant-reading
invariant-reading g l = record {
  faults : l.self.faults ≡ l.fn.self.faults;
  left : Keeps l.fn.self.left l.self.left;
}
