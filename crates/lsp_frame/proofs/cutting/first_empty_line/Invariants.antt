use Rattle.std.proofs.Common.{◌-◌, ◌≤◌, length}
use Rattle.memchr.specs.Find.{OccursAt, Nowhere}
use Rattle.lsp_frame.specs.Frames.{empty_line}
use Rattle.lsp_frame.proofs.cutting.first_empty_line.Given as goal

abbrev pub invariant-places : goal.invariant-places
invariant-places l = (l.at ≤ length l.bytes) × Nowhere (OccursAt l.bytes empty_line) 0 l.at

abbrev pub decreases-places : goal.decreases-places
decreases-places l = length l.bytes - l.at
