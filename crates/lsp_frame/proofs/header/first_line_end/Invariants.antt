use Rattle.std.proofs.Common.{◌-◌, ◌≤◌, length}
use Rattle.memchr.specs.Find.{OccursAt, Nowhere}
use Rattle.lsp_frame.specs.Header.{line_end}
use Rattle.lsp_frame.proofs.header.first_line_end.Given as goal

abbrev pub invariant-places : goal.invariant-places
invariant-places l = (l.at ≤ length l.block) × Nowhere (OccursAt l.block line_end) 0 l.at

abbrev pub decreases-places : goal.decreases-places
decreases-places l = length l.block - l.at
