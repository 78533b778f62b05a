use Rattle.std.proofs.Common.{refl, sym}
use Rattle.inline_host.proofs.FirstPieces.{read_nearer}
use Rattle.inline_host.proofs.framed_source.FramedSource.read_on.Goals as goal

pub reading-smaller : goal.reading-smaller
reading-smaller g c = read_nearer c.reading.self c.read_more.new.self _ _ c.in_ok-read_more.ensures.more c.if-not-branch.false refl (sym c.reading.invariant.needs)
