use Rattle.server.proofs.Streams.{Written}
use Rattle.server.proofs.stdio.standard_output.write_whole.Given as goal

abbrev pub invariant-writing : goal.invariant-writing
invariant-writing g l = Written (g.W.Write.contents l.fn.writer) (g.W.Write.contents l.writer) l.fn.bytes l.rest
