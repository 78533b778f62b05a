use Rattle.std.proofs.Common.{sym, subst}
use Rattle.lsp_frame.specs.Written.{IsWritable}
use Rattle.server.proofs.Written.{result_writable}
use Rattle.server.proofs.handshake.replies.welcome.Goals as goal

pub returns-clause-writable : goal.returns-clause-writable
returns-clause-writable g c = (
  subst IsWritable (sym c.in_ok-value.ensures) (result_writable c.in_ok-info.info c.encodings.result c.in_ok-info.ensures.plain),
  tt,
)
