use Rattle.std.proofs.Common.{[], ◌∙◌}
use Rattle.op_board.proofs.NativeRuns.{gives_is}
use Rattle.op_board.proofs.board.DiagnosticCollection.set_native_diagnostics.Goals as goal

pub returns : goal.returns
returns c = c.in_ok-set_pass.ensures ∙ gives_is c.args.pass c.args.generation c.args.lists [] c.args.self.now
