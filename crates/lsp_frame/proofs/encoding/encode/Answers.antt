use Rattle.std.proofs.Common.{ap, ◌∙◌}
use Rattle.std.specs.Prelude.{option_and_then}
use Rattle.lsp_frame.specs.Rules.{data_message, message_of}
use Rattle.lsp_frame.specs.Written.{data_of, body_of}
use Rattle.lsp_frame.proofs.Bodies.{body_nests}
use Rattle.lsp_frame.proofs.Exact.{exact_reads}
use Rattle.lsp_frame.proofs.encoding.encode.Goals as goal

pub returns-clause-reads_back : goal.returns-clause-reads_back
unfolding body_of message_of
returns-clause-reads_back c =
    ap (option_and_then data_message) (exact_reads (data_of c.args.message) c.in_ok-write_body.ensures.exact (body_nests c.args.message c.requires)) ∙ c.in_ok-write_body.ensures.reads_back
