use Rattle.lsp_frame.specs.Written.{data_of, params_data}
use Rattle.lsp_frame.proofs.Texts.{notice_written, notice_exact, notice_reads}
use Rattle.lsp_frame.proofs.encoding.write_notification.Goals as goal

pub returns-clause-text : goal.returns-clause-text
unfolding data_of
returns-clause-text c =
    let n = c.args.notification in
    notice_written c.args.into.now _ _ n.method (params_data n.params) c.in_ok-extend_from_slice.ensures c.in_ok-write_call.ensures.text

pub returns-clause-exact : goal.returns-clause-exact
unfolding data_of
returns-clause-exact c = let n = c.args.notification in notice_exact n.method (params_data n.params) c.in_ok-write_call.ensures.method c.in_ok-write_call.ensures.params

pub returns-clause-reads_back : goal.returns-clause-reads_back
unfolding data_of
returns-clause-reads_back c = let n = c.args.notification in notice_reads n.method n.params
