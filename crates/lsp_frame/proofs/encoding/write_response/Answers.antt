use Rattle.std.proofs.Common.{option_map}
use Rattle.lsp_frame.specs.Written.{data_of, error_data, optional_id_data}
use Rattle.lsp_frame.proofs.Texts.{reply_written, reply_exact, reply_reads}
use Rattle.lsp_frame.proofs.encoding.write_response.Goals as goal

pub returns-clause-text : goal.returns-clause-text
unfolding data_of
returns-clause-text c =
    let r = c.args.response in
    reply_written c.args.into.now _ _ _ _ _ _ (optional_id_data r.id) r.result (option_map error_data r.error)
    c.in_ok-extend_from_slice.ensures c.in_ok-write_first_error.ensures.text
    c.in_ok-write_optional_id.ensures.text
    c.in_ok-extend_from_slice-2.ensures c.in_ok-write_some.ensures.text c.in_ok-extend_from_slice-3.ensures

pub returns-clause-exact : goal.returns-clause-exact
unfolding data_of
returns-clause-exact c =
    let r = c.args.response in
    reply_exact (optional_id_data r.id) r.result (option_map error_data r.error) c.in_ok-write_optional_id.ensures.exact
    c.in_ok-write_some.ensures.exact c.in_ok-write_first_error.ensures.exact

pub returns-clause-reads_back : goal.returns-clause-reads_back
unfolding data_of
returns-clause-reads_back c = let r = c.args.response in reply_reads r.id r.result r.error c.in_ok-write_optional_id.ensures.reads_back c.in_ok-write_first_error.ensures.reads_back
