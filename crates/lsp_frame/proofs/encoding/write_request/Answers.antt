use Rattle.lsp_frame.specs.Written.{data_of, id_data, params_data}
use Rattle.lsp_frame.proofs.Texts.{asking_written, asking_exact, asking_reads}
use Rattle.lsp_frame.proofs.encoding.write_request.Goals as goal

pub returns-clause-text : goal.returns-clause-text
unfolding data_of
returns-clause-text c =
    let r = c.args.request in
    asking_written c.args.into.now _ _ _ r.method (id_data r.id) (params_data r.params)
    c.in_ok-write_id.ensures.text c.in_ok-extend_from_slice.ensures c.in_ok-write_call.ensures.text

pub returns-clause-exact : goal.returns-clause-exact
unfolding data_of
returns-clause-exact c =
    let r = c.args.request in
    asking_exact (id_data r.id) r.method (params_data r.params) c.in_ok-write_id.ensures.exact c.in_ok-write_call.ensures.method c.in_ok-write_call.ensures.params

pub returns-clause-reads_back : goal.returns-clause-reads_back
unfolding data_of
returns-clause-reads_back c = let r = c.args.request in asking_reads r.id r.method r.params c.in_ok-write_id.ensures.reads_back
