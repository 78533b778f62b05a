use Rattle.std.proofs.Common.{◌++◌, codes, sym, ap, subst, ◌∙◌}
use Rattle.serde_json.specs.Written.{compact_text}
use Rattle.lsp_frame.specs.Exact.{some_text}
use Rattle.lsp_frame.specs.Written.{params_data, IsWritable}
use Rattle.lsp_frame.proofs.Bodies.{IsWritable-string}
use Rattle.lsp_frame.proofs.Texts.{call_written}
use Rattle.lsp_frame.proofs.encoding.write_call.Goals as goal

pub write_value-requires : goal.write_value-requires
write_value-requires c = subst IsWritable (sym c.from_text.ensures) (IsWritable-string c.args.method)

pub write_some-requires : goal.write_some-requires
write_some-requires c = c.params_json.ensures.writable c.requires

pub returns-clause-text : goal.returns-clause-text
returns-clause-text c =
    call_written c.args.into.now _ _ _ c.args.method (params_data c.args.params)
    (c.in_ok-write_value.ensures.text ∙ ap (λ d. c.args.into.now ++ (codes "\"jsonrpc\":\"2.0\",\"method\":" ++ compact_text d)) c.from_text.ensures)
    (c.in_ok-write_some.ensures.text ∙ ap (λ o. c.write_value.new.into ++ some_text (codes ",\"params\":") o) c.params_json.ensures.value)
    c.in_ok-extend_from_slice.ensures
