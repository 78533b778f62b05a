use Rattle.std.proofs.Common.{◌≡◌, ◌++◌, Some, codes, arith, sym, ap, subst, ◌∙◌, to_z-of_z}
use mir.Val.{of_z, to_z}
use mir.Syntax.{w32}
use Rattle.plain.specs.Reading.{as_i32}
use Rattle.serde_json.specs.Data.{number}
use Rattle.serde_json.specs.Find.{of_integer}
use Rattle.serde_json.specs.Written.{compact_text}
use Rattle.lsp_frame.specs.Exact.{IsExact}
use Rattle.lsp_frame.specs.Written.{IsWritable}
use Rattle.lsp_frame.proofs.Bodies.{IsWritable-string, integer_IsWritable}
use Rattle.lsp_frame.proofs.Texts.{fault_written, fault_exact, fault_reads}
use Rattle.lsp_frame.proofs.encoding.write_error.Goals as goal

pub write_value-requires : goal.write_value-requires
write_value-requires c = subst IsWritable (sym c.from_i32.ensures.value) (integer_IsWritable (to_z w32 (of_z w32 c.args.error.code)))

pub write_value-requires-2 : goal.write_value-requires-2
write_value-requires-2 c = subst IsWritable (sym c.from_text.ensures) (IsWritable-string c.args.error.message)

pub returns-clause-text : goal.returns-clause-text
returns-clause-text c =
    let e = c.args.error in
    let code : to_z w32 (of_z w32 e.code) ≡ e.code = grind (arith, to_z-of_z) in
    fault_written c.args.into.now _ _ _ _ e.message (number (of_integer e.code)) e.extra
    (c.in_ok-write_value.ensures.text ∙ ap (λ d. c.args.into.now ++ (codes "{\"code\":" ++ compact_text d)) (c.from_i32.ensures.value ∙ ap (λ z. number (of_integer z)) code))
    c.in_ok-write_some.ensures.text
    (c.in_ok-write_value-2.ensures.text ∙ ap (λ d. c.write_some.new.into ++ (codes ",\"message\":" ++ compact_text d)) c.from_text.ensures)
    c.in_ok-extend_from_slice.ensures

pub returns-clause-exact : goal.returns-clause-exact
returns-clause-exact c =
    let e = c.args.error in
    let code : to_z w32 (of_z w32 e.code) ≡ e.code = grind (arith, to_z-of_z) in
    fault_exact (number (of_integer e.code)) e.message e.extra
    (subst IsExact (c.from_i32.ensures.value ∙ ap (λ z. number (of_integer z)) code) c.in_ok-write_value.ensures.exact)
    (subst IsExact c.from_text.ensures c.in_ok-write_value-2.ensures.exact) c.in_ok-write_some.ensures.exact

pub returns-clause-reads_back : goal.returns-clause-reads_back
returns-clause-reads_back c =
    let e = c.args.error in
    let code : to_z w32 (of_z w32 e.code) ≡ e.code = grind (arith, to_z-of_z) in
    fault_reads e.code e.message e.extra (subst (λ z. as_i32 (number (of_integer z)) ≡ Some z) code c.from_i32.ensures.fits)
