use Rattle.std.proofs.Common.{◌++◌, to_z-of_z, ap, ◌∙◌, append_assoc}
use Rattle.std.specs.Fmt.{signed_decimal}
use Rattle.lsp_frame.proofs.Integers.{integer_text, integer_exact}
use Rattle.lsp_frame.proofs.encoding.write_integer.Goals as goal

pub returns-clause-text : goal.returns-clause-text
returns-clause-text c =
    c.in_ok-extend_from_slice-2.ensures
    ∙ ap (λ s. s ++ c.as_bytes.result.now) c.in_ok-extend_from_slice.ensures
    ∙ append_assoc c.args.into.now c.args.before.now c.as_bytes.result.now
    ∙ ap (λ s. c.args.into.now ++ (c.args.before.now ++ s)) (c.as_bytes.ensures.value ∙ c.format.ensures.text ∙ ap signed_decimal (to_z-of_z c.ranges.integer) ∙ integer_text c.args.integer)

pub returns-clause-exact : goal.returns-clause-exact
returns-clause-exact c = integer_exact c.args.integer c.ranges.integer
