use Rattle.std.proofs.Common.{arith, sym, ◌∙◌}
use Rattle.text_core.proofs.PlaceLemmas.{line_start-split}
use Rattle.text_core.proofs.PositionLemmas.{split_whole}
use Rattle.text_core.proofs.offsets.line_text.Goals as goal

pub range-requires-clause-start_boundary : goal.range-requires-clause-start_boundary
range-requires-clause-start_boundary c =
    λ _. split_whole c.args.text.now c.in-Some.start c.utf8.text
    (line_start-split c.args.line c.args.text.now c.in-Some.start c.utf8.text (sym (c.in-Some.ensures ∙ c.requires c.args.line (omega arith))))

pub range-requires-clause-end_boundary : goal.range-requires-clause-end_boundary
range-requires-clause-end_boundary c = split_whole c.args.text.now c.text_end.result c.utf8.text c.text_end.ensures.split
