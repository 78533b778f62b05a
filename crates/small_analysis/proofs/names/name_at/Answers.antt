-- A run that is a name stands between whole characters.
use Rattle.std.proofs.Common.{◌≡◌, true, subst, arith}
use Rattle.std.proofs.lemmas.Grind.{common_steps}
use Rattle.std.specs.Str.{IsCharBoundary}
use Rattle.small_analysis.specs.Names.{is_name, run_at, run_start, run_end}
use Rattle.small_analysis.proofs.RunLemmas.{name_begins, name_ends}
use Rattle.small_analysis.proofs.names.name_at.Goals as goal

pub range-requires-clause-start_boundary : goal.range-requires-clause-start_boundary
range-requires-clause-start_boundary c =
    let here : is_name (run_at c.args.text.now c.args.offset) ≡ true = grind (arith, common_steps) in
    let start : run_start c.args.text.now c.args.offset ≡ c.run_start-start.result = cc in
    λ _. subst (IsCharBoundary c.args.text.now) start (name_begins c.args.text.now c.args.offset c.requires here)

pub range-requires-clause-end_boundary : goal.range-requires-clause-end_boundary
range-requires-clause-end_boundary c =
    let here : is_name (run_at c.args.text.now c.args.offset) ≡ true = grind (arith, common_steps) in
    let end : run_end c.args.text.now c.args.offset ≡ c.run_end-end.result = cc in
    subst (IsCharBoundary c.args.text.now) end (name_ends c.args.text.now c.args.offset c.utf8.text c.requires here)
