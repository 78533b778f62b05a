use Rattle.std.proofs.Common.{Some, ◌++◌, sym, ap, arith, ◌∙◌}
use Rattle.std.specs.Ordering.{nat_cmp}
use Rattle.std.specs.FinMap as map
use Rattle.std.proofs.lemmas.Bool.{eqb-true}
use Rattle.op_board.specs.Marked.{files_at, taken}
use Rattle.op_board.proofs.Taken.{taken_of_none, taken_of_some}
use Rattle.op_board.proofs.marks.Marks.take.Goals as goal

pub returns-then-is_empty-clause-value : goal.returns-then-is_empty-clause-value
returns-then-is_empty-clause-value c = taken_of_none _ (sym c.is_empty.ensures ∙ c.if-is_empty.true) ∙ ap taken c.self.view_is

pub returns-then-is_empty-clause-after : goal.returns-then-is_empty-clause-after
returns-then-is_empty-clause-after c = sym c.self.view_is ∙ map.empty_of_len _ (eqb-true _ _ (sym c.is_empty.ensures ∙ c.if-is_empty.true))

pub invariant_of-self : goal.invariant_of-self
invariant_of-self c = omega (arith, ap map.len (c.replace-files.ensures.after ∙ c.new.ensures) ∙ map.len-empty nat_cmp (Unit {0}))

pub returns-clause-value : goal.returns-clause-value
returns-clause-value c =
    ap Some (c.from_vec.ensures ∙ c.push_files.ensures ∙ (λ i. c.clear.ensures.items i ++ files_at (map.keys (c.replace-files.ensures.value i))))
    ∙ taken_of_some _ (sym c.is_empty.ensures ∙ c.if-is_empty.false)
    ∙ ap taken c.self.view_is
