use Rattle.std.proofs.Common.{rules, Ok, Err}
use Rattle.std.specs.Cmp.Lexicographic.{slice_cmp}
use Rattle.std.specs.Ordering.{nat_cmp}
use Rattle.std.proofs.lemmas.Fn.{always_returns_same}
use Rattle.method_table.specs.Rows.{method_of}
use Rattle.method_table.proofs.Searching.{searched}
use Rattle.method_table.proofs.rows.row_of.Goals as goal

pub returns-in-Ok : goal.returns-in-Ok
returns-in-Ok c =
    let facts = c.in-Ok.ensures in
    let found = facts.position (λ row. slice_cmp nat_cmp (method_of row) c.args.method.now) (always_returns_same _ _ _ (λ a r g called. search rules)) in
    searched c.args.method.now (Ok c.in-Ok.place) facts.bound found _

pub returns-in-Err : goal.returns-in-Err
returns-in-Err c =
    let facts = c.in-Err.ensures in
    let found = facts.position (λ row. slice_cmp nat_cmp (method_of row) c.args.method.now) (always_returns_same _ _ _ (λ a r g called. search rules)) in
    searched c.args.method.now (Err c.in-Err.field-0) facts.bound found
