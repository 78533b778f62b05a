use Rattle.std.proofs.Common.{ℕ, List, [], ◌∷◌, ◌++◌, ap, ◌∙◌, arith}
use Rattle.std.specs.Prelude.{Err}
use Rattle.std.specs.Vec.Iter.{into_iter_items}
use Rattle.std.proofs.lemmas.List.{nil_from_length}
use Rattle.workspaces.proofs.Entries.{next_run, next_missing}
use Rattle.workspaces.proofs.runs.one_each.Goals as goal
use Rattle.workspaces.proofs.runs.one_each.Goals.{in-Some+in_ok-push-in-Some, in-None+in_ok-from_str-in-None+in_ok-push-in-None}

pub loop-preserved : goal.loop-preserved
loop-preserved c =
    let before = c.loop.list in
    let new = c.match-next.list in
    let given = into_iter_items c.loop.given in
    let rest = into_iter_items c.next.new.self in
    elim c.match-next.branch [
      | in-Some+in_ok-push-in-Some w ↦
          next_run c.args.error.now c.args.count c.loop.counter before new _ given rest _ c.loop-test.true w.in-Some.ensures.cases.0
          (w.list-is ∙ w.in_ok-push-in-Some.ensures.ok) c.loop.invariant
      | in-None+in_ok-from_str-in-None+in_ok-push-in-None w ↦
          next_missing c.args.error.now c.args.count c.loop.counter before new given rest _ c.loop-test.true
          (nil_from_length given (omega (arith, w.in-None.ensures.cases.0))) (nil_from_length rest (omega (arith, w.in-None.ensures.cases.1)))
          (w.list-is ∙ w.in_ok-push-in-None.ensures.ok ∙ ap (λ (e : List ℕ). before ++ Err e ∷ []) w.in_ok-from_str-in-None.ensures)
          c.loop.invariant
    ]
