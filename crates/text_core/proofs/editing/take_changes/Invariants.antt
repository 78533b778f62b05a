use Rattle.std.proofs.Common.{◌≡◌, ◌≤◌, ℕ, List, drop}
use Rattle.std.specs.List.{fold}
use Rattle.text_core.specs.CommonEnds.{ComesFrom}
use Rattle.text_core.specs.IndexInvariant.{IsKeptIn, progress, text_of}
use Rattle.text_core.specs.Whole.{taken}
use Rattle.text_core.proofs.editing.take_changes.Given as goal

abbrev pub invariant-loop-change : goal.invariant-loop-change
invariant-loop-change g l = record {
  kept : IsKeptIn l.draft;
  size : l.draft.size ≤ l.limit;
  so_far : fold (taken l.encoding l.limit) (progress l.draft l.steps) (drop l.change-index l.changes) ≡ fold (taken l.encoding l.limit) (progress l.fn.draft l.fn.steps) l.changes;
  least : l.fn.steps ≤ l.steps;
  from : (before : List ℕ) → ComesFrom before (text_of l.fn.draft) l.fn.draft.ends → ComesFrom before (text_of l.draft) l.draft.ends;
}
