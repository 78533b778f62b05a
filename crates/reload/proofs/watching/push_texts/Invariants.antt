use Rattle.std.proofs.Common.{◌≡◌, ◌++◌, drop, map}
use Rattle.reload.specs.Watchers.{as_text}
use Rattle.reload.proofs.watching.push_texts.Given as goal

abbrev pub invariant-loop-text : goal.invariant-loop-text
invariant-loop-text l =
    l.list ++ map as_text (drop l.text-index l.texts) ≡ l.initial.list ++ map as_text l.texts
