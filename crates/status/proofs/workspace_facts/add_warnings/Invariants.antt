use Rattle.std.proofs.Common.{◌≡◌, drop}
use Rattle.status.specs.Drafts.{add_each}
use Rattle.status.specs.Facts.{warning}
use Rattle.status.proofs.workspace_facts.add_warnings.Given as goal

abbrev pub invariant-loop-text : goal.invariant-loop-text
invariant-loop-text l =
    add_each warning (drop l.text-index l.texts) l.draft ≡ add_each warning l.texts l.initial.draft
