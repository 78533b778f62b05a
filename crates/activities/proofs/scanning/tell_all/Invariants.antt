use Rattle.std.proofs.Common.{◌≡◌, ◌++◌, drop}
use Rattle.activities.specs.Scanning.{scans_behind, scans_told}
use Rattle.activities.proofs.scanning.tell_all.Given as goal

abbrev pub invariant-loop-message : goal.invariant-loop-message
invariant-loop-message l =
    l.into ++ scans_behind l.root l.last (drop l.message-index l.messages) ≡ l.initial.into ++ scans_told l.root l.messages
