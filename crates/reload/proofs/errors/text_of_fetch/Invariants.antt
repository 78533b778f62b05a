use Rattle.std.proofs.Common.{◌≡◌, ◌++◌, drop, map}
use Rattle.std.specs.List.{concat}
use Rattle.reload.specs.Errors.{line_of_workspace}
use Rattle.reload.proofs.errors.text_of_fetch.Given as goal

abbrev pub invariant-loop-fetched : goal.invariant-loop-fetched
invariant-loop-fetched l =
    l.text ++ concat (map line_of_workspace (drop l.fetched-index l.last)) ≡ concat (map line_of_workspace l.last)
