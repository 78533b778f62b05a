use Rattle.std.proofs.Common.{◌≡◌, ◌++◌, drop, option_map}
use Rattle.ra_settings.specs.Read.{paths_of}
use Rattle.ra_settings.proofs.read.paths_of.Given as goal

abbrev pub invariant-loop-text : goal.invariant-loop-text
invariant-loop-text l = option_map (λ rest. l.paths ++ rest) (paths_of l.root (drop l.text-index l.texts)) ≡ paths_of l.root l.texts
