use Rattle.std.proofs.Common.{◌≡◌, ◌++◌, drop, option_map}
use Rattle.serde_json.specs.View.{items_view}
use Rattle.ra_settings.specs.Read.{projects_of}
use Rattle.ra_settings.proofs.read.projects_of.Given as goal

abbrev pub invariant-loop-item : goal.invariant-loop-item
invariant-loop-item l = option_map (λ rest. l.projects ++ rest) (projects_of l.root (items_view (drop l.item-index l.list))) ≡ projects_of l.root (items_view l.list)
