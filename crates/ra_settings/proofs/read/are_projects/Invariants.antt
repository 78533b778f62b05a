use Rattle.std.proofs.Common.{◌≡◌, drop}
use Rattle.serde_json.specs.View.{items_view}
use Rattle.ra_settings.specs.Read.{are_projects}
use Rattle.ra_settings.proofs.read.are_projects.Given as goal

abbrev pub invariant-loop-item : goal.invariant-loop-item
invariant-loop-item l = are_projects (items_view (drop l.item-index l.list)) ≡ are_projects (items_view l.list)
