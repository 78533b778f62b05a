use Rattle.std.proofs.Common.{◌≡◌, drop}
use Rattle.serde_json.specs.View.{items_view}
use Rattle.ra_config.specs.Capabilities.{first_taken}
use Rattle.ra_config.proofs.capabilities.first_taken.Given as goal

-- the answer rests with what is left
abbrev pub invariant-loop-name : goal.invariant-loop-name
invariant-loop-name l = first_taken (items_view (drop l.name-index l.name-items)) ≡ first_taken (items_view l.name-items)
