use Rattle.std.proofs.Common.{◌≡◌, ◌++◌, option_map}
use Rattle.serde_json.specs.View.{members_view}
use Rattle.ra_settings.specs.Read.{env_of}
use Rattle.ra_settings.proofs.read.env_of.Given as goal

abbrev pub invariant-loop-name : goal.invariant-loop-name
invariant-loop-name l = option_map (λ rest. l.env ++ rest) (env_of (members_view l.name-iterator)) ≡ env_of (members_view l.map.entries)
