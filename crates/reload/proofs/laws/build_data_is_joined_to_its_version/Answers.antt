use Rattle.reload.specs.Switch.{runs_on}
use Rattle.reload.proofs.SwitchLaws.{from_switch, of_version}
use Rattle.reload.proofs.laws.build_data_is_joined_to_its_version.Goals as goal

pub returns : goal.returns
returns c = λ fetched forced discover present made version build_version build build_scripts h.
    let found = from_switch fetched forced discover present (runs_on version build_version build) build_scripts made h in
    let on = of_version version build_version build found.0 found.1 in
    (on.0, (found.0, on.1, found.2))
