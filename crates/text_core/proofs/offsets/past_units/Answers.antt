use Rattle.text_core.specs.declared.position.PositionEncoding.TheVariants.{Utf8, Wide}
use Rattle.text_core.proofs.PlaceLemmas.{past-within}
use Rattle.text_core.proofs.offsets.past_units.Goals as goal

pub returns-in-Utf8-clause-within : goal.returns-in-Utf8-clause-within
returns-in-Utf8-clause-within c = past-within Utf8 c.args.column c.args.line.now c.past_bytes.result c.past_bytes.ensures

pub returns-in-Wide-clause-within : goal.returns-in-Wide-clause-within
returns-in-Wide-clause-within c = past-within (Wide c.in-Wide.wide) c.args.column c.args.line.now c.past_wide_units.result c.past_wide_units.ensures
