use Rattle.method_table.proofs.Plainness.{default_plain}
use Rattle.method_table.proofs.default_value.DefaultValue.value.Goals as goal

pub returns-clause-plain : goal.returns-clause-plain
returns-clause-plain c = default_plain c.args.self c.in_ok-json.json c.in_ok-json.ensures
