use Rattle.std.proofs.Common.{rules}
use Rattle.ra_settings.proofs.KindLaws.{kinds_at}
use Rattle.ra_settings.proofs.layer.value_at.Goals as goal

pub returns-in-Some-clause-kind : goal.returns-in-Some-clause-kind
returns-in-Some-clause-kind c = kinds_at c.args.values.now c.args.row c.in-Some.value.now c.requires (search rules)
