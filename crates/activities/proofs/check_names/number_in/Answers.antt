use Rattle.std.proofs.Common.{◌^◌, ◌∙◌}
use Rattle.std.specs.Str.Parse.{without_leading_plus}
use Rattle.activities.proofs.Tokens.{number_is}
use Rattle.activities.proofs.check_names.number_in.Goals as goal

pub returns : goal.returns
returns c = c.ok.ensures.value ∙ number_is (2 ^ 32) (without_leading_plus c.args.text.now) c.parse.result c.parse.ensures.value.0
