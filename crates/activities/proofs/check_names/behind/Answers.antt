use Rattle.activities.proofs.Tokens.{strips}
use Rattle.activities.proofs.check_names.behind.Goals as goal

pub returns : goal.returns
returns c = strips c.args.front.now c.args.text.now c.strip_prefix.result c.strip_prefix.ensures.cases
