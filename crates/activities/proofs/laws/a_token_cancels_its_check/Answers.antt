use Rattle.activities.proofs.CheckLaws.{token_cancels}
use Rattle.activities.proofs.laws.a_token_cancels_its_check.Goals as goal

pub returns : goal.returns
returns c = λ id checks small. token_cancels id small checks
