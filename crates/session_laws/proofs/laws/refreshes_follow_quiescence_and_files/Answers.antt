use Rattle.std.proofs.lemmas.Result.{IfOk-at_ok}
use Rattle.session_laws.proofs.Bringing.{not-shown, part-knows, shown-anew}
use Rattle.session_laws.proofs.laws.refreshes_follow_quiescence_and_files.Goals as goal

pub returns-clause-known : goal.returns-clause-known
returns-clause-known c = λ before after is. IfOk-at_ok _ is (part-knows before)

pub returns-clause-asked : goal.returns-clause-asked
returns-clause-asked c = shown-anew

pub returns-clause-not_asked : goal.returns-clause-not_asked
returns-clause-not_asked c = not-shown
