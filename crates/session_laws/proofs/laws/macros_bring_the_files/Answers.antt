use Rattle.session_laws.proofs.Bringing.{ended-brings, message-may-bring}
use Rattle.session_laws.proofs.laws.macros_bring_the_files.Goals as goal

pub returns-clause-any : goal.returns-clause-any
returns-clause-any c = message-may-bring

pub returns-clause-waited_for : goal.returns-clause-waited_for
returns-clause-waited_for c = ended-brings
