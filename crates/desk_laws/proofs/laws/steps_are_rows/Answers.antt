use Rattle.desk_laws.proofs.Settling.{cancel-settles, message-settles, request-settles}
use Rattle.desk_laws.proofs.laws.steps_are_rows.Goals as goal

pub returns-clause-requests : goal.returns-clause-requests
returns-clause-requests c = request-settles

pub returns-clause-cancels : goal.returns-clause-cancels
returns-clause-cancels c = cancel-settles

pub returns-clause-messages : goal.returns-clause-messages
returns-clause-messages c = message-settles
