use Rattle.desk_laws.proofs.Held.{cancel-sound, message-sound, request-sound, sound-new}
use Rattle.desk_laws.proofs.laws.rows_keep_requests_held.Goals as goal

pub returns-clause-beginning : goal.returns-clause-beginning
returns-clause-beginning c = sound-new

pub returns-clause-requests : goal.returns-clause-requests
returns-clause-requests c = request-sound

pub returns-clause-cancels : goal.returns-clause-cancels
returns-clause-cancels c = cancel-sound

pub returns-clause-messages : goal.returns-clause-messages
returns-clause-messages c = message-sound
