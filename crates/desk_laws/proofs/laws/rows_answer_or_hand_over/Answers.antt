use Rattle.desk_laws.proofs.Held.{message-reacts, request-reacts}
use Rattle.desk_laws.proofs.laws.rows_answer_or_hand_over.Goals as goal

pub returns-clause-requests : goal.returns-clause-requests
returns-clause-requests c = request-reacts

pub returns-clause-messages : goal.returns-clause-messages
returns-clause-messages c = message-reacts
