use Rattle.lsp_frame.proofs.InStep.{none-distinct, registered-distinct, completed-distinct, closed-distinct, found-only, completed-closed}
use Rattle.lsp_frame.proofs.incoming.pending_stays_distinct.Goals as goal

pub returns-clause-none : goal.returns-clause-none
returns-clause-none c = none-distinct

pub returns-clause-registered : goal.returns-clause-registered
returns-clause-registered c = registered-distinct

pub returns-clause-completed : goal.returns-clause-completed
returns-clause-completed c = completed-distinct

pub returns-clause-closed : goal.returns-clause-closed
returns-clause-closed c = closed-distinct

pub returns-clause-found : goal.returns-clause-found
returns-clause-found c = found-only

pub returns-clause-alike : goal.returns-clause-alike
returns-clause-alike c = completed-closed
