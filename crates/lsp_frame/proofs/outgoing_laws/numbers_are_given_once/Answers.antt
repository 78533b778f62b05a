use Rattle.lsp_frame.proofs.Given.{none_given, registered_given, completed_given, next_fresh}
use Rattle.lsp_frame.proofs.outgoing_laws.numbers_are_given_once.Goals as goal

pub returns-clause-none : goal.returns-clause-none
returns-clause-none g c = none_given

pub returns-clause-registered : goal.returns-clause-registered
returns-clause-registered g c = registered_given

pub returns-clause-completed : goal.returns-clause-completed
returns-clause-completed g c = completed_given

pub returns-clause-fresh : goal.returns-clause-fresh
returns-clause-fresh g c = next_fresh
