use Rattle.session_laws.proofs.ParentsWaiting.{bare-begin, settings-begin}
use Rattle.session_laws.proofs.laws.settings_begin_without_parents.Goals as goal

pub returns-clause-told : goal.returns-clause-told
returns-clause-told c = settings-begin

pub returns-clause-untold : goal.returns-clause-untold
returns-clause-untold c = bare-begin
