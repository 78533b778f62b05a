use Rattle.session_laws.proofs.ParentsWaiting.{settings-change}
use Rattle.session_laws.proofs.laws.settings_change_by_what_is_told.Goals as goal

pub returns : goal.returns
returns c = settings-change
