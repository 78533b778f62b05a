use Rattle.session_laws.proofs.ParentsWaiting.{parents-wait}
use Rattle.session_laws.proofs.laws.parents_wait_where_the_settings_have_others.Goals as goal

pub returns : goal.returns
returns c = parents-wait
