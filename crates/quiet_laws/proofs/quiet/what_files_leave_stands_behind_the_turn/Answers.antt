use Rattle.quiet_laws.proofs.RestingBehind.{turn-lasts}
use Rattle.quiet_laws.proofs.quiet.what_files_leave_stands_behind_the_turn.Goals as goal

pub returns : goal.returns
returns c = turn-lasts
