use Rattle.std.proofs.Common.{length}
use Rattle.ra_settings.proofs.row.+join.Given as goal

abbrev pub decreases-join : goal.decreases-join
decreases-join l = length l.path.now
