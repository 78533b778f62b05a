use Rattle.std.proofs.Common.{length}
use Rattle.ra_settings.proofs.find.+find_at.Given as goal

abbrev pub decreases-find_at : goal.decreases-find_at
decreases-find_at l = length l.path.now
