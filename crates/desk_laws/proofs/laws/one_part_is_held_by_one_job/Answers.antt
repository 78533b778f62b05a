use Rattle.desk_laws.proofs.Held.{one-held}
use Rattle.desk_laws.proofs.laws.one_part_is_held_by_one_job.Goals as goal

pub returns : goal.returns
returns c = one-held
