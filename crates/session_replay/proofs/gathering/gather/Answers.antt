use Rattle.std.proofs.Common.{rules}
use Rattle.session_replay.proofs.Gathered.{taken-next, gathers-stopped}
use Rattle.session_replay.proofs.gathering.gather.Goals as goal

pub loop-preserved : goal.loop-preserved
loop-preserved g c = search (taken-next, rules)

pub returns-in-Err : goal.returns-in-Err
returns-in-Err g c = gathers-stopped _ _ _ _ _ c.in-Ok.event _ _ c.in-Err.ensures.err c.loop.invariant.so_far c.in-Ok.ensures.calls
