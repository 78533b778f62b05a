use Rattle.session_replay.proofs.Again.{replay-front, replay-whole}
use Rattle.session_replay.proofs.laws.a_replay_repeats_the_run.Goals as goal

pub returns-clause-front : goal.returns-clause-front
returns-clause-front c = replay-front

pub returns-clause-whole : goal.returns-clause-whole
returns-clause-whole c = replay-whole
