use Rattle.workspaces.proofs.FetchLaws.{one_runs}
use Rattle.workspaces.proofs.QueueLaws.{one_build, one_load}
use Rattle.workspaces.proofs.laws.one_of_each_runs.Goals as goal

pub returns-clause-fetch : goal.returns-clause-fetch
returns-clause-fetch c = λ run lawful. one_runs run lawful

pub returns-clause-build : goal.returns-clause-build
returns-clause-build c = λ run lawful. one_build run lawful

pub returns-clause-load : goal.returns-clause-load
returns-clause-load c = λ run lawful. one_load run lawful
