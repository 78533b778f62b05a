use Rattle.workspaces.proofs.Entries.{runs_length, numbers_of}
use Rattle.workspaces.proofs.laws.each_has_one_entry.Goals as goal

pub returns-clause-runs : goal.returns-clause-runs
returns-clause-runs c = λ given count. runs_length given count

pub returns-clause-macros : goal.returns-clause-macros
returns-clause-macros c = λ told listed. numbers_of told listed
