use Rattle.std.proofs.Common.{ap, ◌∙◌}
use Rattle.std.specs.Prelude.{Some}
use Rattle.workspaces.specs.QueueRuns.{builds_after}
use Rattle.workspaces.proofs.Entries.{runs_length}
use Rattle.workspaces.proofs.QueueLaws.{count_is, version_is}
use Rattle.workspaces.proofs.laws.old_build_data_is_not_joined.Goals as goal

pub returns-clause-kept : goal.returns-clause-kept
returns-clause-kept c = λ run made. version_is run

pub returns-clause-counted : goal.returns-clause-counted
returns-clause-counted c = λ run made. ap Some (runs_length made (builds_after run).count ∙ count_is run)
