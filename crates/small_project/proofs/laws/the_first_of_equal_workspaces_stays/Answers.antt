use Rattle.small_project.proofs.Firsts.{none_equal, each_listed, workspaces-more}
use Rattle.small_project.proofs.laws.the_first_of_equal_workspaces_stays.Goals as goal

pub returns-clause-unequal : goal.returns-clause-unequal
returns-clause-unequal c = none_equal

pub returns-clause-listed : goal.returns-clause-listed
returns-clause-listed c = each_listed

pub returns-clause-first : goal.returns-clause-first
returns-clause-first c = workspaces-more
