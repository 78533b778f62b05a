use Rattle.reload.specs.Graph.{number_of}
use Rattle.reload.proofs.GraphLaws.{given_in_order, kept_have_numbers}
use Rattle.reload.proofs.laws.kept_dependencies_are_renumbered.Goals as goal

pub returns-clause-dependencies : goal.returns-clause-dependencies
returns-clause-dependencies c = λ places deps. given_in_order (number_of places) deps

pub returns-clause-numbers : goal.returns-clause-numbers
returns-clause-numbers c = λ places index entry. kept_have_numbers places index entry
