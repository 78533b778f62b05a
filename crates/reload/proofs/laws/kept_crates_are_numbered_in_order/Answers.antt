use Rattle.reload.proofs.GraphLaws.{numbered, kept_first}
use Rattle.reload.proofs.PlaceLaws.{stand_at_numbers}
use Rattle.reload.proofs.laws.kept_crates_are_numbered_in_order.Goals as goal

pub returns-clause-numbers : goal.returns-clause-numbers
returns-clause-numbers c = λ files. numbered 0 files

pub returns-clause-kept : goal.returns-clause-kept
returns-clause-kept c = λ files. kept_first files

pub returns-clause-places : goal.returns-clause-places
returns-clause-places c = λ workspaces files same. stand_at_numbers workspaces files same
