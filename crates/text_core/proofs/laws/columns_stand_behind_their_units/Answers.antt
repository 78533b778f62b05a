use Rattle.text_core.proofs.ColumnLemmas.{behind_column, column_behind, no_behind, no_column}
use Rattle.text_core.proofs.laws.columns_stand_behind_their_units.Goals as goal

pub returns-clause-some : goal.returns-clause-some
returns-clause-some c = λ e column line n. (behind_column e column line n, column_behind e column line n)

pub returns-clause-none : goal.returns-clause-none
returns-clause-none c = λ e column line. (no_behind e column line, no_column e column line)
