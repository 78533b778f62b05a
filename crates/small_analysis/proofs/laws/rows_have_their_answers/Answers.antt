use Rattle.analysis_host.specs.Answers.{answer}
use Rattle.analysis_host.specs.declared.ask.Answer.TheVariants.{Json}
use Rattle.method_table.specs.Rows.{facts_of}
use Rattle.method_table.specs.Table.{table}
use Rattle.plain.specs.Plain.{is_plain, most_levels}
use Rattle.serde_json.specs.Data.{null}
use Rattle.small_analysis.proofs.RowLaws.{known, read}
use Rattle.small_analysis.proofs.laws.rows_have_their_answers.Goals as goal

pub returns : goal.returns
unfolding facts_of table most_levels
returns c = record {
  inlay_hint = λ snapshot params plain. read (is_plain params) (answer (Json params)) plain;
  code_lens = λ snapshot params plain. read (is_plain params) (answer (Json params)) plain;
  code_action = λ snapshot params plain. read (is_plain params) (answer (Json params)) plain;
  join_lines = λ snapshot params plain. known (is_plain params) (answer (Json null)) plain;
  on_enter = λ snapshot params plain. known (is_plain params) (answer (Json null)) plain;
  selection_range = λ snapshot params plain. known (is_plain params) (answer (Json null)) plain;
  on_type = λ snapshot params plain. known (is_plain params) (answer (Json null)) plain;
  formatting = λ snapshot params plain. known (is_plain params) (answer (Json null)) plain;
  range_formatting = λ snapshot params plain. known (is_plain params) (answer (Json null)) plain;
}
