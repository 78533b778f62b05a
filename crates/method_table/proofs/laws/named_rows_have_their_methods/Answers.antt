use Rattle.std.proofs.Common.{refl}
use Rattle.method_table.specs.Rows.{row_of}
use Rattle.method_table.specs.Table.{table}
use Rattle.method_table.proofs.laws.named_rows_have_their_methods.Goals as goal

pub returns : goal.returns
unfolding row_of table
returns c = record { shutdown = refl; reload_workspace = refl; rebuild_proc_macros = refl; run_test = refl; join_lines = refl; on_enter = refl; selection_range = refl; matching_brace = refl; on_type = refl; formatting = refl; range_formatting = refl; completion = refl; diagnostic = refl; inlay_hint = refl; code_lens = refl; code_action = refl; hover = refl }
