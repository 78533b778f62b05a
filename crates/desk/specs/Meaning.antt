-- What an analysis reads and answers.
use Rattle.std.specs.Prelude.{Bool, ◌&&◌}
use Rattle.plain.specs.Plain.{is_plain}
use Rattle.serde_json.specs.Data.{Data}
use Rattle.analysis_host.specs.Answers.{OutcomeSpec}
use Rattle.analysis_host.specs.SnapshotData.{SnapshotData}
use Rattle.analysis_host.specs.declared.ask.Ask.{Ask}
use Rattle.method_table.specs.declared.row_id.RowId.{RowId}

pub record Meaning : Type 0 where
  -- can these params of a row be read
  pub decodes : RowId → Data → Bool
  -- what a question on a snapshot comes to
  pub answer : SnapshotData → Ask → OutcomeSpec

abbrev pub meaning_of : (RowId → Data → Bool) → (SnapshotData → Ask → OutcomeSpec) → Meaning
meaning_of decodes answer = record { decodes = decodes; answer = answer }

-- the params of a row can be read
abbrev pub can_read : Meaning → RowId → Data → Bool
can_read meaning row params = is_plain params && meaning.decodes row params
