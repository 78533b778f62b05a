-- What is known of a job by its kind: a row for each kind, and what is asked of a row.
use Rattle.std.specs.Prelude.{ℕ, List, [], ◌∷◌, map as each, Bool, true, false, Option, None, Some}
use Rattle.std.specs.Option.{option_map}
use Rattle.docs_vfs.specs.declared.file_kinds.FileId.{FileId}
use Rattle.method_table.specs.declared.row_id.RowId.{RowId}
use Rattle.serde_json.specs.Data.{Data}
use Rattle.op_board.specs.declared.diagnostic.NativePass.{NativePass}
use Rattle.op_board.specs.declared.diagnostic.NativePass.TheVariants.{Syntax, Semantic}
use Rattle.analysis_host.specs.declared.ask.Ask.{Ask}
use Rattle.analysis_host.specs.declared.ask.Ask.TheVariants as asks
use Rattle.session_port.specs.declared.job.JobKind.{JobKind}
use Rattle.session_port.specs.declared.job.JobKind.TheVariants.{Request, Part, Diagnostics, Tests, Indexed}
use Rattle.session_port.specs.declared.job.JobKind.TheVariants.{ProcMacroSources, CheckScope}
use Rattle.session_port.specs.declared.job.JobKind.TheVariants.{Prime, FetchWorkspaces, FetchBuildData, LoadProcMacros}
use Rattle.session_port.specs.declared.job.JobValue.{JobValue}
use Rattle.session_port.specs.declared.job.JobValue.TheVariants as values
use Rattle.session_port.specs.declared.kinds.JobFacts.{JobFacts}
use Rattle.session_port.specs.declared.kinds.JobGroup.{JobGroup}
use Rattle.session_port.specs.declared.kinds.JobGroup.TheVariants as groups
use Rattle.session_port.specs.declared.kinds.Slot.{Slot}
use Rattle.session_port.specs.declared.kinds.ValueKind.{ValueKind}
use Rattle.session_port.specs.declared.kinds.ValueKind.TheVariants as kinds

-- ---- slots

abbrev pub slot_at : ℕ → ℕ → Slot
slot_at ticket part = record { ticket = ticket; part = part }

-- ---- the table

-- a job for a part of a request
abbrev pub for_slot : ℕ → ℕ → JobFacts
for_slot ticket part = record {
  group = groups.Requests;
  slot = Some (slot_at ticket part);
  asks_analysis =
      true;
  value = kinds.Json;
}

-- a job of the session's own for which the analysis is asked
abbrev pub asked : JobGroup → ValueKind → JobFacts
asked group value = record { group = group; slot = None; asks_analysis = true; value = value }

-- a job of the host's own
abbrev pub found : JobGroup → ValueKind → JobFacts
found group value = record { group = group; slot = None; asks_analysis = false; value = value }

abbrev pub facts_of : JobKind → JobFacts
facts_of (Request ticket row params) = for_slot ticket 0
facts_of (Part ticket part row params files) = for_slot ticket part
facts_of (Diagnostics generation pass files) = asked groups.Diagnosing kinds.Diagnostics
facts_of (Tests files) = asked groups.Testing kinds.Tests
facts_of (Indexed file path) = asked groups.Indexing kinds.Roots
facts_of (ProcMacroSources files) = asked groups.SourceChecks kinds.Roots
facts_of (CheckScope file path) = asked groups.Scoping kinds.Roots
facts_of Prime = asked groups.Priming kinds.Primed
facts_of (FetchWorkspaces projects detached path force) = found groups.Fetches kinds.Workspaces
facts_of (FetchBuildData version) = found groups.Builds kinds.BuildData
facts_of (LoadProcMacros paths ignored) = found groups.Loads kinds.ProcMacros

-- ---- what is asked of a row

-- the part of a request that a job is to answer
abbrev pub slot_of : JobKind → Option Slot
slot_of kind = (facts_of kind).slot

-- the request that a job is for, if it is for one
abbrev pub ticket_of_job : JobKind → Option ℕ
ticket_of_job kind = option_map (λ (slot : Slot). slot.ticket) (slot_of kind)

-- a request, as a job for it or for a part of it keeps it
pub record AskedFor : Type 0 where
  pub ticket : ℕ
  pub row : RowId
  pub params : Data

-- the request that a job is to answer, or to answer a part of
abbrev pub asked_for : JobKind → Option AskedFor
asked_for (Request ticket row params) = Some (record { ticket = ticket; row = row; params = params })
asked_for (Part ticket part row params files) = Some (record { ticket = ticket; row = row; params = params })
asked_for other = None

-- the analysis is asked: else the job is the host's own
abbrev pub asks_analysis : JobKind → Bool
asks_analysis kind = (facts_of kind).asks_analysis

-- what a job is for
abbrev pub job_group : JobKind → JobGroup
job_group kind = (facts_of kind).group

-- what its value is of
abbrev pub value_kind : JobKind → ValueKind
value_kind kind = (facts_of kind).value

-- the group of the jobs that find out beforehand what later questions need
abbrev pub is_priming : JobGroup → Bool
is_priming groups.Priming = true
is_priming other = false

-- ---- questions

-- the question of a pass about a file
abbrev pub pass_ask : NativePass → FileId → Ask
pass_ask Syntax = asks.Syntax
pass_ask Semantic = asks.Semantic

-- the questions that a job asks, one after another
abbrev pub asks_of : JobKind → List Ask
asks_of (Request ticket row params) = asks.Request row params ∷ []
asks_of (Part ticket part row params files) = asks.Part row params files ∷ []
asks_of (Diagnostics generation pass files) = each (pass_ask pass) files
asks_of (Tests files) = each asks.Tests files
asks_of (Indexed file path) = asks.CratesOf file ∷ []
asks_of (ProcMacroSources files) = each asks.CratesOf files
asks_of (CheckScope file path) = asks.CratesOf file ∷ []
asks_of Prime = asks.Prime ∷ []
asks_of other = []

-- the files for which a job's value has lists
abbrev pub listed_files : JobKind → List FileId
listed_files (Diagnostics generation pass files) = files
listed_files other = []

-- ---- values

-- what a value is of
abbrev pub kind_of : JobValue → ValueKind
kind_of (values.Json value) = kinds.Json
kind_of (values.Diagnostics lists) = kinds.Diagnostics
kind_of (values.Tests tests) = kinds.Tests
kind_of (values.Roots paths) = kinds.Roots
kind_of values.Primed = kinds.Primed
kind_of (values.Workspaces results) = kinds.Workspaces
kind_of (values.BuildData results) = kinds.BuildData
kind_of (values.ProcMacros macros) = kinds.ProcMacros

abbrev pub is_same_kind : ValueKind → ValueKind → Bool
is_same_kind kinds.Json kinds.Json = true
is_same_kind kinds.Diagnostics kinds.Diagnostics = true
is_same_kind kinds.Tests kinds.Tests = true
is_same_kind kinds.Roots kinds.Roots = true
is_same_kind kinds.Primed kinds.Primed = true
is_same_kind kinds.Workspaces kinds.Workspaces = true
is_same_kind kinds.BuildData kinds.BuildData = true
is_same_kind kinds.ProcMacros kinds.ProcMacros = true
is_same_kind one other = false
