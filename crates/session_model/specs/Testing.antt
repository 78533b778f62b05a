-- Runs of tests that a client asks for.
use Rattle.std.specs.Prelude.{List, Option, None, Some, if◌then◌else◌}
use Rattle.lsp_frame.specs.declared.message.Request.{Request}
use Rattle.method_table.specs.Rows.{row_of}
use Rattle.method_table.specs.StateRequests.{request_of}
use Rattle.method_table.specs.declared.request.RunTest.{RunTest}
use Rattle.method_table.specs.declared.request.StateRequest.{StateRequest}
use Rattle.method_table.specs.declared.request.StateRequest.TheVariants as requests
use Rattle.method_table.specs.declared.row_id.RowId.{RowId}
use Rattle.serde_json.specs.Data.{Data}
use Rattle.desk.specs.Desk.{Desk}
use Rattle.session_model.specs.Fetching.{takes}

abbrev pub run_in : Option StateRequest → Option RunTest
run_in (Some (requests.RunTest run)) = Some run
run_in other = None

abbrev pub run_of_row : Option RowId → Data → Option RunTest
run_of_row None params = None
run_of_row (Some row) params = run_in (request_of row params)

-- the run that a request asks for, where it asks for one and is taken
abbrev pub run_asked_by : Request → Desk → Option RunTest
run_asked_by r desk = if takes r desk then run_of_row (row_of r.method) r.params else None
