-- The requests that change the session's own state, by their rows and params.
use Rattle.std.specs.Prelude.{◌==◌, Option, None, Some, if◌then◌else◌, option_map}
use Rattle.plain.specs.Plain.{is_plain}
use Rattle.serde_json.specs.Data.{Data}
use Rattle.method_table.specs.declared.named.TheConstants.{SHUTDOWN, RELOAD_WORKSPACE, REBUILD_PROC_MACROS, RUN_TEST}
use Rattle.method_table.specs.declared.row_id.RowId.{RowId}
use Rattle.method_table.specs.RunTest.{run_test_of}
use Rattle.method_table.specs.Unit.{is_unit}
use Rattle.method_table.specs.declared.request.StateRequest.{StateRequest}
use Rattle.method_table.specs.declared.request.StateRequest.TheVariants.{Shutdown, ReloadWorkspace, RebuildProcMacros, RunTest}

-- a request whose params say nothing, where they do
abbrev pub bare : StateRequest → Data → Option StateRequest
bare request params = if is_unit params then Some request else None

-- a request to run tests, whose params must be plain
abbrev pub running : Data → Option StateRequest
running params = if is_plain params then option_map RunTest (run_test_of params) else None

abbrev pub request_of : RowId → Data → Option StateRequest
request_of row params =
    if row.0 == SHUTDOWN.0 then bare Shutdown params
    else if row.0 == RELOAD_WORKSPACE.0 then bare ReloadWorkspace params
    else if row.0 == REBUILD_PROC_MACROS.0 then bare RebuildProcMacros params
    else if row.0 == RUN_TEST.0 then running params
    else None
