-- What is done for a request.
use Rattle.std.specs.Prelude.{◌==◌, ◌||◌, Bool, false, if◌then◌else◌, Option}
use Rattle.std.specs.Option.{option_map_or, option_and_then}
use Rattle.method_table.specs.Rows.{facts_of}
use Rattle.method_table.specs.declared.class.Class.{Class}
use Rattle.method_table.specs.declared.class.Class.TheVariants as class
use Rattle.method_table.specs.declared.class.PoolClass.TheVariants as pool
use Rattle.method_table.specs.declared.named.TheConstants.{SHUTDOWN}
use Rattle.method_table.specs.declared.planned.Plan.{Plan}
use Rattle.method_table.specs.declared.planned.Plan.TheVariants.{Shutdown, Refuse, Unknown, Default, Identity, State, OnLoop, Job}
use Rattle.method_table.specs.declared.row_id.RowId.{RowId}

-- a request of a class, while files are loading or not, while the crate graph is incomplete or not
abbrev pub class_plan : Bool → Bool → Class → Plan
class_plan loading incomplete class.State = State
class_plan loading incomplete class.OnLoop = OnLoop
class_plan loading incomplete class.Formatting = Job pool.Formatting
class_plan loading incomplete class.Latency = if loading then Default else Job pool.Latency
class_plan loading incomplete class.DocumentDiagnostic = if loading || incomplete then Default else Job pool.Worker
class_plan loading incomplete class.Worker = if loading then Default else Job pool.Worker
class_plan loading incomplete class.Identity = if loading then Identity else Job pool.Worker

abbrev pub is_shutdown : Option RowId → Bool
is_shutdown row = option_map_or (λ r. r.0 == SHUTDOWN.0) row false

-- the first that applies: a shutdown; a request after a shutdown was requested; one of no row; one of a class
abbrev pub plan : Option RowId → Bool → Bool → Bool → Plan
plan row loading incomplete shutdown =
    if is_shutdown row then Shutdown
    else if shutdown then Refuse
    else option_map_or (λ facts. class_plan loading incomplete facts.class) (option_and_then facts_of row) Unknown
