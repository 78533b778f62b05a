-- When a request is handed to a job.
use Rattle.std.proofs.Common.{◌≡◌, ◌⊎◌, Bool, true, false, Option, None, Some, refl, inl, inr}
use Rattle.std.specs.Prelude.{if◌then◌else◌, ◌||◌}
use Rattle.std.specs.Option.{option_and_then, option_map_or}
use Rattle.method_table.specs.Plans.{class_plan, is_shutdown, plan}
use Rattle.method_table.specs.Rows.{facts_of}
use Rattle.method_table.specs.Table.{RowFacts}
use Rattle.method_table.specs.declared.class.Class.{Class}
use Rattle.method_table.specs.declared.class.Class.TheVariants as class
use Rattle.method_table.specs.declared.class.PoolClass.{PoolClass}
use Rattle.method_table.specs.declared.class.PoolClass.TheVariants as pool
use Rattle.method_table.specs.declared.planned.Plan.{Plan}
use Rattle.method_table.specs.declared.planned.Plan.TheVariants.{Shutdown, Refuse, Unknown, Job}
use Rattle.method_table.specs.declared.row_id.RowId.{RowId}

by_class : (incomplete : Bool) (c : Class) (p : PoolClass) → class_plan true incomplete c ≡ Job p → p ≡ pool.Formatting
by_class incomplete class.State p e = cc
by_class incomplete class.OnLoop p e = cc
by_class incomplete class.Formatting p e = cc
by_class incomplete class.Latency p e = cc
by_class incomplete class.DocumentDiagnostic p e = cc
by_class incomplete class.Worker p e = cc
by_class incomplete class.Identity p e = cc

by_facts : (incomplete : Bool) (facts : Option RowFacts) (p : PoolClass) → option_map_or (λ f. class_plan true incomplete f.class) facts Unknown ≡ Job p → p ≡ pool.Formatting
by_facts incomplete None p e = cc
by_facts incomplete (Some facts) p e = by_class incomplete facts.class p e

by_state : (first refused : Bool) (other : Plan) (p : PoolClass) → (if first then Shutdown else if refused then Refuse else other) ≡ Job p → (other ≡ Job p → p ≡ pool.Formatting) → p ≡ pool.Formatting
by_state true refused other p e f = cc
by_state false true other p e f = cc
by_state false false other p e f = f e

pub only_formatting : (row : Option RowId) (incomplete shutdown : Bool) (p : PoolClass) → plan row true incomplete shutdown ≡ Job p → p ≡ pool.Formatting
only_formatting row incomplete shutdown p e = by_state (is_shutdown row) shutdown _ p e (by_facts incomplete (option_and_then facts_of row) p)

refused : (first : Bool) → ((if first then Shutdown else Refuse) ≡ Shutdown) ⊎ ((if first then Shutdown else Refuse) ≡ Refuse)
refused true = inl refl
refused false = inr refl

pub none_later : (row : Option RowId) (loading incomplete : Bool) → (plan row loading incomplete true ≡ Shutdown) ⊎ (plan row loading incomplete true ≡ Refuse)
none_later row loading incomplete = refused (is_shutdown row)
