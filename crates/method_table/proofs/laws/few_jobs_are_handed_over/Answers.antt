use Rattle.method_table.proofs.PlanLaws.{none_later, only_formatting}
use Rattle.method_table.proofs.laws.few_jobs_are_handed_over.Goals as goal

pub returns : goal.returns
returns c = record { loading = only_formatting; shutdown = none_later }
