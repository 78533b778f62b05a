use Rattle.activities.proofs.PrimingLaws.{reports_give_way}
use Rattle.activities.proofs.laws.a_report_gives_way_to_the_next.Goals as goal

pub returns : goal.returns
returns c = reports_give_way
