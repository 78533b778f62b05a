use Rattle.std.proofs.Common.{refl}
use Rattle.activities.proofs.CheckLaws.{count_before, ends_under, reports_under}
use Rattle.activities.specs.CheckNames.{title_by}
use Rattle.activities.proofs.laws.a_check_ends_under_the_title_that_it_began_with.Goals as goal

pub returns : goal.returns
returns c = λ before since then_set now_set id command end goes ends. (
  title_by (count_before then_set id command before) id command,
  refl,
  ends_under then_set id command before now_set end since goes ends,
  λ name. reports_under then_set id command before now_set name since goes,
)
