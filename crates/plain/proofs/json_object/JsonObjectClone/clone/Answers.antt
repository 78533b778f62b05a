use Rattle.std.proofs.Common.{◌∙◌}
use Rattle.plain.proofs.MembersLemmas.{members_view-copies}
use Rattle.plain.proofs.json_object.JsonObjectClone.clone.Goals as goal

pub returns : goal.returns
returns c = record { cases = members_view-copies _ _ c.in_ok-clone.ensures.cases ∙ c.self.view_is }
