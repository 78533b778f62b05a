use Rattle.std.proofs.Common.{◌≡◌, option_map, ap, ◌∙◌, arith}
use Rattle.serde_json.specs.Find.{get_member}
use Rattle.serde_json.specs.View.{view, members_view}
use Rattle.serde_json.proofs.Views.{view-lookup}
use Rattle.plain.proofs.MembersLemmas.{get_member-remove_entry, members_view-remove_entry}
use Rattle.plain.specs.Removed.{removed}
use Rattle.plain.proofs.json_object.JsonObject.take.Goals as goal
use Rattle.plain.proofs.json_object.JsonObject.take.Goals.{in-Some, in-None}

pub returns-clause-value : goal.returns-clause-value
returns-clause-value c =
    let key = c.args.key.now in
    let found : option_map view c.remove.result ≡ get_member key c.args.self.now =
    ap (option_map view) c.remove.ensures.value ∙ view-lookup key c.self.inside.map.entries ∙ ap (get_member key) c.self.view_is in
    elim c.match-remove.branch [ in-Some w ↦ grind arith | in-None w ↦ grind arith ]

pub returns-clause-others : goal.returns-clause-others
returns-clause-others c = λ q other.
    let key = c.args.key.now in
    ap (λ es. get_member q (members_view es)) c.remove.ensures.entries ∙ get_member-remove_entry key q c.self.inside.map.entries other ∙ ap (get_member q) c.self.view_is

pub returns-clause-members : goal.returns-clause-members
returns-clause-members c =
    let key = c.args.key.now in
    ap members_view c.remove.ensures.entries ∙ members_view-remove_entry key c.self.inside.map.entries ∙ ap (removed key) c.self.view_is
