use Rattle.std.proofs.Common.{◌≡◌, option_map, ap, ◌∙◌, arith}
use Rattle.std.specs.Option.{option_copied_mut}
use Rattle.serde_json.specs.Find.{get_member}
use Rattle.serde_json.specs.View.{view, members_view}
use Rattle.serde_json.proofs.Views.{view-lookup}
use Rattle.plain.specs.contracts.json_object.JsonObject.{the_view}
use Rattle.plain.proofs.MembersSet.{get_member-set_value}
use Rattle.plain.proofs.json_object.JsonObject.take_value.Goals as goal
use Rattle.plain.proofs.json_object.JsonObject.take_value.Goals.{in-Some, in-None}

pub returns-clause-value : goal.returns-clause-value
returns-clause-value c =
    let key = c.args.key.now in
    let found : option_map view (option_copied_mut c.get_mut.result) ≡ get_member key c.args.self.now =
    ap (option_map view) c.get_mut.ensures.value ∙ view-lookup key c.self.inside.map.entries ∙ ap (get_member key) c.self.view_is in
    elim c.match-get_mut.branch [ in-Some w ↦ grind arith | in-None w ↦ grind arith ]

pub returns-clause-others : goal.returns-clause-others
returns-clause-others c = λ q other.
    let key = c.args.key.now in
    elim c.match-get_mut.branch [
      | in-Some w ↦ ap (λ s. get_member q (the_view s)) w.self-inside-is ∙ ap (λ es. get_member q (members_view es)) (c.get_mut.follows.holds w.take.new.self).0
          ∙ get_member-set_value key q c.self.inside.map.entries w.take.new.self other ∙ ap (get_member q) c.self.view_is
      | in-None w ↦ ap (λ s. get_member q (the_view s)) w.self-inside-is ∙ ap (λ m. get_member q (members_view m.entries)) c.get_mut.follows.holds-at-none ∙ ap (get_member q) c.self.view_is
    ]
