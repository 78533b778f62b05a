use Rattle.serde_json.proofs.Views.{members_view-insert_entry}
use Rattle.plain.proofs.json_object.JsonObject.put.Goals as goal

pub returns-clause-ok : goal.returns-clause-ok
returns-clause-ok c =
    rw (c.in_ok-insert.ensures.entries, members_view-insert_entry c.self.inside.map.entries c.in_ok-key.key c.into_value.result, c.in_ok-key.ensures.ok, c.into_value.ensures, c.self.view_is)
