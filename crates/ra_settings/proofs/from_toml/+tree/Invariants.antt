use Rattle.std.proofs.Common.{◌≡◌, ◌++◌, drop, map}
use Rattle.serde_json.specs.View.{view as json_view}
use Rattle.serde_json.specs.Data.{no_members}
use Rattle.toml.specs.View.{items_view, members_view, table_view}
use Rattle.ra_settings.specs.Toml.{list_of, members_of}
use Rattle.ra_settings.proofs.from_toml.+tree.Given as goal

abbrev pub invariant-list_of-loop-item : goal.invariant-list_of-loop-item
invariant-list_of-loop-item l = map json_view l.made.items ++ list_of (items_view (drop l.item-index l.list.items)) ≡ list_of (items_view l.list.items)

abbrev pub invariant-members_of-loop-key : goal.invariant-members_of-loop-key
invariant-members_of-loop-key l = members_of l.made (members_view l.key-iterator) ≡ members_of no_members (table_view l.table)
