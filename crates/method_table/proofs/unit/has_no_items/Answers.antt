use Rattle.std.proofs.Common.{rules, ◌≡◌, ap, ◌∙◌, length}
use Rattle.std.specs.Prelude.{◌==◌}
use Rattle.std.specs.Vec.{vec_len}
use Rattle.method_table.proofs.Units.{none-among}
use Rattle.method_table.proofs.unit.has_no_items.Goals as goal

pub returns : goal.returns
returns c =
    let long : vec_len c.args.items.now ≡ length c.args.items.now.items = search rules in
    c.is_empty.ensures ∙ ap (λ n. n == 0) long ∙ none-among c.args.items.now.items
