use Rattle.std.proofs.Common.{ap, ◌∙◌}
use Rattle.plain.specs.Plain.{is_plain}
use Rattle.serde_json.specs.Data.{array}
use Rattle.serde_json.specs.View.{items_of}
use Rattle.lsp_types.specs.Shallow.{list_plain}
use Rattle.lsp_types.proofs.to_json.list_json.Goals as goal

pub returns-clause-plain : goal.returns-clause-plain
returns-clause-plain g c =
    ap is_plain (c.array.ensures ∙ ap (λ items. array (items_of items)) c.in_ok-values.ensures)
    ∙ list_plain g.T.ToJson.json g.met.T.ToJson.shallow c.args.items.now
