-- What is read of the edits of a document (LSP 3.17, TextDocumentContentChangeEvent).
use Rattle.std.specs.Prelude.{List, [], ◌∷◌, codes, if◌then◌else◌, Option, Some, None, option_map, option_and_then}
use Rattle.plain.specs.Reading.{is_null}
use Rattle.serde_json.specs.Data.{Data, Members, Items, no_items, item}
use Rattle.serde_json.specs.Find.{get_member, as_str, as_object}
use Rattle.text_core.specs.declared.change.ContentChange.{ContentChange}
use Rattle.text_core.specs.declared.position.Range.{Range}
use Rattle.lsp_types.specs.Reading.{read_range}

-- a range that is absent or null is none
abbrev pub edit_range : Option Data → Option (Option Range)
edit_range None = Some None
edit_range (Some d) = if is_null d then Some None else option_map Some (read_range d)

abbrev pub members_edit : Members → Option ContentChange
members_edit ms =
    option_and_then (λ range. option_map (λ text. record { range = range; text = text }) (option_and_then as_str (get_member (codes "text") ms)))
    (edit_range (get_member (codes "range") ms))

-- a text, in the place of a range or of the whole text
abbrev pub read_edit : Data → Option ContentChange
read_edit d = option_and_then members_edit (as_object d)

abbrev pub read_edits : Items → Option (List ContentChange)
read_edits no_items = Some []
read_edits (item d ds) = option_and_then (λ edit. option_map (λ edits. edit ∷ edits) (read_edits ds)) (read_edit d)
