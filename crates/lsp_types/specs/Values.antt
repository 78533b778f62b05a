-- Positions, ranges, text edits, diagnostics and watchers as JSON (LSP 3.17). An object has its keys in byte order, whatever order they are put in.
use Rattle.std.specs.Prelude.{◌≡◌, ℕ, ◌≤◌, false, List, [], ◌∷◌, codes, map, Option, None, Some}
use Rattle.std.specs.Option.{option_map}
use Rattle.serde_json.specs.Data.{Data, number, unsigned, string, array, object, Members, no_members, put, depth}
use Rattle.serde_json.specs.View.{items_of}
use Rattle.serde_json.specs.Written.{has_float}
use Rattle.docs_vfs.specs.FileUrls.{url_of}
use Rattle.lsp_types.specs.declared.diagnostic.Diagnostic.{Diagnostic}
use Rattle.lsp_types.specs.declared.diagnostic.Related.{Related}
use Rattle.lsp_types.specs.declared.watcher.Watcher.{Watcher}
use Rattle.lsp_types.specs.declared.watcher.Watcher.TheVariants.{Relative, Text}
use Rattle.text_core.specs.declared.change.TextEdit.{TextEdit}
use Rattle.text_core.specs.declared.position.Position.{Position}
use Rattle.text_core.specs.declared.position.Range.{Range}

-- no float, and so few levels that a list of such values is plain
pub record IsShallow (d : Data) : Type 0 where
  pub no_float : has_float d ≡ false
  pub levels : depth d ≤ 8

-- `{"character": .., "line": ..}`
abbrev pub position_value : Position → Data
position_value position =
    object (put (codes "character") (number (unsigned position.character)) (put (codes "line") (number (unsigned position.line)) no_members))

-- `{"end": .., "start": ..}`
abbrev pub range_value : Range → Data
range_value range =
    object (put (codes "end") (position_value range.end) (put (codes "start") (position_value range.start) no_members))

-- `{"newText": .., "range": ..}`
abbrev pub text_edit_value : TextEdit → Data
text_edit_value edit =
    object (put (codes "newText") (string edit.new_text) (put (codes "range") (range_value edit.range) no_members))

-- the list of values
abbrev pub list_value : {X : Type 0} → (X → Data) → List X → Data
list_value value xs = array (items_of (map value xs))

-- the members, with d at k, where there is a d
abbrev pub put_some : List ℕ → Option Data → Members → Members
put_some k None ms = ms
put_some k (Some d) ms = put k d ms

-- `{"range": .., "uri": ..}`
abbrev pub location_value : List ℕ → Range → Data
location_value path range = object (put (codes "range") (range_value range) (put (codes "uri") (string (url_of path)) no_members))

-- `{"location": .., "message": ..}`
abbrev pub related_value : Related → Data
related_value related =
    object (put (codes "message") (string related.message) (put (codes "location") (location_value related.path related.range) no_members))

-- no list where there is nothing in it
abbrev pub related_values : List Related → Option Data
related_values [] = None
related_values (related ∷ more) = Some (list_value related_value (related ∷ more))

abbrev pub severity_value : Option ℕ → Option Data
severity_value severity = option_map (λ n. number (unsigned n)) severity

abbrev pub text_value : Option (List ℕ) → Option Data
text_value text = option_map string text

-- the members that a diagnostic has, and those that it may have
abbrev pub diagnostic_members : Diagnostic → Members
diagnostic_members d =
    put_some (codes "relatedInformation") (related_values d.related) (put (codes "message") (string d.message)
    (put_some (codes "source") (text_value d.source) (put_some (codes "code") (text_value d.code)
    (put_some (codes "severity") (severity_value d.severity) (put (codes "range") (range_value d.range) no_members)))))

abbrev pub diagnostic_value : Diagnostic → Data
diagnostic_value d = object (diagnostic_members d)

-- `{"baseUri": .., "pattern": ..}`
abbrev pub relative_value : List ℕ → List ℕ → Data
relative_value base pattern = object (put (codes "pattern") (string pattern) (put (codes "baseUri") (string base) no_members))

abbrev pub pattern_value : Watcher → Data
pattern_value (Relative base pattern) = relative_value base pattern
pattern_value (Text pattern) = string pattern

-- `{"globPattern": ..}`
abbrev pub watcher_value : Watcher → Data
watcher_value watcher = object (put (codes "globPattern") (pattern_value watcher) no_members)
