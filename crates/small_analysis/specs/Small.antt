-- What the small analysis answers.
use Rattle.std.specs.Prelude.{◌≡◌, ℕ, ◌==◌, ◌&&◌, Bool, true, is_some, List, codes, if◌then◌else◌, Option, Some, None}
use Rattle.plain.specs.Plain.{is_plain}
use Rattle.serde_json.specs.Data.{Data, null, boolean, string, object, put, member, no_members}
use Rattle.analysis_host.specs.Answers.{OutcomeSpec, answer}
use Rattle.analysis_host.specs.SnapshotData.{SnapshotData, encoding_of}
use Rattle.analysis_host.specs.declared.ask.Ask.{Ask}
use Rattle.analysis_host.specs.declared.ask.Ask.TheVariants.{Request, Part, Syntax, Semantic, Tests as TestsOf}
use Rattle.analysis_host.specs.declared.ask.Ask.TheVariants.{CratesOf, Prime}
use Rattle.analysis_host.specs.declared.ask.Answer.TheVariants.{Json, Primed}
use Rattle.analysis_host.specs.declared.ask.Outcome.{Outcome}
use Rattle.analysis_host.specs.declared.ask.Outcome.TheVariants.{Value, Fault, Cancelled}
use Rattle.analysis_host.specs.declared.server_info.ServerInfo.{ServerInfo}
use Rattle.method_table.specs.Rows.{class_of, default_of}
use Rattle.method_table.specs.declared.class.Class.{Class}
use Rattle.method_table.specs.declared.class.Class.TheVariants.{OnLoop, Formatting, Identity}
use Rattle.method_table.specs.declared.named.TheConstants.{HOVER, MATCHING_BRACE}
use Rattle.method_table.specs.declared.row_id.RowId.{RowId}
use Rattle.lsp_types.specs.Values.{list_value, position_value}
use Rattle.requests.specs.Files.{in_text, malformed, refusal, text_of}
use Rattle.small_analysis.specs.Findings.{semantic_of, syntax_of, tests_of}
use Rattle.small_analysis.specs.Matches.{all_matched}
use Rattle.small_analysis.specs.Names.{name_at}
use Rattle.small_analysis.specs.Params.{HoverData, BraceData, hover_params, brace_params}
use Rattle.small_analysis.specs.Positions.{place_in}
use Rattle.small_analysis.specs.Roots.{crates_of}
use Rattle.text_core.specs.declared.position.Position.{Position}
use Rattle.text_core.specs.declared.position.PositionEncoding.{PositionEncoding}

-- the row of `textDocument/hover`
abbrev pub is_hover : RowId → Bool
is_hover row = row.0 == HOVER.0

-- the row of `experimental/matchingBrace`
abbrev pub is_matching_brace : RowId → Bool
is_matching_brace row = row.0 == MATCHING_BRACE.0

-- hover's params are a document's URL and a position, matchingBrace's a URL and positions; every other row's may be
-- anything
abbrev pub small_decodes : RowId → Data → Bool
small_decodes row params =
    if is_hover row then is_some (hover_params params)
    else (if is_matching_brace row then is_some (brace_params params) else true)

-- `{"contents": name}`, or null where there is no name
abbrev pub hover_value : Option (List ℕ) → Data
hover_value None = null
hover_value (Some name) = object (member (codes "contents") (string name) no_members)

-- the name at a place of a text
abbrev pub hover_at : List ℕ → Option ℕ → OutcomeSpec
hover_at text None = refusal (codes "Invalid offset")
hover_at text (Some offset) = answer (Json (hover_value (name_at text offset)))

abbrev pub hover_in : PositionEncoding → Position → List ℕ → OutcomeSpec
hover_in encoding position text = hover_at text (place_in encoding text position)

abbrev pub hover_of : SnapshotData → Option HoverData → OutcomeSpec
hover_of snapshot None = malformed
hover_of snapshot (Some hover) = in_text (hover_in (encoding_of snapshot) hover.position) (text_of snapshot hover.uri)

abbrev pub braces_at : Option (List Position) → OutcomeSpec
braces_at None = refusal (codes "Invalid offset")
braces_at (Some positions) = answer (Json (list_value position_value positions))

abbrev pub braces_in : PositionEncoding → List Position → List ℕ → OutcomeSpec
braces_in encoding positions text = braces_at (all_matched encoding text positions)

abbrev pub braces_of : SnapshotData → Option BraceData → OutcomeSpec
braces_of snapshot None = malformed
braces_of snapshot (Some braces) = in_text (braces_in (encoding_of snapshot) braces.positions)
    (text_of snapshot braces.uri)

-- what a row of a class is answered where nothing is known: an identity row its params; a row of the session's own turn
-- and one of the formatting workers null; any other its default
abbrev pub class_value : RowId → Data → Class → Data
class_value row params Identity = params
class_value row params OnLoop = null
class_value row params Formatting = null
class_value row params other = default_of row

abbrev pub row_value : RowId → Data → Data
row_value row params = class_value row params (class_of row)

-- a value that isn't plain is no answer
abbrev pub plain_answer : Data → OutcomeSpec
plain_answer value = if is_plain value then answer (Json value) else malformed

abbrev pub row_answer : SnapshotData → RowId → Data → OutcomeSpec
row_answer snapshot row params =
    if is_hover row then hover_of snapshot (hover_params params)
    else (if is_matching_brace row then braces_of snapshot (brace_params params) else plain_answer
    (row_value row params))

-- params that aren't plain, or that can't be read, are malformed
abbrev pub request_answer : SnapshotData → RowId → Data → OutcomeSpec
request_answer snapshot row params = if is_plain params && small_decodes row params then row_answer snapshot row params
    else malformed

-- no row is answered in parts: a part of one is answered as the whole. Nothing has to be found out beforehand
abbrev pub small_answer : SnapshotData → Ask → OutcomeSpec
small_answer snapshot (Request row params) = request_answer snapshot row params
small_answer snapshot (Part row params files) = request_answer snapshot row params
small_answer snapshot (Syntax file) = syntax_of snapshot file
small_answer snapshot (Semantic file) = semantic_of snapshot file
small_answer snapshot (TestsOf file) = tests_of snapshot file
small_answer snapshot (CratesOf file) = crates_of snapshot file
small_answer snapshot Prime = answer Primed

-- a row answers plain params by a value of them, whatever the snapshot
abbrev pub IsAnsweredBy : RowId → (Data → Data) → Type 0
IsAnsweredBy row value =
    (snapshot : SnapshotData) (params : Data) → is_plain params ≡ true
    → small_answer snapshot (Request row params) ≡ answer (Json (value params))

-- the number that stopped a query
abbrev pub outdated_by : Outcome → Option ℕ
outdated_by (Value value) = None
outdated_by (Fault code message) = None
outdated_by (Cancelled saw) = Some saw

-- what a server with this analysis says of itself
abbrev pub small_info : ServerInfo
small_info = record {
  name = codes "ra_serve";
  version = codes "1";
  capabilities =
      put (codes "hoverProvider") (boolean true) no_members;
}
