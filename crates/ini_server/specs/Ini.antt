-- What a hover on an `.ini` file answers. All is said of the UTF-8 bytes of a text.
use Rattle.std.specs.Prelude.{ℕ, ◌-◌, ◌==◌, ◌||◌, ◌&&◌, Bool, false, true, not, nat_le, nat_lt, is_some, List, [], ◌∷◌, codes, length, take, drop, if◌then◌else◌, Option, Some, None, Result, Ok, Err}
use Rattle.std.specs.Char.{is_ascii_whitespace}
use Rattle.std.specs.List.{after_first, before_first, position_or_len, prefix_len, suffix_len}
use Rattle.serde_json.specs.Data.{Data, null, boolean, string, object, put, member, no_members}
use Rattle.analysis_host.specs.Answers.{OutcomeSpec, answer}
use Rattle.analysis_host.specs.SnapshotData.{SnapshotData, encoding_of}
use Rattle.analysis_host.specs.declared.ask.Ask.{Ask}
use Rattle.analysis_host.specs.declared.ask.Ask.TheVariants.{Request, Part, Syntax, Semantic, Tests as TestsOf, CratesOf, Prime}
use Rattle.analysis_host.specs.declared.ask.Answer.TheVariants.{Json, Diagnostics, Tests, Roots, Primed}
use Rattle.analysis_host.specs.declared.server_info.ServerInfo.{ServerInfo}
use Rattle.method_table.specs.Rows.{default_of}
use Rattle.method_table.specs.declared.named.TheConstants.{HOVER}
use Rattle.method_table.specs.declared.row_id.RowId.{RowId}
use Rattle.requests.specs.Files.{in_text, malformed, refusal, text_of}
use Rattle.lsp_types.specs.Params.{position_of, uri_of}
use Rattle.text_core.specs.Lines.{line_text}
use Rattle.text_core.specs.Positions.{range_of}
use Rattle.text_core.specs.declared.position.OffsetFault.{OffsetFault}
use Rattle.text_core.specs.declared.position.Position.{Position}
use Rattle.text_core.specs.declared.position.PositionEncoding.{PositionEncoding}

-- ---- a line: `key = value`

-- `=`
abbrev pub is_equals : ℕ → Bool
is_equals b = b == 61

-- how much white space stands in front of a text
abbrev pub indent : List ℕ → ℕ
indent text = prefix_len is_ascii_whitespace text

-- a text without the white space in front of it
abbrev pub trimmed_start : List ℕ → List ℕ
trimmed_start text = drop (indent text) text

-- a text without the white space behind it
abbrev pub trimmed_end : List ℕ → List ℕ
trimmed_end text = take (length text - suffix_len is_ascii_whitespace text) text

-- a text without the white space around it
abbrev pub trimmed : List ℕ → List ℕ
trimmed text = trimmed_end (trimmed_start text)

-- a line with an `=`
abbrev pub has_equals : List ℕ → Bool
has_equals line = nat_lt (position_or_len is_equals line) (length line)

-- the name stands before the first `=`, and the value behind it
abbrev pub name_of : List ℕ → List ℕ
name_of line = before_first is_equals line

abbrev pub value_of : List ℕ → List ℕ
value_of line = trimmed (after_first is_equals line)

-- a section begins with `[`, and a comment with `;` or `#`: they have no key
abbrev pub is_key : List ℕ → Bool
is_key [] = false
is_key (b ∷ rest) = not (b == 91 || b == 59 || b == 35)

-- a column stands on a byte of the key, which is the name without the white space around it
abbrev pub is_on_key : List ℕ → ℕ → Bool
is_on_key name column = is_key (trimmed name) && nat_le (indent name) column && nat_lt (column - indent name) (length (trimmed name))

-- the value of the key that a column of a line stands on
abbrev pub value_at : List ℕ → ℕ → Option (List ℕ)
value_at line column = if has_equals line && is_on_key (name_of line) column then Some (value_of line) else None

-- ---- hover

-- the front of the line of a position
abbrev pub front_of : Position → Position
front_of position = record { line = position.line; character = 0 }

-- `{"contents": value}`, or null where there is none
abbrev pub contents : Option (List ℕ) → Data
contents None = null
contents (Some value) = object (member (codes "contents") (string value) no_members)

-- hover on a line, by where it begins and where the position stands
abbrev pub hover_at : List ℕ → Result (ℕ × ℕ) OffsetFault → OutcomeSpec
hover_at line (Err fault) = refusal (codes "Invalid offset")
hover_at line (Ok places) = answer (Json (contents (value_at line (places.1 - places.0))))

-- hover at a position of a text, by what a column counts
abbrev pub hover_in : PositionEncoding → Position → List ℕ → OutcomeSpec
hover_in encoding position text =
    hover_at (line_text text position.line) (range_of encoding text (record { start = front_of position; end = position }))

-- hover at a position of a URL
abbrev pub hover_of : SnapshotData → Option (List ℕ) → Option Position → OutcomeSpec
hover_of snapshot (Some uri) (Some position) = in_text (hover_in (encoding_of snapshot) position) (text_of snapshot uri)
hover_of snapshot (Some uri) None = malformed
hover_of snapshot None position = malformed

-- ---- the analysis

abbrev pub is_hover : RowId → Bool
is_hover row = row.0 == HOVER.0

-- hover's params are a document's URL and a position; every other row's may be anything
abbrev pub ini_decodes : RowId → Data → Bool
ini_decodes row params = if is_hover row then is_some (uri_of params) && is_some (position_of params) else true

-- every other row answers its default
abbrev pub ini_request : SnapshotData → RowId → Data → OutcomeSpec
ini_request snapshot row params =
    if is_hover row then hover_of snapshot (uri_of params) (position_of params) else answer (Json (default_of row))

-- nothing is wrong, and there are no tests and no crates
abbrev pub ini_answer : SnapshotData → Ask → OutcomeSpec
ini_answer snapshot (Request row params) = ini_request snapshot row params
ini_answer snapshot (Part row params files) = ini_request snapshot row params
ini_answer snapshot (Syntax file) = answer (Diagnostics [])
ini_answer snapshot (Semantic file) = answer (Diagnostics [])
ini_answer snapshot (TestsOf file) = answer (Tests [])
ini_answer snapshot (CratesOf file) = answer (Roots [])
ini_answer snapshot Prime = answer Primed

-- what a server with this analysis says of itself
abbrev pub ini_info : ServerInfo
ini_info = record { name = codes "ini_server"; version = codes "0.1.0"; capabilities = put (codes "hoverProvider") (boolean true) no_members }
