-- What the small analysis finds wrong in a text.
use Rattle.std.specs.Prelude.{ℕ, zero, suc, ◌+◌, List, [], ◌∷◌, ◌++◌, codes, length, is_some, if◌then◌else◌}
use Rattle.std.specs.Prelude.{Option, None, Some}
use Rattle.std.specs.FinMap as map
use Rattle.analysis_host.specs.Answers.{OutcomeSpec, answer}
use Rattle.analysis_host.specs.SnapshotData.{SnapshotData, encoding_of}
use Rattle.analysis_host.specs.SnapshotFiles.{file_text}
use Rattle.analysis_host.specs.declared.ask.Answer.TheVariants.{Diagnostics, Tests}
use Rattle.docs_vfs.specs.declared.file_kinds.FileId.{FileId}
use Rattle.lsp_types.specs.declared.diagnostic.Diagnostic.{Diagnostic}
use Rattle.requests.specs.Files.{refusal}
use Rattle.small_analysis.specs.Defined.{Names, defined_at, defined_before}
use Rattle.small_analysis.specs.Names.{run_end, run_start}
use Rattle.small_analysis.specs.Positions.{position_in}
use Rattle.small_analysis.specs.Unmatched.{is_unmatched}
use Rattle.text_core.specs.declared.position.PositionEncoding.{PositionEncoding}

-- what is said of the bytes from one place up to another
abbrev pub said : PositionEncoding → List ℕ → ℕ → ℕ → ℕ → List ℕ → Diagnostic
said encoding text severity from to message = record {
  range = record { start = position_in encoding text from; end = position_in encoding text to };
  severity = Some severity;
  code = None;
  source = Some (codes "ra_serve");
  message = message;
  related = [];
}

-- what is said at the first places of a text, in order, by what is said at one
abbrev pub said_before : (ℕ → List Diagnostic) → ℕ → List Diagnostic
said_before said_at zero = []
said_before said_at (suc n) = said_before said_at n ++ said_at n

-- a bracket without partner is an error
abbrev pub bracket_said : PositionEncoding → List ℕ → ℕ → List Diagnostic
bracket_said encoding text place =
    if is_unmatched text place then said encoding text 1 place (place + 1) (codes "unmatched bracket") ∷ [] else []

abbrev pub syntax_in : PositionEncoding → List ℕ → List Diagnostic
syntax_in encoding text = said_before (bracket_said encoding text) (length text)

-- a name that is defined at a place, where these were before, is a warning if it is one of them
abbrev pub again_said : PositionEncoding → List ℕ → ℕ → Names → Option (List ℕ) → List Diagnostic
again_said encoding text place names None = []
again_said encoding text place names (Some name) =
    if is_some (map.get names name)
    then said encoding text 2 (run_start text place) (run_end text place) (codes "duplicate name " ++ name) ∷ [] else []

abbrev pub name_said : PositionEncoding → List ℕ → ℕ → List Diagnostic
name_said encoding text place = again_said encoding text place (defined_before text place) (defined_at text place)

abbrev pub semantic_in : PositionEncoding → List ℕ → List Diagnostic
semantic_in encoding text = said_before (name_said encoding text) (length text)

-- of a file that has a text
abbrev pub of_text : (List ℕ → OutcomeSpec) → Option (List ℕ) → OutcomeSpec
of_text find None = refusal (codes "not text")
of_text find (Some text) = find text

abbrev pub syntax_of : SnapshotData → FileId → OutcomeSpec
syntax_of snapshot file = of_text (λ text. answer (Diagnostics (syntax_in (encoding_of snapshot) text)))
    (file_text snapshot file)

abbrev pub semantic_of : SnapshotData → FileId → OutcomeSpec
semantic_of snapshot file = of_text (λ text. answer (Diagnostics (semantic_in (encoding_of snapshot) text)))
    (file_text snapshot file)

-- it knows no tests
abbrev pub tests_of : SnapshotData → FileId → OutcomeSpec
tests_of snapshot file = of_text (λ text. answer (Tests [])) (file_text snapshot file)
