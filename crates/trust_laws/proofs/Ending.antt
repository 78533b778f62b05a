-- A quiescent session shows what its last batch brought.
use Rattle.std.proofs.Common.{◌≡◌, ◌+◌, ℕ, List, [], ◌∷◌, ◌++◌, true, ap, ◌∙◌, subst}
use Rattle.std.specs.Prelude.{Some}
use Rattle.std.specs.FinMap as map
use Rattle.docs_vfs.specs.FileUrls.{url_of}
use Rattle.docs_vfs.specs.Files.{path_at}
use Rattle.docs_vfs.specs.declared.file_kinds.FileId.{FileId}
use Rattle.lsp_types.specs.declared.diagnostic.Diagnostic.{Diagnostic}
use Rattle.op_board.specs.Board.{is_above, list_of}
use Rattle.op_board.specs.Checks.{checks_of}
use Rattle.op_board.specs.Diagnostics.{in_order}
use Rattle.op_board.specs.declared.diagnostic.NativePass.TheVariants.{Syntax, Semantic}
use Rattle.ra_config.specs.Config.{ConfigData}
use Rattle.desk.specs.Meaning.{Meaning}
use Rattle.session_model.specs.OwnJobs.{before_quiet}
use Rattle.session_model.specs.Run.{Runs, Steps, Turn}
use Rattle.session_model.specs.State.{State, fresh}
use Rattle.quiet_laws.specs.Rest.{AsksNone, asks_batch, is_quiet}
use Rattle.diagnostics_laws.specs.Batches.{brought}
use Rattle.diagnostics_laws.specs.Shown.{HasBytePaths, shown_at, told_list}
use Rattle.trust_laws.specs.Trusting.{ShowsBrought}
use Rattle.trust_laws.proofs.Since.{as-at-batch}
use Rattle.diagnostics_laws.proofs.Standing.{runs-store}
use Rattle.diagnostics_laws.proofs.StandingShown.{UrlsDiffer, runs-show-board}

runs-join : (meaning : Meaning) (s : State) (before : List Turn) (mid : State) (turns : List Turn) (last : State) → Runs meaning s before mid
    → Runs meaning mid turns last → Runs meaning s (before ++ turns) last
runs-join meaning s [] mid turns last ran runs = subst (λ (t : State). Runs meaning t turns last) ran runs
runs-join meaning s (first ∷ before) mid turns last (next, steps_first, ran) runs =
    (next, steps_first, runs-join meaning next before mid turns last ran runs)

-- of a file for which a list of its syntax was brought, this is shown, and then what the board has
pub shows-syntax : UrlsDiffer → (meaning : Meaning) (settings : ConfigData) (before : List Turn) (s : State) (turn : Turn) (mid : State)
    (after : List Turn) (last : State)
    → Runs meaning (fresh settings) before s → Steps meaning s turn mid → Runs meaning mid after last
    → asks_batch meaning turn.input s ≡ true → AsksNone meaning mid after → is_quiet last ≡ true
    → last.board.generation ≡ (before_quiet meaning turn.input s).state.board.generation + 1 → HasBytePaths last.files.table
    → (file : FileId) (path : List ℕ) (by_syntax : List Diagnostic) → path_at last.files.table file ≡ Some path
    → brought (before ++ turn ∷ after) Syntax last.board.generation file ≡ Some by_syntax
    → shown_at (url_of path) (before ++ turn ∷ after)
    ≡ told_list (in_order by_syntax ++ list_of (map.get last.board.semantic file.0) ++ checks_of file last.board.checks)
shows-syntax differ meaning settings before s turn mid after last ran steps_are runs asks none quiet generation bytes file path by_syntax is first =
    let whole : Runs meaning (fresh settings) (before ++ turn ∷ after) last =
    runs-join meaning (fresh settings) before s (turn ∷ after) last ran (mid, steps_are, runs) in
    let fits = as-at-batch meaning settings before s turn mid after last ran steps_are runs asks none quiet in
    let clear : is_above (map.get last.board.cleared file.0) last.board.generation ≡ true =
    ap (is_above (map.get last.board.cleared file.0)) generation ∙ fits.uncleared file.0 in
    let store = runs-store meaning settings (before ++ turn ∷ after) last whole in
    let syntax_is : list_of (map.get last.board.syntax file.0) ≡ in_order by_syntax = store Syntax file by_syntax first clear in
    (runs-show-board differ meaning settings (before ++ turn ∷ after) last whole bytes).shown file path is
    ∙ (λ i. told_list (syntax_is i ++ list_of (map.get last.board.semantic file.0) ++ checks_of file last.board.checks))

pub shows-brought : UrlsDiffer → (meaning : Meaning) (settings : ConfigData) (before : List Turn) (s : State) (turn : Turn) (mid : State)
    (after : List Turn) (last : State)
    → Runs meaning (fresh settings) before s → Steps meaning s turn mid → Runs meaning mid after last
    → asks_batch meaning turn.input s ≡ true → AsksNone meaning mid after → is_quiet last ≡ true
    → last.board.generation ≡ (before_quiet meaning turn.input s).state.board.generation + 1 → HasBytePaths last.files.table
    → ShowsBrought (before ++ turn ∷ after) last
shows-brought differ meaning settings before s turn mid after last ran steps_are runs asks none quiet generation bytes =
    λ file path by_syntax by_meaning is first second.
    let whole : Runs meaning (fresh settings) (before ++ turn ∷ after) last =
    runs-join meaning (fresh settings) before s (turn ∷ after) last ran (mid, steps_are, runs) in
    let fits = as-at-batch meaning settings before s turn mid after last ran steps_are runs asks none quiet in
    let clear : is_above (map.get last.board.cleared file.0) last.board.generation ≡ true =
    ap (is_above (map.get last.board.cleared file.0)) generation ∙ fits.uncleared file.0 in
    let store = runs-store meaning settings (before ++ turn ∷ after) last whole in
    let meaning_is : list_of (map.get last.board.semantic file.0) ≡ in_order by_meaning = store Semantic file by_meaning second clear in
    shows-syntax differ meaning settings before s turn mid after last ran steps_are runs asks none quiet generation bytes file path by_syntax is first
    ∙ (λ i. told_list (in_order by_syntax ++ meaning_is i ++ checks_of file last.board.checks))
