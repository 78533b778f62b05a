-- The table of requests.
use Rattle.std.specs.Prelude.{ℕ, Bool, true, false, List, [], ◌∷◌, codes}
use Rattle.serde_json.specs.Data.{Data, null, string, array, no_items, object, no_members}
use Rattle.method_table.specs.Defaults.{empty_label, full_report, no_crates, no_tests}
use Rattle.method_table.specs.declared.class.Class.{Class}
use Rattle.method_table.specs.declared.class.Class.TheVariants.{State, OnLoop, Formatting, Latency, DocumentDiagnostic, Worker, Identity}

-- what the table says of a row: its number, its method, its class, whether its requests are retried, and its default
pub record RowFacts : Type 0 where
  pub number : ℕ
  pub method : List ℕ
  pub class : Class
  pub retries : Bool
  pub default : Data

abbrev pub row : ℕ → List ℕ → Class → Bool → Data → RowFacts
row n m c r d = record { number = n; method = m; class = c; retries = r; default = d }

-- a row that is never answered by a default has null there
unfoldable pub table : List RowFacts
table =
    row 1 (codes "shutdown") State false null ∷
    row 2 (codes "rust-analyzer/reloadWorkspace") State false null ∷
    row 3 (codes "rust-analyzer/rebuildProcMacros") State false null ∷
    row 4 (codes "experimental/runTest") State false null ∷
    row 5 (codes "experimental/joinLines") OnLoop false null ∷
    row 6 (codes "experimental/onEnter") OnLoop false null ∷
    row 7 (codes "textDocument/selectionRange") OnLoop false null ∷
    row 8 (codes "experimental/matchingBrace") OnLoop false null ∷
    row 9 (codes "textDocument/onTypeFormatting") OnLoop false null ∷
    row 10 (codes "textDocument/formatting") Formatting false null ∷
    row 11 (codes "textDocument/rangeFormatting") Formatting false null ∷
    row 12 (codes "textDocument/completion") Latency true null ∷
    row 13 (codes "completionItem/resolve") Latency true empty_label ∷
    row 14 (codes "textDocument/semanticTokens/full") Latency true null ∷
    row 15 (codes "textDocument/semanticTokens/range") Latency false null ∷
    row 16 (codes "textDocument/diagnostic") DocumentDiagnostic false full_report ∷
    row 17 (codes "textDocument/documentSymbol") Worker true null ∷
    row 18 (codes "textDocument/foldingRange") Worker true null ∷
    row 19 (codes "textDocument/signatureHelp") Worker false null ∷
    row 20 (codes "workspace/willRenameFiles") Worker true null ∷
    row 21 (codes "textDocument/definition") Worker false null ∷
    row 22 (codes "textDocument/declaration") Worker false null ∷
    row 23 (codes "textDocument/implementation") Worker false null ∷
    row 24 (codes "textDocument/typeDefinition") Worker false null ∷
    row 25 (codes "textDocument/inlayHint") Worker false null ∷
    row 26 (codes "inlayHint/resolve") Identity false null ∷
    row 27 (codes "textDocument/codeLens") Worker false null ∷
    row 28 (codes "codeLens/resolve") Identity false null ∷
    row 29 (codes "textDocument/prepareRename") Worker false null ∷
    row 30 (codes "textDocument/rename") Worker false null ∷
    row 31 (codes "textDocument/references") Worker false null ∷
    row 32 (codes "textDocument/documentHighlight") Worker false null ∷
    row 33 (codes "textDocument/prepareCallHierarchy") Worker false null ∷
    row 34 (codes "callHierarchy/incomingCalls") Worker false null ∷
    row 35 (codes "callHierarchy/outgoingCalls") Worker false null ∷
    row 36 (codes "rust-analyzer/fetchDependencyList") Worker true no_crates ∷
    row 37 (codes "rust-analyzer/analyzerStatus") Worker true (string []) ∷
    row 38 (codes "rust-analyzer/viewFileText") Worker true (string []) ∷
    row 39 (codes "rust-analyzer/viewCrateGraph") Worker true (string []) ∷
    row 40 (codes "rust-analyzer/viewItemTree") Worker true (string []) ∷
    row 41 (codes "experimental/discoverTest") Worker true no_tests ∷
    row 42 (codes "workspace/symbol") Worker true null ∷
    row 43 (codes "experimental/ssr") Worker false (object no_members) ∷
    row 44 (codes "rust-analyzer/viewRecursiveMemoryLayout") Worker false null ∷
    row 45 (codes "rust-analyzer/viewSyntaxTree") Worker false (string []) ∷
    row 46 (codes "rust-analyzer/viewHir") Worker false (string []) ∷
    row 47 (codes "rust-analyzer/viewMir") Worker false (string []) ∷
    row 48 (codes "rust-analyzer/interpretFunction") Worker false (string []) ∷
    row 49 (codes "rust-analyzer/expandMacro") Worker false null ∷
    row 50 (codes "experimental/parentModule") Worker false null ∷
    row 51 (codes "experimental/childModules") Worker false null ∷
    row 52 (codes "experimental/runnables") Worker false (array no_items) ∷
    row 53 (codes "rust-analyzer/relatedTests") Worker false (array no_items) ∷
    row 54 (codes "textDocument/codeAction") Worker false null ∷
    row 55 (codes "codeAction/resolve") Identity true null ∷
    row 56 (codes "textDocument/hover") Worker false null ∷
    row 57 (codes "experimental/externalDocs") Worker false null ∷
    row 58 (codes "experimental/openCargoToml") Worker false null ∷
    row 59 (codes "experimental/moveItem") Worker false (array no_items) ∷
    row 60 (codes "rust-analyzer-internal/internalTestingFetchConfig") Worker false null ∷
    row 61 (codes "rust-analyzer/getFailedObligations") Worker true (string []) ∷ []
