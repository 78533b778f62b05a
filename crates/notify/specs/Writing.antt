-- What the server tells and asks by itself: the method and the params of each message. Absent members aren't written.
use Rattle.std.specs.Prelude.{◌≡◌, ℕ, Bool, true, false, List, [], ◌∷◌, codes, All}
use Rattle.plain.specs.Plain.{is_plain}
use Rattle.serde_json.specs.Data.{Data, null, string, object}
use Rattle.notify.specs.Objects.{one, with_text, list}
use Rattle.notify.specs.Progressing.{progress_params}
use Rattle.notify.specs.Publishing.{publish_params}
use Rattle.notify.specs.Registering.{registering, save_options, watch_options}
use Rattle.notify.specs.Showing.{message_members, asking_members, status_params}
use Rattle.notify.specs.Testing.{discovered_params, test_state}
use Rattle.notify.specs.declared.outgo.Outgo.{Outgo}
use Rattle.notify.specs.declared.outgo.Outgo.TheVariants.{RegisterSave, RegisterWatch, SemanticTokensRefresh, CodeLensRefresh, InlayHintRefresh}
use Rattle.notify.specs.declared.outgo.Outgo.TheVariants.{DiagnosticRefresh, CreateProgress, Progress, Configuration, ShowMessage, ShowMessageRequest}
use Rattle.notify.specs.declared.outgo.Outgo.TheVariants.{ServerStatus, Publish, OpenLogs, DiscoveredTests, TestState, EndRunTest, AppendOutput}

-- the method and the params
abbrev pub outgo_body : Outgo → List ℕ × Data
outgo_body (RegisterSave files) = (codes "client/registerCapability", registering (codes "textDocument/didSave") (save_options files))
outgo_body (RegisterWatch watchers) =
    (codes "client/registerCapability", registering (codes "workspace/didChangeWatchedFiles") (watch_options watchers))
outgo_body SemanticTokensRefresh = (codes "workspace/semanticTokens/refresh", null)
outgo_body CodeLensRefresh = (codes "workspace/codeLens/refresh", null)
outgo_body InlayHintRefresh = (codes "workspace/inlayHint/refresh", null)
outgo_body DiagnosticRefresh = (codes "workspace/diagnostic/refresh", null)
outgo_body (CreateProgress token) = (codes "window/workDoneProgress/create", with_text (codes "token") token)
outgo_body (Progress token value) = (codes "$/progress", progress_params token value)
outgo_body Configuration =
    (codes "workspace/configuration", one (codes "items") (list (with_text (codes "section") (codes "rust-analyzer") ∷ [])))
outgo_body (ShowMessage message kind) = (codes "window/showMessage", object (message_members message kind))
outgo_body (ShowMessageRequest message kind) = (codes "window/showMessageRequest", object (asking_members message kind))
outgo_body (ServerStatus health message quiescent) = (codes "experimental/serverStatus", status_params health message quiescent)
outgo_body (Publish diagnostics uri version) = (codes "textDocument/publishDiagnostics", publish_params diagnostics uri version)
outgo_body OpenLogs = (codes "experimental/openServerLogs", null)
outgo_body (DiscoveredTests uris tests) = (codes "experimental/discoveredTests", discovered_params uris tests)
outgo_body (TestState state id) = (codes "experimental/changeTestState", test_state state id)
outgo_body EndRunTest = (codes "experimental/endRunTest", null)
outgo_body (AppendOutput text) = (codes "experimental/appendOutputToRunTest", string text)

-- a request is answered; the others are notifications
abbrev pub is_request : Outgo → Bool
is_request (RegisterSave files) = true
is_request (RegisterWatch watchers) = true
is_request SemanticTokensRefresh = true
is_request CodeLensRefresh = true
is_request InlayHintRefresh = true
is_request DiagnosticRefresh = true
is_request (CreateProgress token) = true
is_request Configuration = true
is_request (ShowMessageRequest message kind) = true
is_request other = false

-- the JSON values in a message are plain
abbrev pub HoldsPlain : Outgo → Type 0
HoldsPlain (DiscoveredTests uris tests) = All (λ test. is_plain test ≡ true) tests
HoldsPlain other = Unit {0}
