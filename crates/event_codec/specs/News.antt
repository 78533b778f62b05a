-- How messages of checks, test runs and discoveries are spelled.
use Rattle.std.specs.Prelude.{◌≡◌, ℕ, List, Option, Result, ◌⊎◌, refl}
use Rattle.std.proofs.Common.{inl, inr}
use Rattle.serde_json.specs.Data.{Data}
use Rattle.record_codec.specs.Codec.{Codec, ◌and◌, by_parts, nothing}
use Rattle.record_codec.specs.Numbers.{number64, text}
use Rattle.record_codec.specs.Cases.{◌or◌, last, by_cases, optional, outcome}
use Rattle.record_codec.specs.Leaves.{path, json}
use Rattle.event_codec.specs.Diagnostics.{diagnostic_codec}
use Rattle.lsp_types.specs.declared.diagnostic.Diagnostic.{Diagnostic}
use Rattle.session_port.specs.declared.news.CheckProgress.{CheckProgress}
use Rattle.session_port.specs.declared.news.CheckProgress.TheVariants as check_progress
use Rattle.session_port.specs.declared.news.FlycheckMsg.{FlycheckMsg}
use Rattle.session_port.specs.declared.news.FlycheckMsg.TheVariants as flycheck_msg
use Rattle.session_port.specs.declared.news.TestState.{TestState}
use Rattle.session_port.specs.declared.news.TestState.TheVariants as test_state
use Rattle.session_port.specs.declared.news.TestOutput.{TestOutput}
use Rattle.session_port.specs.declared.news.TestOutput.TheVariants as test_output
use Rattle.session_port.specs.declared.news.TestMsg.{TestMsg}
use Rattle.session_port.specs.declared.news.DiscoverMsg.{DiscoverMsg}
use Rattle.session_port.specs.declared.news.DiscoverMsg.TheVariants as discover_msg

abbrev pub CheckProgressParts : Type 0
CheckProgressParts = (List ℕ) ⊎ ((List ℕ) ⊎ ((Unit {0}) ⊎ ((List ℕ) ⊎ (Result (Unit {0}) (List ℕ)))))

abbrev pub check_progress_parts : CheckProgress → CheckProgressParts
check_progress_parts (check_progress.DidStart command) = inl command
check_progress_parts (check_progress.DidCheckCrate x) = inr (inl x)
check_progress_parts check_progress.DidCancel = inr (inr (inl tt))
check_progress_parts (check_progress.DidFailToRestart x) = inr (inr (inr (inl x)))
check_progress_parts (check_progress.DidFinish x) = inr (inr (inr (inr x)))

abbrev pub check_progress_of : CheckProgressParts → CheckProgress
check_progress_of (inl p) = check_progress.DidStart p
check_progress_of (inr (inl p)) = check_progress.DidCheckCrate p
check_progress_of (inr (inr (inl p))) = check_progress.DidCancel
check_progress_of (inr (inr (inr (inl p)))) = check_progress.DidFailToRestart p
check_progress_of (inr (inr (inr (inr p)))) = check_progress.DidFinish p

pub check_progress_made : (x : CheckProgress) → check_progress_of (check_progress_parts x) ≡ x
check_progress_made (check_progress.DidStart command) = refl
check_progress_made (check_progress.DidCheckCrate x) = refl
check_progress_made check_progress.DidCancel = refl
check_progress_made (check_progress.DidFailToRestart x) = refl
check_progress_made (check_progress.DidFinish x) = refl

pub check_progress_unmade : (y : CheckProgressParts) → check_progress_parts (check_progress_of y) ≡ y
check_progress_unmade (inl p) = refl
check_progress_unmade (inr (inl p)) = refl
check_progress_unmade (inr (inr (inl p))) = refl
check_progress_unmade (inr (inr (inr (inl p)))) = refl
check_progress_unmade (inr (inr (inr (inr p)))) = refl

unfoldable pub check_progress_codec : Codec CheckProgress
check_progress_codec =
    by_cases check_progress_parts check_progress_of check_progress_made check_progress_unmade
    (text or text or nothing or text or last (outcome nothing text))

abbrev pub FlycheckMsgParts : Type 0
FlycheckMsgParts = (ℕ × (ℕ × ((Option (List ℕ)) × ((List ℕ) × (Diagnostic × (Option Data))))))
    ⊎ ((ℕ × ((Option (Option (List ℕ))) × (Option ℕ))) ⊎ (ℕ × CheckProgress))

abbrev pub flycheck_msg_parts : FlycheckMsg → FlycheckMsgParts
flycheck_msg_parts (flycheck_msg.AddDiagnostic id generation of_package path diagnostic fix) =
    inl (id, (generation, (of_package, (path, (diagnostic, fix)))))
flycheck_msg_parts (flycheck_msg.ClearDiagnostics id of_package older_than) = inr (inl (id, (of_package, older_than)))
flycheck_msg_parts (flycheck_msg.Progress id progress) = inr (inr (id, progress))

abbrev pub flycheck_msg_of : FlycheckMsgParts → FlycheckMsg
flycheck_msg_of (inl p) = flycheck_msg.AddDiagnostic p.0 p.1.0 p.1.1.0 p.1.1.1.0 p.1.1.1.1.0 p.1.1.1.1.1
flycheck_msg_of (inr (inl p)) = flycheck_msg.ClearDiagnostics p.0 p.1.0 p.1.1
flycheck_msg_of (inr (inr p)) = flycheck_msg.Progress p.0 p.1

pub flycheck_msg_made : (x : FlycheckMsg) → flycheck_msg_of (flycheck_msg_parts x) ≡ x
flycheck_msg_made (flycheck_msg.AddDiagnostic id generation of_package at diagnostic fix) = refl
flycheck_msg_made (flycheck_msg.ClearDiagnostics id of_package older_than) = refl
flycheck_msg_made (flycheck_msg.Progress id progress) = refl

pub flycheck_msg_unmade : (y : FlycheckMsgParts) → flycheck_msg_parts (flycheck_msg_of y) ≡ y
flycheck_msg_unmade (inl p) = refl
flycheck_msg_unmade (inr (inl p)) = refl
flycheck_msg_unmade (inr (inr p)) = refl

unfoldable pub added_codec : Codec (ℕ × (ℕ × (Option (List ℕ) × (List ℕ × (Diagnostic × Option Data)))))
added_codec = number64 and number64 and optional text and path and diagnostic_codec and optional json

unfoldable pub flycheck_msg_codec : Codec FlycheckMsg
flycheck_msg_codec =
    by_cases flycheck_msg_parts flycheck_msg_of flycheck_msg_made flycheck_msg_unmade
    (added_codec or (number64 and optional (optional text) and optional number64) or last
    (number64 and check_progress_codec))

abbrev pub TestStateParts : Type 0
TestStateParts = (Unit {0}) ⊎ ((Unit {0}) ⊎ ((Unit {0}) ⊎ (List ℕ)))

abbrev pub test_state_parts : TestState → TestStateParts
test_state_parts test_state.Started = inl tt
test_state_parts test_state.Ignored = inr (inl tt)
test_state_parts test_state.Ok = inr (inr (inl tt))
test_state_parts (test_state.Failed stdout) = inr (inr (inr stdout))

abbrev pub test_state_of : TestStateParts → TestState
test_state_of (inl p) = test_state.Started
test_state_of (inr (inl p)) = test_state.Ignored
test_state_of (inr (inr (inl p))) = test_state.Ok
test_state_of (inr (inr (inr p))) = test_state.Failed p

pub test_state_made : (x : TestState) → test_state_of (test_state_parts x) ≡ x
test_state_made test_state.Started = refl
test_state_made test_state.Ignored = refl
test_state_made test_state.Ok = refl
test_state_made (test_state.Failed stdout) = refl

pub test_state_unmade : (y : TestStateParts) → test_state_parts (test_state_of y) ≡ y
test_state_unmade (inl p) = refl
test_state_unmade (inr (inl p)) = refl
test_state_unmade (inr (inr (inl p))) = refl
test_state_unmade (inr (inr (inr p))) = refl

unfoldable pub test_state_codec : Codec TestState
test_state_codec =
    by_cases test_state_parts test_state_of test_state_made test_state_unmade
    (nothing or nothing or nothing or last text)

abbrev pub TestOutputParts : Type 0
TestOutputParts = ((List ℕ) × TestState) ⊎ ((Unit {0}) ⊎ ((Unit {0}) ⊎ (List ℕ)))

abbrev pub test_output_parts : TestOutput → TestOutputParts
test_output_parts (test_output.Test name state) = inl (name, state)
test_output_parts test_output.Suite = inr (inl tt)
test_output_parts test_output.Finished = inr (inr (inl tt))
test_output_parts (test_output.Custom text) = inr (inr (inr text))

abbrev pub test_output_of : TestOutputParts → TestOutput
test_output_of (inl p) = test_output.Test p.0 p.1
test_output_of (inr (inl p)) = test_output.Suite
test_output_of (inr (inr (inl p))) = test_output.Finished
test_output_of (inr (inr (inr p))) = test_output.Custom p

pub test_output_made : (x : TestOutput) → test_output_of (test_output_parts x) ≡ x
test_output_made (test_output.Test name state) = refl
test_output_made test_output.Suite = refl
test_output_made test_output.Finished = refl
test_output_made (test_output.Custom x) = refl

pub test_output_unmade : (y : TestOutputParts) → test_output_parts (test_output_of y) ≡ y
test_output_unmade (inl p) = refl
test_output_unmade (inr (inl p)) = refl
test_output_unmade (inr (inr (inl p))) = refl
test_output_unmade (inr (inr (inr p))) = refl

unfoldable pub test_output_codec : Codec TestOutput
test_output_codec =
    by_cases test_output_parts test_output_of test_output_made test_output_unmade
    ((text and test_state_codec) or nothing or nothing or last text)

unfoldable pub test_msg_codec : Codec TestMsg
test_msg_codec =
    by_parts (λ x. (x.target, x.output))
    (λ p. record { target = p.0; output = p.1 }) (λ x. refl) (λ p. refl)
    (text and test_output_codec)

abbrev pub DiscoverMsgParts : Type 0
DiscoverMsgParts = (Data × (List ℕ)) ⊎ ((List ℕ) ⊎ ((List ℕ) × (Option (List ℕ))))

abbrev pub discover_msg_parts : DiscoverMsg → DiscoverMsgParts
discover_msg_parts (discover_msg.Finished project buildfile) = inl (project, buildfile)
discover_msg_parts (discover_msg.Progress message) = inr (inl message)
discover_msg_parts (discover_msg.Error error source) = inr (inr (error, source))

abbrev pub discover_msg_of : DiscoverMsgParts → DiscoverMsg
discover_msg_of (inl p) = discover_msg.Finished p.0 p.1
discover_msg_of (inr (inl p)) = discover_msg.Progress p
discover_msg_of (inr (inr p)) = discover_msg.Error p.0 p.1

pub discover_msg_made : (x : DiscoverMsg) → discover_msg_of (discover_msg_parts x) ≡ x
discover_msg_made (discover_msg.Finished project buildfile) = refl
discover_msg_made (discover_msg.Progress message) = refl
discover_msg_made (discover_msg.Error error source) = refl

pub discover_msg_unmade : (y : DiscoverMsgParts) → discover_msg_parts (discover_msg_of y) ≡ y
discover_msg_unmade (inl p) = refl
discover_msg_unmade (inr (inl p)) = refl
discover_msg_unmade (inr (inr p)) = refl

unfoldable pub discover_msg_codec : Codec DiscoverMsg
discover_msg_codec =
    by_cases discover_msg_parts discover_msg_of discover_msg_made discover_msg_unmade
    ((json and text) or text or last (text and optional text))
