-- The text that a request speaks of, and the faults by which a request is refused.
use Rattle.std.specs.Prelude.{ℕ, ◌++◌, List, codes, Option, None, Some, Result, Ok, Err}
use Rattle.serde_json.specs.Data.{null}
use Rattle.docs_vfs.specs.FileUrls.{path_of}
use Rattle.docs_vfs.specs.declared.file_url.UrlFault.{UrlFault}
use Rattle.analysis_host.specs.Answers.{OutcomeSpec, answer, fault}
use Rattle.analysis_host.specs.SnapshotData.{SnapshotData}
use Rattle.analysis_host.specs.SnapshotFiles.{path_text}
use Rattle.analysis_host.specs.declared.ask.Answer.TheVariants.{Json}
use Rattle.analysis_host.specs.declared.proto_fault.ProtoFault.{ProtoFault}

-- a fault without code
abbrev pub refusal : List ℕ → OutcomeSpec
refusal message = fault None message

abbrev pub malformed : OutcomeSpec
malformed = refusal (codes "invalid params")

-- the answer null
abbrev pub nothing : OutcomeSpec
nothing = answer (Json null)

-- the text of a path's file, or why there is no such file
abbrev pub text_in : List ℕ → Result (Option (List ℕ)) ProtoFault → Result (Option (List ℕ)) (List ℕ)
text_in path (Err e) = Err (codes "file not found: " ++ path)
text_in path (Ok text) = Ok text

-- the text of the file that a URL names; none of an excluded one
abbrev pub text_at : SnapshotData → Result (List ℕ) UrlFault → Result (Option (List ℕ)) (List ℕ)
text_at snapshot (Err e) = Err (codes "url is not a file")
text_at snapshot (Ok path) = text_in path (path_text snapshot path)

abbrev pub text_of : SnapshotData → List ℕ → Result (Option (List ℕ)) (List ℕ)
text_of snapshot uri = text_at snapshot (path_of uri)

-- what comes of a text that is there; null of an excluded file
abbrev pub in_text : (List ℕ → OutcomeSpec) → Result (Option (List ℕ)) (List ℕ) → OutcomeSpec
in_text find (Ok (Some text)) = find text
in_text find (Ok None) = nothing
in_text find (Err message) = refusal message
