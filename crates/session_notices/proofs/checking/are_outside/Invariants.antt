use Rattle.std.proofs.Common.{◌≡◌, List, ℕ, drop}
use Rattle.std.specs.List.{list_any}
use Rattle.docs_vfs.specs.FileUrls.{path_of}
use Rattle.session_model.specs.Restarting.{is_outside}
use Rattle.session_notices.proofs.checking.are_outside.Given as goal

abbrev pub invariant-loop-url : goal.invariant-loop-url
invariant-loop-url l =
    list_any (λ (url : List ℕ). is_outside l.folders (path_of url)) (drop l.url-index l.urls)
    ≡ list_any (λ (url : List ℕ). is_outside l.folders (path_of url)) l.urls
