use Rattle.std.proofs.Common.{rules, ◌≡◌, List, ℕ, Ok, sym, subst}
use Rattle.std.specs.Prelude.{Result}
use Rattle.std.specs.FinMap as map
use Rattle.docs_vfs.specs.FileUrls.{path_of}
use Rattle.docs_vfs.specs.declared.file_url.UrlFault.{UrlFault}
use Rattle.session_port.specs.Refines.{Refines}
use Rattle.session_port.specs.TurnState.{TurnState}
use Rattle.session_model.specs.Diagnosing.{lists_cleared}
use Rattle.session_model.specs.FilesSteps.{closed_document}
use Rattle.session_model.specs.Machine.{at_board, at_files, document_closed_at}
use Rattle.session_model.specs.State.{State}
use Rattle.session_notices.proofs.filing.on_close.Goals as goal

pub returns-in_ok-clear_file-in-Some-clause-meets : goal.returns-in_ok-clear_file-in-Some-clause-meets
unfolding document_closed_at
returns-in_ok-clear_file-in-Some-clause-meets c =
    let w : TurnState State = record { state = c.args.store.now; out = c.args.out.now } in
    let path : List ℕ = c.in-Some.path in
    let mid : TurnState State = record { state = c.clear_file.new.store; out = c.args.out.now } in
    let cleared : mid ≡ at_board (lists_cleared (map.get c.args.store.now.files.ids path)) w = search rules in
    let named : path_of c.args.uri ≡ Ok path = search rules in
    c.answering.ensures.same (document_closed_at (path_of c.args.uri) c.args.uri w) c.close_at.new.store c.close_at.new.out
    (subst (λ (o : Result (List ℕ) UrlFault). Refines c.close_at.result (document_closed_at o c.args.uri w) c.close_at.new.store c.close_at.new.out) (sym named)
    (subst (λ (v : TurnState State). Refines c.close_at.result (at_files (λ f. Ok (closed_document path f)) v) c.close_at.new.store c.close_at.new.out) cleared
    c.close_at.ensures))
