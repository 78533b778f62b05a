use Rattle.std.proofs.Common.{rules, ◌≡◌, [], ◌∷◌, List, length, refl, sym, ap, ◌∙◌, arith, ne_eqb}
use Rattle.std.specs.Prelude.{◌==◌}
use Rattle.std.proofs.lemmas.List.{drop_all}
use Rattle.docs_vfs.specs.declared.file_kinds.FileId.{FileId}
use Rattle.session_port.specs.Jobs.{has_files}
use Rattle.session_port.proofs.job.has_files.Goals as goal

-- without a list, only no file has one
none_left : (files : List FileId) → (length files == 0) ≡ has_files files []
none_left [] = refl
none_left (file ∷ files) = ne_eqb (length (file ∷ files)) 0 (λ e. omega arith)

pub returns : goal.returns
returns c =
    let at = c.loop-list in
    let empty : c.is_empty.result ≡ (length at.remaining.now == 0) = search rules in
    empty ∙ none_left at.remaining.now
    ∙ ap (has_files at.remaining.now) (sym (drop_all at.list-index c.args.lists.now c.loop-list-test.false))
    ∙ at.invariant
