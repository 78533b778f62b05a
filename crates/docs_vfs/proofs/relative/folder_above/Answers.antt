use Rattle.std.proofs.Common.{sym, ◌∙◌, ap}
use Rattle.std.proofs.lemmas.Bool.{true≢false, ne_eqb}
use Rattle.docs_vfs.specs.Paths.{is_path}
use Rattle.docs_vfs.specs.Fronts.{IsFolderOf}
use Rattle.docs_vfs.proofs.Ancestors.{above_shorter}
use Rattle.docs_vfs.proofs.FrontLemmas.{front_above}
use Rattle.docs_vfs.proofs.PathLemmas.{slash_inside}
use Rattle.docs_vfs.proofs.relative.folder_above.Goals as goal

pub returns-in_err-folder : goal.returns-in_err-folder
returns-in_err-folder c = absurd (true≢false (sym (slash_inside c.args.path.now c.requires) ∙ c.in_err-folder.ensures))

pub returns : goal.returns
returns c =
    let cut = c.in_ok-folder.ensures in
    let up : IsFolderOf c.whole_text.result.now c.args.path.now = record {
      front = c.in_ok-folder.folder.now;
      name = c.in_ok-folder._name.now;
      is = cut.0;
      whole_name = cut.1;
      same = c.whole_text.ensures;
      folder_is = ap is_path c.whole_text.ensures ∙ (front_above c.in_ok-folder.folder.now c.in_ok-folder._name.now cut.1 (ap is_path (sym cut.0) ∙ c.requires)).path;
    } in
    (up, above_shorter c.whole_text.result.now c.args.path.now up (ne_eqb _ _ c.if-path-eq1.false))
