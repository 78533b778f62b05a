use Rattle.std.proofs.Common.{◌≡◌, ◌&&◌, rules, tests, sym, ap, ◌∙◌}
use Rattle.std.specs.List.{list_all}
use Rattle.std.proofs.lemmas.Iterator.{YieldsList-from_slice}
use Rattle.std.proofs.lemmas.Iterator.Search.{all_from_yields_List}
use Rattle.docs_vfs.specs.Paths.{is_path}
use Rattle.docs_vfs.specs.FileUrls.{is_plain}
use Rattle.docs_vfs.proofs.file_url.is_plain_path.Goals as goal

pub returns-then-all : goal.returns-then-all
returns-then-all c =
    let all : c.all.result ≡ list_all is_plain c.args.text.now =
    all_from_yields_List is_plain _ _ _ c.all.ensures.ran (YieldsList-from_slice c.args.text.now (c.iter.ensures.rest ∙ c.as_bytes.ensures.value)) (λ x r q k. search (rules, tests)) in
    c.is_path_text.ensures ∙ sym (ap (λ x. x && is_path c.args.text.now) (sym all ∙ c.if-all.true))

pub returns-else-all : goal.returns-else-all
returns-else-all c =
    let all : c.all.result ≡ list_all is_plain c.args.text.now =
    all_from_yields_List is_plain _ _ _ c.all.ensures.ran (YieldsList-from_slice c.args.text.now (c.iter.ensures.rest ∙ c.as_bytes.ensures.value)) (λ x r q k. search (rules, tests)) in
    c.if-all.false ∙ sym (ap (λ x. x && is_path c.args.text.now) (sym all ∙ c.if-all.false))
