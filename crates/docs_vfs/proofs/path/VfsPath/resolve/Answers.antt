use Rattle.std.proofs.Common.{◌≡◌, Some, None, sym, ◌∙◌, ap, lit<}
use Rattle.std.specs.Prelude.{codes}
use Rattle.std.proofs.lemmas.Result.{IfOk-weaker}
use Rattle.std.proofs.lemmas.Str.Pattern.{strip_prefix_char}
use Rattle.docs_vfs.specs.Paths.{parts}
use Rattle.docs_vfs.specs.Resolve.{walk, resolve}
use Rattle.docs_vfs.proofs.Resolved.{relative_is, root_alone_is, absolute_is}
use Rattle.docs_vfs.proofs.path.VfsPath.resolve.Goals as goal

pub returns-in-None : goal.returns-in-None
returns-in-None c =
    let is = relative_is c.args.empty c.args.self.now c.args.text.now (strip_prefix_char 47 c.args.text.now None c.in-None.ensures.cases (lit< tt)) in
    IfOk-weaker c.walk_from.result (λ p. p ≡ walk c.args.empty c.as_str.result.now (parts c.args.text.now)) (λ p. p ≡ resolve c.args.empty c.args.self.now c.args.text.now)
    (λ p e. e ∙ ap (λ b. walk c.args.empty b (parts c.args.text.now)) c.as_str.ensures.value ∙ sym is) c.walk_from.ensures

pub returns-in_ok-root-in-Some : goal.returns-in_ok-root-in-Some
returns-in_ok-root-in-Some c =
    let text = strip_prefix_char 47 c.args.text.now (Some c.in-Some.rest) c.in-Some.ensures.cases (lit< tt) in
    ap Some c.in_ok-root-in-Some.ensures ∙ sym (root_alone_is c.args.empty c.args.self.now c.args.text.now c.in-Some.rest.now text (sym c.is_empty.ensures ∙ c.if-is_empty.true))

pub returns-else-is_empty : goal.returns-else-is_empty
returns-else-is_empty c =
    let text = strip_prefix_char 47 c.args.text.now (Some c.in-Some.rest) c.in-Some.ensures.cases (lit< tt) in
    let is = absolute_is c.args.empty c.args.self.now c.args.text.now c.in-Some.rest.now text (sym c.is_empty.ensures ∙ c.if-is_empty.false) in
    IfOk-weaker c.walk_from-else-is_empty.result (λ p. p ≡ walk c.args.empty (codes "/") (parts c.in-Some.rest.now)) (λ p. p ≡ resolve c.args.empty c.args.self.now c.args.text.now)
    (λ p e. e ∙ sym is) c.walk_from-else-is_empty.ensures
