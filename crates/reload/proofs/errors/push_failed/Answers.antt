use Rattle.std.proofs.Common.{◌++◌, Some, ap, ◌∙◌, append_assoc}
use Rattle.reload.specs.Errors.{line_of_error}
use Rattle.reload.proofs.errors.push_failed.Goals as goal

pub returns : goal.returns
returns c =
    c.in_ok-push_line.ensures ∙ ap (λ l. l ++ line_of_error (Some c.args.error.now)) c.in_ok-push_str.ensures.ok
    ∙ append_assoc c.args.text.now _ _
