use Rattle.std.proofs.Common.{◌≡◌, true, false, not, ◌&&◌, ◌==◌, sym, ap, ◌∙◌}
use Rattle.docs_vfs.specs.FileUrls.{is_escaped}
use Rattle.docs_vfs.proofs.Escapes.{escapes}
use Rattle.docs_vfs.proofs.file_url.is_plain_byte.Goals as goal

pub returns-then-not-should_percent_encode : goal.returns-then-not-should_percent_encode
returns-then-not-should_percent_encode c =
    let escaped : is_escaped c.args.byte ≡ false = sym (escapes c.args.byte) ∙ sym c.should_percent_encode.ensures ∙ c.if-not-should_percent_encode.true in
    sym (ap (λ x. not x && not (c.args.byte == 124)) escaped)

pub returns-else-not-should_percent_encode : goal.returns-else-not-should_percent_encode
returns-else-not-should_percent_encode c =
    let escaped : is_escaped c.args.byte ≡ true = sym (escapes c.args.byte) ∙ sym c.should_percent_encode.ensures ∙ c.if-not-should_percent_encode.false in
    ap not c.if-not-should_percent_encode.false ∙ sym (ap (λ x. not x && not (c.args.byte == 124)) escaped)
