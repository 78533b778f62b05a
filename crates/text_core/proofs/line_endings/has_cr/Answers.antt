use Rattle.std.proofs.Common.{ap, ◌∙◌}
use Rattle.text_core.specs.LineEnds.{has_cr}
use Rattle.text_core.proofs.LineEndLemmas.{has_cr_is}
use Rattle.text_core.proofs.line_endings.has_cr.Goals as goal

pub returns : goal.returns
returns c = c.is_some.ensures ∙ has_cr_is c.as_bytes.result.now c.memchr.result c.memchr.ensures ∙ ap has_cr c.as_bytes.ensures.value
