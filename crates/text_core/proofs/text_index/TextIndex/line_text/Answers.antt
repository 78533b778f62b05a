use Rattle.std.proofs.Common.{◌≡◌, sym, ◌∙◌}
use Rattle.std.specs.Prelude.{is_some}
use Rattle.text_core.specs.Positions.{line_start}
use Rattle.text_core.proofs.LineTextLemmas.{none_past}
use Rattle.text_core.proofs.StartLemmas.{starts-know}
use Rattle.text_core.proofs.text_index.TextIndex.line_text.Goals as goal

pub line_text-requires : goal.line_text-requires
line_text-requires c = λ line _. starts-know c.deref.result.now c.as_str.result.now (cc) line

pub returns-clause-none : goal.returns-clause-none
returns-clause-none c =
    let past = none_past c.args.self.now c.args.line in
    let same : is_some c.line_text.result ≡ is_some (line_start c.args.line c.args.self.now) = cc in
    (λ no. past.0 (sym same ∙ no), λ above. same ∙ past.1 above)
