use Rattle.std.proofs.Common.{subst, ◌∙◌}
use Rattle.std.specs.Prelude.{IfOk}
use Rattle.small_analysis.specs.Asked.{KeepsAsked}
use Rattle.small_analysis.specs.Brackets.{partners_of}
use Rattle.small_analysis.proofs.matches.partners_in.Goals as goal

pub returns : goal.returns
returns c =
    subst (λ text. IfOk c.partners_of.result (KeepsAsked c.args.asked.now (partners_of text))) (c.as_bytes.ensures.value ∙ c.text.ensures) c.partners_of.ensures
