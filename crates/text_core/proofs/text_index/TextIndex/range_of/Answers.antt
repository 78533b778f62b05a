use Rattle.std.proofs.Common.{arith}
use Rattle.std.proofs.lemmas.Grind.{common_steps}
use Rattle.text_core.proofs.CharacterLemmas.{range-characters}
use Rattle.text_core.proofs.StartLemmas.{starts-know}
use Rattle.text_core.proofs.text_index.TextIndex.range_of.Goals as goal

pub range_of-requires : goal.range_of-requires
range_of-requires c = λ line _. starts-know c.deref.result.now c.as_str.result.now (cc) line

pub returns-in_err-start-clause-value : goal.returns-in_err-start-clause-value
returns-in_err-start-clause-value c = grind (arith, common_steps)

pub returns-in_err-start-clause-characters : goal.returns-in_err-start-clause-characters
returns-in_err-start-clause-characters c =
    range-characters c.args.encoding c.args.self.now c.args.range c.from_residual.result (returns-in_err-start-clause-value c)
