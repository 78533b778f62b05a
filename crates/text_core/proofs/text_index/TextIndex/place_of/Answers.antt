use Rattle.std.proofs.Common.{rules}
use Rattle.text_core.proofs.CharacterLemmas.{place-characters}
use Rattle.text_core.proofs.StartLemmas.{starts-know}
use Rattle.text_core.proofs.text_index.TextIndex.place_of.Goals as goal

pub place_of-requires : goal.place_of-requires
place_of-requires c = λ line _. starts-know c.deref.result.now c.as_str.result.now (cc) line

pub returns-in_err-place-clause-value : goal.returns-in_err-place-clause-value
returns-in_err-place-clause-value c = search rules

pub returns-in_err-place-clause-characters : goal.returns-in_err-place-clause-characters
returns-in_err-place-clause-characters c =
    place-characters c.args.encoding c.args.self.now c.args.position c.from_residual.result (returns-in_err-place-clause-value c)
