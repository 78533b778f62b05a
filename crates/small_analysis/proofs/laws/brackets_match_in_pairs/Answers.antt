use Rattle.std.proofs.Common.{length}
use Rattle.small_analysis.proofs.BracketLemmas.{are_nested, is_matching}
use Rattle.small_analysis.proofs.laws.brackets_match_in_pairs.Goals as goal

pub returns : goal.returns
returns c = record { pairs = λ text. is_matching text (length text); nest = λ text. are_nested text (length text) }
