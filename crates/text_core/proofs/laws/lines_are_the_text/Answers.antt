use Rattle.text_core.proofs.LineTextLemmas.{last_unended, line_ended, lines_joined}
use Rattle.text_core.proofs.laws.lines_are_the_text.Goals as goal

pub returns-clause-joined : goal.returns-clause-joined
returns-clause-joined c = lines_joined

pub returns-clause-ended : goal.returns-clause-ended
returns-clause-ended c = line_ended

pub returns-clause-last : goal.returns-clause-last
returns-clause-last c = last_unended
