use Rattle.small_analysis.proofs.AskedLemmas.{asks, others_asked}
use Rattle.small_analysis.proofs.matches.ask.Goals as goal

pub returns-clause-here : goal.returns-clause-here
returns-clause-here c =
    asks c.args.encoding c.args.asked.now c.insert.new.self c.args.index.now c.args.position c.in-Some.place c.in-Some-near.near
    c.in-Some.ensures.value c.in-Some-near.ensures c.in_ok-insert.ensures.ok

pub returns-clause-others : goal.returns-clause-others
returns-clause-others c = others_asked c.args.asked.now c.insert.new.self c.in-Some-near.near c.in_ok-insert.ensures.ok
