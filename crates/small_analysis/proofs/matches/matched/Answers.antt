use Rattle.std.proofs.Common.{◌∙◌}
use Rattle.small_analysis.proofs.MatchLemmas.{a_match}
use Rattle.small_analysis.proofs.matches.matched.Goals as goal

pub returns : goal.returns
returns c =
    c.unwrap_or.ensures
    ∙ a_match c.args.encoding c.args.index.now c.args.asked.now c.args.partners.now c.args.position c.args.place c.in-Some.near c.requires.partners c.requires.asked
    c.in-Some.ensures c.in-Some-get.partner.now c.position_in.result c.in-Some-get.ensures c.position_in.ensures.some c.position_in.ensures.value
