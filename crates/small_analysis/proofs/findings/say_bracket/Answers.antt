use Rattle.std.proofs.Common.{subst}
use Rattle.std.specs.Str.{IsUtf8}
use Rattle.small_analysis.proofs.UnmatchedLemmas.{bracket_ends, unmatched_bracket}
use Rattle.small_analysis.proofs.findings.say_bracket.Goals as goal

pub bracket_said-requires-clause-to : goal.bracket_said-requires-clause-to
bracket_said-requires-clause-to c =
    bracket_ends c.args.index.now c.args.place (subst IsUtf8 c.text-text.ensures c.text-text.utf8) (unmatched_bracket c.args.index.now c.args.place c.requires)
