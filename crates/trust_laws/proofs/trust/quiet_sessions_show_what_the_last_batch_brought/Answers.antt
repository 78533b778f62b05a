use Rattle.trust_laws.proofs.Ending.{shows-brought}
use Rattle.trust_laws.proofs.trust.quiet_sessions_show_what_the_last_batch_brought.Goals as goal

pub returns : goal.returns
returns c = shows-brought c.equal_urls_name_equal_paths.ensures.law
