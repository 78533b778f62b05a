use Rattle.trust_laws.proofs.Present.{shows-found}
use Rattle.trust_laws.proofs.trust.quiet_sessions_show_the_present.Goals as goal

pub returns : goal.returns
returns c meaning settings before s turn mid after last ran steps runs asks none quiet shows next bytes honest came =
    shows-found meaning settings before s turn mid after last ran steps runs asks none quiet shows next honest came
    c.equal_urls_name_equal_paths.ensures.law bytes
