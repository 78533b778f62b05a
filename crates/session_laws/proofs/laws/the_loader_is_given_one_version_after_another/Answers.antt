use Rattle.session_laws.proofs.LoaderVersions.{versions-rise}
use Rattle.session_laws.proofs.laws.the_loader_is_given_one_version_after_another.Goals as goal

pub returns : goal.returns
returns c = versions-rise
