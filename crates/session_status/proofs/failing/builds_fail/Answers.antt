use Rattle.std.proofs.Common.{sym, ◌∙◌}
use Rattle.session_status.proofs.Failures.{builds_fail}
use Rattle.session_status.proofs.failing.builds_fail.Goals as goal

pub returns : goal.returns
returns c = c.have_failed_builds.ensures ∙ sym (builds_fail c.args.runs.now)
