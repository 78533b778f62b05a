use Rattle.std.proofs.Common.{rules, sym, ◌∙◌}
use Rattle.session_status.proofs.Failures.{some_found}
use Rattle.session_status.proofs.failing.fetch_fails.Goals as goal

pub returns : goal.returns
returns c = c.have_failed.ensures ∙ sym (some_found c.args.found.now c.args.discovers (search rules))
