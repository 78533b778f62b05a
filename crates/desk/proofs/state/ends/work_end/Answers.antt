use Rattle.std.proofs.Common.{rules, ◌≡◌, ◌∙◌}
use Rattle.session_port.specs.Kinds.{job_group}
use Rattle.desk.specs.WorkEnds.{end_in, value_or_reason}
use Rattle.desk.proofs.PlainEnds.{other_end}
use Rattle.desk.proofs.state.ends.work_end.Goals as goal

pub returns-in_ok-came-in_default : goal.returns-in_ok-came-in_default
returns-in_ok-came-in_default c =
    let same : c.end_in.result ≡ end_in (job_group c.args.kind.now) (value_or_reason c.args.outcome) = search rules in
    same ∙ other_end c.args.kind.now c.args.outcome c.in_default.not-Diagnostics c.in_default.not-Tests
