use Rattle.std.proofs.Common.{rules}
use Rattle.session_explain.proofs.Written.{writes-text}
use Rattle.session_explain.proofs.explaining.explain_session.Goals as goal

pub returns-in-Ok-clause-ran : goal.returns-in-Ok-clause-ran
returns-in-Ok-clause-ran g c = record {
  calls = c.run_again-outcome.new.host.calls;
  outcome = c.run_again-outcome.result;
  runs = search (c.run_again-outcome.ensures.runs, rules);
}

pub returns-in-Ok-clause-text : goal.returns-in-Ok-clause-text
returns-in-Ok-clause-text g c = writes-text _ _ _ _ c.put_text.result c.put_text.ensures.turns c.put_text.ensures.err
