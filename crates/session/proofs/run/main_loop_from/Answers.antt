use Rattle.session_laws.proofs.Answered.{run-answered}
use Rattle.session_laws.proofs.Causes.{answered-caused, answered-complete}
use Rattle.trust_laws.proofs.Trusted.{run-trusted}
use Rattle.session.proofs.run.main_loop_from.Goals as goal

pub returns-clause-headline : goal.returns-clause-headline
returns-clause-headline g c = run-answered _ _ _ _ _ _ _ _ c.run_from.ensures.run

pub returns-clause-quiet : goal.returns-clause-quiet
returns-clause-quiet g c = run-trusted _ _ _ _ _ _ _ _ c.run_from.ensures.run

pub returns-clause-end : goal.returns-clause-end
returns-clause-end g c = answered-caused _ _ _ _ _ _ _ _ (run-answered _ _ _ _ _ _ _ _ c.run_from.ensures.run)

pub returns-clause-complete : goal.returns-clause-complete
returns-clause-complete g c =
    let answered = run-answered _ _ _ c.args.reader _ _ _ _ c.run_from.ensures.run in
    answered-complete _ _ _ c.args.reader _ _ _ _ _ _ answered (answered-caused _ _ _ c.args.reader _ _ _ _ answered) c.run_from.ensures.host_fault
    c.run_from.ensures.write_fault
