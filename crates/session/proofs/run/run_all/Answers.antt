use Rattle.session.proofs.Advancing.{run-first, run-whole}
use Rattle.session.proofs.run.run_all.Goals as goal

pub returns-in-Ok-clause-run : goal.returns-in-Ok-clause-run
returns-in-Ok-clause-run g c = λ config is.
    run-whole _ config c.args.state.now _ c.args.reader.now _ _ _ _ _ _ _ _ _ is c.requires.idle c.in-Ok.ensures.turn c.in-Ok.ensures.honest_stays
    c.run_on.ensures.run

pub returns-in-Err-clause-run : goal.returns-in-Err-clause-run
returns-in-Err-clause-run g c = λ config is.
    run-first _ config c.args.state.now _ c.args.reader.now _ _ _ (g.H.Host.out c.args.host.now) (g.H.Host.out c.run_turn.new.host) _ c.in-Err.error is
    c.in-Err.ensures.turn
