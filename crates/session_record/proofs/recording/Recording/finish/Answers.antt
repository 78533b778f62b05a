use Rattle.std.proofs.Math.Logic.{∥∥₁_elim}
use Rattle.session_port.specs.Record.{given_in}
use Rattle.session_record.specs.Record.{IsRecordOf}
use Rattle.session_record.proofs.PropLemmas.{ok_prop, err_prop}
use Rattle.session_record.proofs.SinceLemmas.{kept_of}
use Rattle.session_record.proofs.recording.Recording.finish.Goals as goal

pub returns-clause-ok : goal.returns-clause-ok
unfolding IsRecordOf
returns-clause-ok c begin old new before calls r o n = ∥∥₁_elim r (ok_prop begin (given_in calls) (λ v. v.items) _) (λ k.
    c.close.ensures.ok begin (given_in calls) (kept_of begin old new c.args.self before calls o n k))

pub returns-clause-err : goal.returns-clause-err
returns-clause-err c begin old new before calls r o n = ∥∥₁_elim r (err_prop begin (given_in calls) _) (λ k.
    c.close.ensures.err begin (given_in calls) (kept_of begin old new c.args.self before calls o n k))
