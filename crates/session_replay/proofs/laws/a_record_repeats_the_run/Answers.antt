use Rattle.session_port.specs.Record.{Rose}
use Rattle.session_replay.proofs.Repeated.{record-front, record-whole}
use Rattle.session_replay.proofs.laws.a_record_repeats_the_run.Goals as goal

pub returns-clause-front : goal.returns-clause-front
returns-clause-front c = λ meaning begin events calls old new faults faults_now.
    record-front meaning begin events calls old new (Rose faults faults_now)

pub returns-clause-whole : goal.returns-clause-whole
returns-clause-whole c = λ meaning begin events calls old new faults faults_now.
    record-whole meaning begin events calls old new (Rose faults faults_now)
