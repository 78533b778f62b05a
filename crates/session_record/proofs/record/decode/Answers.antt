use Rattle.std.proofs.Common.{arith}
use Rattle.session_record.specs.Record.{session}
use Rattle.session_record.proofs.Whole.{all_found, same_value, no_value}
use Rattle.session_record.proofs.record.decode.Goals as goal

pub returns-in-Ok-clause-found : goal.returns-in-Ok-clause-found
returns-in-Ok-clause-found c = all_found session c.args.bytes.now (c.in-Ok.begin, c.in-Ok.events) (λ i. omega (arith, c.type_inv.bytes i)) c.in-Ok.ensures

pub returns-in-Ok-clause-exact : goal.returns-in-Ok-clause-exact
returns-in-Ok-clause-exact c begin events fits e = same_value session c.args.bytes.now (c.in-Ok.begin, c.in-Ok.events) (begin, events) c.in-Ok.ensures fits e

pub returns-in-Err-Malformed-clause-exact : goal.returns-in-Err-Malformed-clause-exact
returns-in-Err-Malformed-clause-exact c begin events fits e =
    let none = rw c.in-Err-Malformed.field-0-is at c.in-Err-Malformed.ensures in
    absurd (no_value session c.args.bytes.now none (begin, events) fits e)

pub returns-in-Err-Malformed-clause-err : goal.returns-in-Err-Malformed-clause-err
returns-in-Err-Malformed-clause-err c begin events fits e =
    let none = rw c.in-Err-Malformed.field-0-is at c.in-Err-Malformed.ensures in
    no_value session c.args.bytes.now none (begin, events) fits e
