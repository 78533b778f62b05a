use Rattle.std.proofs.Common.{rules, ◌≡◌, ◌∙◌, true, false}
use Rattle.session_laws.specs.Course.{is_exit}
use Rattle.session_laws.proofs.Courses.{course-next, course-bad_frame, course-no_message, message-exit}
use Rattle.session.proofs.Feeding.{taken-out}
use Rattle.session.proofs.reading.next_message.Goals as goal

pub returns-then-is_exit : goal.returns-then-is_exit
returns-then-is_exit c =
    let given = rw c.in-Ok-Some.field-0-is at c.in-Ok-Some.ensures.message in
    let exit : is_exit c.in-Ok-Some.message ≡ true = search rules in
    λ events. course-next _ _ c.in-Ok-Some.message given events ∙ message-exit c.args.reader.now.place c.in-Ok-Some.message _ exit

pub returns-else-is_exit : goal.returns-else-is_exit
returns-else-is_exit c =
    let given = rw c.in-Ok-Some.field-0-is at c.in-Ok-Some.ensures.message in
    let shorter = rw c.in-Ok-Some.field-0-is at c.in-Ok-Some.ensures.shorter in
    let other : is_exit c.in-Ok-Some.message ≡ false = search rules in
    taken-out _ _ c.in-Ok-Some.message given shorter other

pub returns-in-Err-BadFrame : goal.returns-in-Err-BadFrame
returns-in-Err-BadFrame c = let fault = rw c.in-Err-BadFrame.field-0-is at c.in-Err-BadFrame.ensures.fault in λ events. course-bad_frame _ _ _ fault events

pub returns-in-Err-BadMessage : goal.returns-in-Err-BadMessage
returns-in-Err-BadMessage c = let fault = rw c.in-Err-BadMessage.field-0-is at c.in-Err-BadMessage.ensures.fault in λ events.
    course-no_message _ _ _ fault events
