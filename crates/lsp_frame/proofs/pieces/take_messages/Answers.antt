use Rattle.std.proofs.Common.{◌∙◌}
use Rattle.lsp_frame.proofs.Readings.{given_reading, given_counted, bad_reading, none_reading}
use Rattle.lsp_frame.proofs.pieces.take_messages.Goals as goal

pub messages-preserved : goal.messages-preserved
messages-preserved c =
    let given = rw c.in-Ok-Some.field-0-is at c.in-Ok-Some.ensures.message in
    record {
      reading = λ more. rw c.in_ok-push-in-Ok-Some.ensures.ok (given_reading _ _ _ _ given more ∙ c.messages.invariant.reading more);
      counted = given_counted _ _ _ given ∙ c.messages.invariant.counted;
    }

pub returns-in-Err-BadFrame : goal.returns-in-Err-BadFrame
returns-in-Err-BadFrame c =
    let fault = rw c.in-Err-BadFrame.field-0-is at c.in-Err-BadFrame.ensures.fault in
    record {
      reading = λ more. rw fault.after (c.messages.invariant.reading more);
      counted = rw fault.after c.messages.invariant.counted;
      end = bad_reading _ _ _ fault;
    }

pub returns-in-Err-BadMessage : goal.returns-in-Err-BadMessage
returns-in-Err-BadMessage c =
    let fault = rw c.in-Err-BadMessage.field-0-is at c.in-Err-BadMessage.ensures.fault in
    record {
      reading = λ more. rw fault.after (c.messages.invariant.reading more);
      counted = rw fault.after c.messages.invariant.counted;
      end = none_reading _ _ _ fault;
    }
