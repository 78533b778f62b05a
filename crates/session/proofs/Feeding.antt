-- A reader that gives a message: it goes on behind it, and has been fed as many bytes as before.
use Rattle.std.proofs.Common.{◌≡◌, ◌+◌, ◌-◌, ◌<◌, false, length, ap, ◌∙◌, arith, length-drop}
use Rattle.lsp_frame.specs.Reader.{Reader, GivesMessage}
use Rattle.lsp_frame.specs.declared.message.Message.{Message}
use Rattle.lsp_frame.proofs.Cuts.{cut_bounds}
use Rattle.session_laws.specs.Course.{is_exit}
use Rattle.session_laws.proofs.Courses.{course-next, message-takes}
use Rattle.session.specs.Reading.{TakesOut}

pub taken-out : (old new : Reader) (message : Message) → GivesMessage old new message → length new.held < length old.held → is_exit message ≡ false
    → TakesOut old new message
taken-out old new message given shorter other =
    let b = cut_bounds old.held given.start given.end given.whole in
    let within = b.within in
    let place : new.place ≡ old.place + given.end = ap (λ (r : Reader). r.place) given.after in
    let held : length new.held ≡ length old.held - given.end = ap (λ (r : Reader). length r.held) given.after ∙ length-drop given.end old.held in
    record {
      course = λ events. course-next old new message given events ∙ message-takes old.place message _ other;
      fed = omega (arith, within, place, held);
      later = omega (arith, within, place, held, shorter);
      sound = ap (λ (r : Reader). r.failed) given.after;
    }
