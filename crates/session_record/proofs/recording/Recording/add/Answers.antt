use Rattle.std.proofs.Common.{refl, sym, ◌∙◌}
use Rattle.session_record.proofs.KeptLemmas.{still_kept, kept_more, kept_no_more}
use Rattle.session_record.proofs.recording.Recording.add.Goals as goal

pub returns-then-is_some : goal.returns-then-is_some
returns-then-is_some c begin events kept =
    still_kept begin events c.args.event.now c.args.self.now c.args.self.now (sym c.is_some.ensures ∙ c.if-is_some.true) refl kept

pub returns-in-Some : goal.returns-in-Some
returns-in-Some c begin events kept =
    let old = c.args.self.now in
    kept_more begin events c.args.event.now old
    (record { bytes = c.encode_event.new.out; begins_well = old.begins_well; count = c.in-Some.count; fault = old.fault })
    (sym c.is_some.ensures ∙ c.if-is_some.false) refl refl c.in-Some.ensures.1 c.in-Ok.ensures.0 c.in-Ok.ensures.1 kept

pub returns-in-Err-Unrecordable : goal.returns-in-Err-Unrecordable
returns-in-Err-Unrecordable c begin events kept =
    kept_no_more begin events c.args.event.now c.args.self.now c.stop-in-Err-Unrecordable.new.self
    (sym c.is_some.ensures ∙ c.if-is_some.false) (rw c.in-Err-Unrecordable.field-0-is at c.in-Err-Unrecordable.ensures)
    c.stop-in-Err-Unrecordable.ensures kept
