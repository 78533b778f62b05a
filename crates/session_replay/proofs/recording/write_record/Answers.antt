use Rattle.std.proofs.Common.{rules, ◌≡◌, subst, sym}
use Rattle.session_replay.specs.Recording.{IsRecordOfCalls}
use Rattle.session_replay.proofs.Recorded.{writes-record}
use Rattle.session_replay.proofs.recording.write_record.Goals as goal

pub returns-in-Ok : goal.returns-in-Ok
returns-in-Ok g c = λ begin old new keeps.
    let same : c.deref.result.now ≡ c.in-Ok.bytes.items = search rules in
    writes-record begin old new _ _ _ _ c.put_text.result c.put_text.ensures.turns c.put_text.ensures.err
    (subst (IsRecordOfCalls begin old new) (sym same) (λ before calls was is. c.in-Ok.ensures.ok begin old new before calls keeps was is))
