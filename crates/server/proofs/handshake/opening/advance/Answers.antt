use Rattle.std.proofs.Common.{refl, subst}
use Rattle.session_laws.specs.Run.{Told, told_of}
use Rattle.session_laws.specs.Event.TheVariants.{Lsp}
use Rattle.session_laws.specs.Input.TheVariants.{Next}
use Rattle.lsp_frame.specs.Reader.{Reader}
use Rattle.server.specs.Stages.{Setup}
use Rattle.server.specs.Talking.{TalkGoes, Breaks}
use Rattle.server.specs.declared.handshake.opening.Talk.{Talk}
use Rattle.server.proofs.Stretches.{breaks-reply, goes-quiet, goes-reply}
use Rattle.server.proofs.handshake.opening.advance.Goals as goal

pub returns-in-Nothing-clause-turn : goal.returns-in-Nothing-clause-turn
returns-in-Nothing-clause-turn g c =
    let setup : Setup = record { threads = c.args.threads; info = g.A.Analysis.server_info } in
    let next = rw c.in-Message.is at c.in_ok-message.ensures in
    let answer = rw c.in-Nothing.is at c.in_ok-take-in-Message.ensures.answers in
    let in_step = rw c.in-Nothing.is at c.in_ok-take-in-Message.ensures.in_step in
    let now : Talk = record { reader = c.next_message.new.reader; negotiation = c.take.new.self; events = c.args.talk.now.events } in
    let told : Told = told_of (g.H.Host.calls c.args.host.now) (g.S.Sink.turns c.args.sink.now) in
    goes-quiet setup c.in-Message.message c.args.talk.now now told told next answer refl refl in_step c.requires.fits

pub returns-in-Ok-clause-turn : goal.returns-in-Ok-clause-turn
returns-in-Ok-clause-turn g c =
    let setup : Setup = record { threads = c.args.threads; info = g.A.Analysis.server_info } in
    let next = rw c.in-Message.is at c.in_ok-message.ensures in
    let answer = rw c.in-Reply.is at c.in_ok-take-in-Message.ensures.answers in
    let in_step = rw c.in-Reply.is at c.in_ok-take-in-Message.ensures.in_step in
    let now : Talk = record { reader = c.next_message.new.reader; negotiation = c.take.new.self; events = c.args.talk.now.events } in
    goes-reply setup c.in-Message.message c.args.talk.now now _ _ next c.in-Reply.response answer.0 refl c.in-Ok.ensures.told in_step c.requires.fits

pub returns-in-Err-clause-turn : goal.returns-in-Err-clause-turn
returns-in-Err-clause-turn g c =
    let setup : Setup = record { threads = c.args.threads; info = g.A.Analysis.server_info } in
    let next = rw c.in-Message.is at c.in_ok-message.ensures in
    let answer = rw c.in-Reply.is at c.in_ok-take-in-Message.ensures.answers in
    let now : Talk = record { reader = c.next_message.new.reader; negotiation = c.take.new.self; events = c.args.talk.now.events } in
    breaks-reply setup c.in-Message.message c.args.talk.now now _ _ next c.in-Reply.response answer.0 c.in-Err.error c.in-Err.ensures.told

pub returns-in-Begins-clause-turn : goal.returns-in-Begins-clause-turn
returns-in-Begins-clause-turn g c =
    let next = rw c.in-Message.is at c.in_ok-message.ensures in
    let answer = rw c.in-Begins.is at c.in_ok-take-in-Message.ensures.answers in
    record { input = Next (Lsp c.in-Message.message); waited = answer.1; begins = answer.0; course = next.course; told = refl; fed = next.fed }

pub returns-in-Ok-take_event-clause-turn : goal.returns-in-Ok-take_event-clause-turn
returns-in-Ok-take_event-clause-turn g c =
    let setup : Setup = record { threads = c.args.threads; info = g.A.Analysis.server_info } in
    let partial = rw c.in-Waits.is at c.in_ok-message.ensures in
    subst (λ (r : Reader). TalkGoes setup (record { reader = r; negotiation = c.args.talk.now.negotiation; events = c.args.talk.now.events })
    c.take_event.new.talk
    (told_of (g.H.Host.calls c.args.host.now) (g.S.Sink.turns c.args.sink.now))
    (told_of (g.H.Host.calls c.take_event.new.host) (g.S.Sink.turns c.args.sink.now)))
    partial.same (c.in-Ok-take_event.ensures.event setup (g.S.Sink.turns c.args.sink.now))

pub returns-in-Err-take_event-clause-turn : goal.returns-in-Err-take_event-clause-turn
returns-in-Err-take_event-clause-turn g c =
    let setup : Setup = record { threads = c.args.threads; info = g.A.Analysis.server_info } in
    let partial = rw c.in-Waits.is at c.in_ok-message.ensures in
    subst (λ (r : Reader). Breaks setup (record { reader = r; negotiation = c.args.talk.now.negotiation; events = c.args.talk.now.events })
    (told_of (g.H.Host.calls c.args.host.now) (g.S.Sink.turns c.args.sink.now))
    (told_of (g.H.Host.calls c.take_event.new.host) (g.S.Sink.turns c.args.sink.now)) c.in-Err-take_event.error)
    partial.same (c.in-Err-take_event.ensures.event setup (g.S.Sink.turns c.args.sink.now))
