use Rattle.std.proofs.Common.{arith, refl, inl, [], ◌∷◌, ◌≡◌, ap, sym, subst, ◌∙◌}
use Rattle.std.proofs.lemmas.Grind.{common_steps}
use Rattle.session_port.specs.Honest.{AreHonest}
use Rattle.session_port.specs.Jobs.{after_batch}
use Rattle.session_port.specs.Record.{added, after_event, gave}
use Rattle.session_port.specs.declared.event.HostEvent.TheVariants.{Ended}
use Rattle.session_laws.specs.Meaning.{meaning_of}
use Rattle.session_laws.specs.Run.{told_of}
use Rattle.session_laws.proofs.Courses.{course-event, course-fed, course-waits}
use Rattle.session_laws.proofs.Stretches.{telling-calls}
use Rattle.session.proofs.Advancing.{advances-feed, advances-turn}
use Rattle.session.proofs.Behind.{BringsBytes, BringsInput, IsBrought, is-brought}
use Rattle.session.proofs.run.take_event.Goals as goal

pub returns-in-Err-Failed-clause-turn : goal.returns-in-Err-Failed-clause-turn
returns-in-Err-Failed-clause-turn g c =
    let h = c.in-Err-Failed.ensures in
    inl (inl (record { course = course-waits _ _ c.requires.waits; told = grind (arith, common_steps, h) }))

pub returns-in-Input-clause-turn : goal.returns-in-Input-clause-turn
returns-in-Input-clause-turn g c =
    let h = c.in-Ok.ensures in
    let brings : BringsInput c.in-Ok.event c.in-Input.input =
    subst (IsBrought c.in-Ok.event) (sym c.brought_by.ensures ∙ c.in-Input.is) (is-brought c.in-Ok.event) in
    advances-turn (meaning_of g.A.Analysis.decodes g.A.Analysis.answer) c.in-Input.input (c.in-Ok.event ∷ []) c.args.state.now c.run_turn.new.state
    c.args.reader.now c.args.reader.now
    (told_of (g.H.Host.calls c.args.host.now) (g.S.Sink.turns c.args.sink.now)) (told_of (g.H.Host.calls c.next.new.self) (g.S.Sink.turns c.args.sink.now))
    (told_of (g.H.Host.calls c.run_turn.new.host) (g.S.Sink.turns c.run_turn.new.sink)) (g.H.Host.honest c.args.host.now)
    (g.H.Host.out c.args.host.now) (g.H.Host.out c.next.new.self) (g.H.Host.out c.run_turn.new.host) c.run_turn.result
    (course-waits c.args.reader.now.place c.args.reader.now.held c.requires.waits)
    (brings.course c.args.reader.now.place c.args.reader.now.held c.requires.waits) brings.none
    (telling-calls _ _ _ h.calls refl) (h.out ∙ ap (λ batch. after_batch batch (g.H.Host.out c.args.host.now)) brings.batch)
    (λ honest. subst (AreHonest g.A.Analysis.answer (g.H.Host.out c.args.host.now)) brings.batch (h.honest honest)) brings.later refl c.run_turn.ensures.turn

pub returns-in-Fed-clause-turn : goal.returns-in-Fed-clause-turn
returns-in-Fed-clause-turn g c =
    let h = c.in-Ok.ensures in
    let brings : BringsBytes c.in-Ok.event c.in-Fed.bytes = subst (IsBrought c.in-Ok.event) (sym c.brought_by.ensures ∙ c.in-Fed.is) (is-brought c.in-Ok.event)
    in
    advances-feed (meaning_of g.A.Analysis.decodes g.A.Analysis.answer) c.in-Fed.bytes c.args.state.now c.args.reader.now c.feed.new.reader
    (told_of (g.H.Host.calls c.args.host.now) (g.S.Sink.turns c.args.sink.now)) (told_of (g.H.Host.calls c.next.new.self) (g.S.Sink.turns c.args.sink.now))
    (g.H.Host.honest c.args.host.now) (g.H.Host.out c.args.host.now) (g.H.Host.out c.next.new.self) c.feed.result
    (course-waits c.args.reader.now.place c.args.reader.now.held c.requires.waits)
    (λ more. course-fed c.args.reader.now.place c.args.reader.now.held c.in-Fed.bytes more c.requires.waits brings.some)
    (telling-calls _ _ _ (h.calls ∙ ap (λ event. added (g.H.Host.calls c.args.host.now) (gave event)) brings.event_is) refl)
    brings.some c.feed.ensures.fits c.feed.ensures.ok c.feed.ensures.err
    (h.out ∙ ap (λ event. after_event event (g.H.Host.out c.args.host.now)) brings.event_is)

pub returns-in-Ended-clause-turn : goal.returns-in-Ended-clause-turn
returns-in-Ended-clause-turn g c =
    let h = c.in-Ok.ensures in
    let is : c.in-Ok.event ≡ Ended = subst (IsBrought c.in-Ok.event) (sym c.brought_by.ensures ∙ c.in-Ended.is) (is-brought c.in-Ok.event) in (
      course-waits c.args.reader.now.place c.args.reader.now.held c.requires.waits,
      course-event c.args.reader.now.place c.args.reader.now.held Ended [] c.requires.waits,
      telling-calls (gave Ended ∷ []) (told_of (g.H.Host.calls c.args.host.now) (g.S.Sink.turns c.args.sink.now))
          (told_of (g.H.Host.calls c.next.new.self) (g.S.Sink.turns c.args.sink.now))
          (h.calls ∙ ap (λ event. added (g.H.Host.calls c.args.host.now) (gave event)) is) refl,
    )
