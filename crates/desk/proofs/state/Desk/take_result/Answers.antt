use Rattle.std.proofs.Common.{ap, subst, sym, ◌∙◌}
use Rattle.std.specs.Prelude.{option_and_then, Option}
use Rattle.lsp_frame.specs.Pending.{id_of}
use Rattle.lsp_frame.specs.declared.message.RequestId.{RequestId}
use Rattle.session_port.specs.Refines.{Refines}
use Rattle.desk.specs.Meaning.{meaning_of}
use Rattle.desk.specs.Steps.{delivered}
use Rattle.desk.proofs.Slots.{ticket_of_slot}
use Rattle.desk.proofs.state.Desk.take_result.Goals as goal

-- the request's ticket is the slot's
pub returns-clause-meets : goal.returns-clause-meets
returns-clause-meets g c =
    c.ending_nothing.ensures.same _ _ _
    (subst (λ (id : Option RequestId). Refines c.deliver.result
    (delivered (meaning_of g.A.Analysis.decodes g.A.Analysis.answer) (g.P.Present.scene c.args.scene.now) id c.args.job
    c.args.outcome (record { state = c.args.self.now; out = c.args.out.now })) c.deliver.new.self c.deliver.new.out)
    (sym (ap (option_and_then (λ t. id_of t c.args.self.now.pending))
    (ticket_of_slot c.args.job.kind c.in-Some.slot (ap (λ facts. facts.slot) (sym c.facts.ensures) ∙ c.in-Some.is))))
    c.deliver.ensures)
