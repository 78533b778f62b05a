use Rattle.text_core.proofs.draft.edit.Goals as goal

pub returns-clause-from : goal.returns-clause-from
returns-clause-from g c = λ before from. c.in_ok-replace.ensures.from before (c.in_ok-refresh.ensures.from before from)
