use Rattle.std.proofs.Common.{◌≡◌, [], sym, ◌∙◌}
use Rattle.std.specs.Vec.Iter.{into_iter_items}
use Rattle.std.proofs.lemmas.List.{nil_from_length}
use Rattle.session_port.proofs.Questions.{continues_done}
use Rattle.session_port.proofs.asking.ask_all.Goals as goal

pub returns-clause-kinds : goal.returns-clause-kinds
returns-clause-kinds g c =
    let left = c.loop-ask.ask-iterator in
    let none : into_iter_items left ≡ [] = nil_from_length _ (sym left.rest.ok.0 ∙ c.in-None.ensures.steps.0) in
    continues_done c.args.asks c.loop-ask.answers _ c.loop-ask.invariant.kinds none
