use Rattle.std.proofs.Common.{◌≡◌, false, List, ℕ, ap, ◌∙◌}
use Rattle.session_port.specs.Record.{before_piece}
use Rattle.inline_host.specs.Inline.{waiting}
use Rattle.ordered_host.specs.InOrder.{OrderedData, stream_of}
use Rattle.ordered_host.proofs.Following.{ordered-took, whole-took}
use Rattle.ordered_host.proofs.ordered_host.OrderedHostHost.order.Goals as goal

pub invariant_of-self : goal.invariant_of-self
invariant_of-self g c =
    let old = c.self.inside.host in let new = c.order.new.self in
    let going : c.self.inside.failed ≡ false = ap (λ (h : OrderedData). h.failed) c.self.view_is ∙ c.requires.usable in
    let same : waiting new ≡ waiting old =
    ap (λ (held : List ℕ). before_piece held new.left) c.in-Ok.ensures.held ∙ ap (before_piece old.held) c.in-Ok.ensures.left in
    ordered-took c.self.inside.failed going old new c.args.commands same c.in-Ok.ensures.out c.in-Ok.ensures.orders c.in-Ok.ensures.calls c.in-Ok.ensures.usable c.self.invariant

pub returns-in-Ok-clause-origin_stays : goal.returns-in-Ok-clause-origin_stays
returns-in-Ok-clause-origin_stays g c =
    let old = c.self.inside.host in let new = c.order.new.self in
    let same : waiting new ≡ waiting old =
    ap (λ (held : List ℕ). before_piece held new.left) c.in-Ok.ensures.held ∙ ap (before_piece old.held) c.in-Ok.ensures.left in
    whole-took old.calls new.calls c.args.commands (waiting old) (waiting new) c.in-Ok.ensures.calls same ∙ ap stream_of c.self.view_is
