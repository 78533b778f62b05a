use Rattle.std.proofs.Common.{◌≡◌, false, ap, ◌∙◌}
use Rattle.inline_host.specs.Inline.{waiting}
use Rattle.ordered_host.specs.InOrder.{OrderedData, stream_of}
use Rattle.ordered_host.proofs.Giving.{Gave, gave_by}
use Rattle.ordered_host.proofs.Following.{ordered-gave, whole-gave}
use Rattle.ordered_host.proofs.ordered_host.OrderedHostHost.next.Goals as goal

pub invariant_of-self : goal.invariant_of-self
invariant_of-self g c =
    let old = c.self.inside.host in let new = c.next.new.self in
    let going : c.self.inside.failed ≡ false = ap (λ (h : OrderedData). h.failed) c.self.view_is ∙ c.requires.usable in
    let gives : Gave old new c.in-Ok.event =
    gave_by old new c.in-Ok.event c.in-Ok.ensures.bytes c.in-Ok.ensures.results c.in-Ok.ensures.ended c.in-Ok.ensures.loader c.in-Ok.ensures.deferred c.in-Ok.ensures.timer
    c.in-Ok.ensures.news in
    ordered-gave c.self.inside.failed going old new c.in-Ok.event gives c.in-Ok.ensures.out c.in-Ok.ensures.calls c.in-Ok.ensures.usable_at_end c.self.invariant

pub returns-in-Ok-clause-origin_stays : goal.returns-in-Ok-clause-origin_stays
returns-in-Ok-clause-origin_stays g c =
    let old = c.self.inside.host in let new = c.next.new.self in
    let gives : Gave old new c.in-Ok.event =
    gave_by old new c.in-Ok.event c.in-Ok.ensures.bytes c.in-Ok.ensures.results c.in-Ok.ensures.ended c.in-Ok.ensures.loader c.in-Ok.ensures.deferred c.in-Ok.ensures.timer
    c.in-Ok.ensures.news in
    whole-gave old.calls new.calls c.in-Ok.event (waiting old) (waiting new) c.in-Ok.ensures.calls gives.parted ∙ ap stream_of c.self.view_is
