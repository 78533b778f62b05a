use Rattle.std.proofs.Common.{◌≡◌, None, Some, length, take, string_bytes, lit<, sym, ap, ◌∙◌, subst}
use Rattle.std.proofs.lemmas.Iterator.Consumers.{YieldsList-so_far, YieldsList-turn, YieldsList-end, YieldsList-at}
use Rattle.std.proofs.lemmas.Iterator.Splits.{YieldsList-from_str_split}
use Rattle.docs_vfs.specs.Paths.{parts}
use Rattle.docs_vfs.specs.Resolve.{step, walk}
use Rattle.docs_vfs.specs.Fronts.{whole, Reaches}
use Rattle.docs_vfs.proofs.Walks.{walk_stops}
use Rattle.docs_vfs.proofs.relative.take_segments.Goals as goal

pub returns-then-not-branch : goal.returns-then-not-branch
returns-then-not-branch c =
    let base = whole (string_bytes c.args.text.now) in
    let all = parts c.args.segments.now in
    let at = whole (string_bytes c.loop-segment.text) in
    let split = YieldsList-from_str_split {s = c.split-segment-items.result} 47 c.args.segments.now (lit< tt) c.split-segment-items.ensures.text c.split-segment-items.ensures.has_more c.split-segment-items.ensures.pattern in
    let road = YieldsList-at c.into_iter-segment-iterator.ensures.into_iter_gives split in
    let so_far = YieldsList-so_far road c.loop-segment.yielded _ c.loop-segment.yielded_by in
    let turn = YieldsList-turn road c.loop-segment.yielded _ c.loop-segment.yielded_by _ _ c.in-Some.segment c.in-Some.is c.next.ensures.steps in
    let walked : walk c.args.empty base (take (length c.loop-segment.yielded) all) ≡ Some at = ap (walk c.args.empty base) (sym so_far) ∙ c.loop-segment.invariant.0 in
    let stop : step c.args.empty at c.in-Some.segment.now ≡ None =
    subst (λ b. Reaches b (step c.args.empty at c.in-Some.segment.now) (string_bytes c.take_segment.new.text)) c.if-not-branch.true c.in_ok-take_segment.ensures in
    walk_stops c.args.empty base (string_bytes c.loop-segment.text) c.in-Some.segment.now all (length c.loop-segment.yielded) turn walked stop

pub returns : goal.returns
returns c =
    let split = YieldsList-from_str_split {s = c.split-segment-items.result} 47 c.args.segments.now (lit< tt) c.split-segment-items.ensures.text c.split-segment-items.ensures.has_more c.split-segment-items.ensures.pattern in
    let road = YieldsList-at c.into_iter-segment-iterator.ensures.into_iter_gives split in
    let end = YieldsList-end road c.loop-segment.yielded _ c.loop-segment.yielded_by _ _ c.in-None.is c.next.ensures.steps in
    (ap (walk c.args.empty (whole (string_bytes c.args.text.now))) (sym end.0) ∙ c.loop-segment.invariant.0, c.loop-segment.invariant.1)
