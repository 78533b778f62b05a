use Rattle.std.proofs.Common.{ap, ◌++◌, ◌∙◌, string_bytes}
use Rattle.text_core.specs.Splices.{spliced}
use Rattle.text_core.proofs.PositionLemmas.{split_whole}
use Rattle.text_core.proofs.SpliceLemmas.{way_part, way_goes_on}
use Rattle.text_core.proofs.splices.join.Goals as goal

pub range-requires-clause-start_le_end : goal.range-requires-clause-start_le_end
range-requires-clause-start_le_end c =
    (way_part c.args.text.now (string_bytes c.loop-splice.joined) (spliced c.args.text.now c.args.splices.now.items) c.loop-splice.place c.loop-splice.splices.items
    c.pop.new.self.items c.in-Some.splice c.loop-splice.invariant.way c.in-Some.ensures.items).1

pub range-requires-clause-end_boundary : goal.range-requires-clause-end_boundary
range-requires-clause-end_boundary c =
    let part = way_part c.args.text.now (string_bytes c.loop-splice.joined) (spliced c.args.text.now c.args.splices.now.items) c.loop-splice.place c.loop-splice.splices.items
    c.pop.new.self.items c.in-Some.splice c.loop-splice.invariant.way c.in-Some.ensures.items in
    split_whole c.args.text.now c.in-Some.splice.start c.utf8.text part.0.start_split

pub loop-splice-preserved : goal.loop-splice-preserved
loop-splice-preserved c =
    let part = way_part c.args.text.now (string_bytes c.loop-splice.joined) (spliced c.args.text.now c.args.splices.now.items) c.loop-splice.place c.loop-splice.splices.items
    c.pop.new.self.items c.in-Some.splice c.loop-splice.invariant.way c.in-Some.ensures.items in
    record {
      way =
          way_goes_on c.args.text.now (string_bytes c.loop-splice.joined) (string_bytes c.push_str-in-Some.new.self) (spliced c.args.text.now c.args.splices.now.items)
          c.loop-splice.place c.loop-splice.splices.items c.pop.new.self.items c.in-Some.splice c.loop-splice.invariant.way c.in-Some.ensures.items
          (c.in_ok-push_str-2.ensures.bytes
          ∙ ap (λ l. l ++ c.in-Some.splice.text.now) (c.in_ok-push_str.ensures.bytes ∙ ap (λ l. string_bytes c.loop-splice.joined ++ l) c.range.ensures.value));
      split = part.0.end_split;
    }
