use Rattle.std.proofs.Common.{◌≡◌, [], ap, ◌∙◌, arith}
use Rattle.std.specs.Prelude.{Some}
use Rattle.desk.specs.Meaning.{meaning_of}
use Rattle.message_generator.specs.Stream.{stream_of}
use Rattle.ordered_host.specs.InOrder.{OrderedData, stream_of as whole_stream}
use Rattle.session_generate.proofs.Wholes.{whole-run}
use Rattle.session_generate.proofs.running.run_to_exit.Goals as goal

pub returns-in-Ok : goal.returns-in-Ok
returns-in-Ok g c =
    let old = c.new-host.result in
    let calls : old.host.calls ≡ Some [] = ap (λ (h : OrderedData). h.host.calls) c.new-host.ensures in
    let source : whole_stream old ≡ Some (stream_of c.args.count) = ap whole_stream c.new-host.ensures ∙ ap Some c.new.ensures in
    whole-run (meaning_of g.A.Analysis.decodes g.A.Analysis.answer) c.args.count (omega arith) old c.main_loop-end.new.host c.args.sink.now.turns c.main_loop-end.new.sink.turns
    c.in-Ok.field-0 calls source c.requires c.main_loop-end.ensures.origin_stays c.keeps_order.ensures (rw c.in_ok-config.ensures at c.in-Ok.ensures.run)
