use Rattle.std.proofs.Common.{ap, sym, subst, ◌∙◌}
use Rattle.std.proofs.lemmas.List.{take_rest}
use Rattle.server.proofs.Streams.{Written, written_more, written_kept}
use Rattle.server.proofs.stdio.standard_output.write_whole.Goals.{in-Ok, in-Err+else-ne}
use Rattle.server.proofs.stdio.standard_output.write_whole.Goals as goal

pub writing-preserved : goal.writing-preserved
writing-preserved g c =
    elim c.match-write.branch [
      | in-Ok w ↦ subst (Written _ _ _) (sym (ap (λ r. r.now) w.rest-is ∙ take_rest c.writing.rest.now w.in-Ok.count))
          (written_more _ _ _ _ _ w.in-Ok.count c.writing.invariant w.in-Ok.ensures.bytes)
      | in-Err+else-ne w ↦ subst (Written _ _ _) (sym (ap (λ r. r.now) w.rest-is)) (written_kept _ _ _ _ _ c.writing.invariant w.in-Err.ensures.bytes)
    ]
