use Rattle.text_core.proofs.LineLemmas.{past_run-further}
use Rattle.text_core.proofs.offsets.past_wide_units.Goals as goal

pub loop-i-preserved-then-is_block_before : goal.loop-i-preserved-then-is_block_before
loop-i-preserved-then-is_block_before c =
    let run = c.is_block_before.ensures c.if-is_block_before.true in
    record {
      within = run.0.within;
      so_far = past_run-further c.args.wide c.args.line.now c.args.column c.loop-i.i 32 c.loop-i.left c.loop-i.invariant.so_far run.0 run.1;
    }
