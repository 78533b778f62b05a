use Rattle.std.proofs.Common.{◌≡◌, true, take, arith}
use Rattle.std.specs.List.{list_all}
use Rattle.small_analysis.specs.Names.{is_word_byte}
use Rattle.small_analysis.proofs.BlockLemmas.{prefix_len_past}
use Rattle.small_analysis.proofs.names.after_blocks.Goals as goal

pub loop-block-preserved : goal.loop-block-preserved
loop-block-preserved c =
    let all : list_all is_word_byte (take 32 c.loop-block.remaining.now) ≡ true = grind arith in
    grind (arith, prefix_len_past is_word_byte c.loop-block.remaining.now 32 all)
