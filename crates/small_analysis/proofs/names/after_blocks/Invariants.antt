use Rattle.std.proofs.Common.{◌≡◌, ◌≤◌, ◌+◌, ◌-◌, length}
use Rattle.std.specs.List.{prefix_len}
use Rattle.small_analysis.specs.Names.{is_word_byte}
use Rattle.small_analysis.proofs.names.after_blocks.Given as goal

abbrev pub invariant-loop-block : goal.invariant-loop-block
invariant-loop-block l = (prefix_len is_word_byte l.rest ≡ length l.rest - length l.remaining + prefix_len is_word_byte l.remaining) × (length l.remaining ≤ length l.rest)

abbrev pub decreases-loop-block : goal.decreases-loop-block
decreases-loop-block l = length l.remaining
