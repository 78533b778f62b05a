use Rattle.std.proofs.Common.{◌≡◌, ◌≤◌, ◌+◌, ◌-◌, length}
use Rattle.std.specs.List.{suffix_len}
use Rattle.small_analysis.specs.Names.{is_word_byte}
use Rattle.small_analysis.proofs.names.before_blocks.Given as goal

abbrev pub invariant-loop-head : goal.invariant-loop-head
invariant-loop-head l = (suffix_len is_word_byte l.front ≡ length l.front - length l.remaining + suffix_len is_word_byte l.remaining) × (length l.remaining ≤ length l.front)

abbrev pub decreases-loop-head : goal.decreases-loop-head
decreases-loop-head l = length l.remaining
