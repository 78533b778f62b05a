use Rattle.std.proofs.Common.{◌≡◌, take}
use Rattle.std.specs.List.{list_all}
use Rattle.small_analysis.specs.Names.{is_word_byte}
use Rattle.small_analysis.proofs.names.are_word_bytes.Given as goal

abbrev pub invariant-loop-byte : goal.invariant-loop-byte
invariant-loop-byte l = l.all ≡ list_all is_word_byte (take l.byte-index l.block)
