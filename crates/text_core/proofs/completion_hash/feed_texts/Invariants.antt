use Rattle.std.proofs.Common.{◌++◌, ℕ, List, length, map, take}
use Rattle.std.specs.List.{concat}
use Rattle.std.specs.Int.{to_le_bytes, w64}
use Rattle.sha1.specs.Sha1.{Holds}
use Rattle.text_core.specs.Hashed.{text_bytes}
use Rattle.text_core.proofs.completion_hash.feed_texts.Given as goal

abbrev pub invariant-loop-text : goal.invariant-loop-text
invariant-loop-text l = (m : List ℕ) → Holds l.fn.hasher m → Holds l.hasher (m ++ (to_le_bytes w64 (length l.texts) ++ concat (map text_bytes (take l.text-index l.texts))))
