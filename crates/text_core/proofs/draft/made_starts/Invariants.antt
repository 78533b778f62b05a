use Rattle.std.proofs.Common.{take, string_bytes}
use Rattle.text_core.specs.IndexInvariant.{text_of}
use Rattle.text_core.proofs.MadeLemmas.{HasStarts}
use Rattle.text_core.proofs.draft.made_starts.Given as goal

abbrev pub invariant-loop-index : goal.invariant-loop-index
invariant-loop-index l = HasStarts (string_bytes l.draft.text) (text_of l.draft) l.place (take l.index l.draft.splices.items) l.made l.starts.items
