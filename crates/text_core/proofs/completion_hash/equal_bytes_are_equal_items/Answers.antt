use Rattle.text_core.proofs.TellLemmas.{same_item}
use Rattle.text_core.proofs.completion_hash.equal_bytes_are_equal_items.Goals as goal

pub returns : goal.returns
returns c = same_item
