use Rattle.docs_vfs.proofs.RootChoice.{root_chosen, parent_chosen}
use Rattle.docs_vfs.proofs.root_laws.the_longest_root_is_chosen.Goals as goal

pub returns : goal.returns
returns c = record { root = root_chosen; parent = parent_chosen }
