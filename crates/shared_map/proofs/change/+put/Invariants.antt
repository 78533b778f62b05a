use Rattle.shared_map.proofs.change.+put.Given as goal

abbrev pub decreases-put : goal.decreases-put
decreases-put g l = l.tree.now.1
