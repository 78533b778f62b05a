-- When two nodes hold the same.
use Rattle.std.specs.Prelude.{◌≡◌}
use Rattle.shared_map.specs.declared.tree.Node.{Node}

module _ {K V : Type 0} where
  -- the same sides and the same entry, each in a place of its own or not
  pub record IsAlike (f g : Node K V) : Type 0 where
    pub left : g.left ≡ f.left
    pub entry : g.entry ≡ f.entry
    pub right : g.right ≡ f.right
