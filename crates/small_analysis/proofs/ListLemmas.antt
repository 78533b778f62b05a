-- Lists that are read or made item by item.
use Rattle.std.proofs.Common.{List, ◌++◌, Option}
use Rattle.std.specs.Option.{option_map}

-- what is done, and then the others
abbrev pub joined : {X : Type 0} → List X → Option (List X) → Option (List X)
joined done others = option_map (λ rest. done ++ rest) others
