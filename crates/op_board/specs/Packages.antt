-- The order of packages: a check without a package stands first, and then packages by their texts.
use Rattle.std.specs.Prelude.{ℕ, List, Option}
use Rattle.std.specs.Ordering.{nat_cmp}
use Rattle.std.specs.Option.{option_cmp}
use Rattle.std.specs.Cmp.Lexicographic.{slice_cmp}
use Rattle.std.specs.declared.cmp.Ordering.{Ordering}

abbrev pub package_cmp : Option (List ℕ) → Option (List ℕ) → Ordering
package_cmp = option_cmp (slice_cmp nat_cmp)
