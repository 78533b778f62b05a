-- The order of packages is total, and tells all of them apart.
use Rattle.std.proofs.Common.{ap, refl}
use Rattle.std.specs.Prelude.{None, Some}
use Rattle.std.specs.Cmp.{IsTotalOrder}
use Rattle.std.specs.Cmp.Lexicographic.{nat_list_cmp_total, options_total}
use Rattle.std.specs.FinMap as map
use Rattle.op_board.specs.Packages.{package_cmp}

pub package_total : IsTotalOrder package_cmp
package_total = options_total nat_list_cmp_total

pub package_same : map.IsAntisymmetric package_cmp
package_same None None e = refl
package_same None (Some y) e = absurd cc
package_same (Some x) None e = absurd cc
package_same (Some x) (Some y) e = ap Some (map.slice_cmp-IsAntisymmetric map.nat_cmp-IsAntisymmetric x y e)
