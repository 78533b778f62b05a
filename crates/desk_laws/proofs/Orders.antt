-- The orders by which the session's maps go.
use Rattle.std.specs.Ordering.{nat_cmp}
use Rattle.std.specs.Cmp.{IsTotalOrder, nat_cmp_total}
use Rattle.std.specs.Cmp.Lexicographic.{nat_list_cmp_total}
use Rattle.std.specs.FinMap as map
use Rattle.docs_vfs.specs.Paths.{path_cmp}

abbrev pub by_number_total : IsTotalOrder nat_cmp
by_number_total = nat_cmp_total

abbrev pub by_number_same : map.IsAntisymmetric nat_cmp
by_number_same = map.nat_cmp-IsAntisymmetric

abbrev pub by_path_total : IsTotalOrder path_cmp
by_path_total = nat_list_cmp_total

abbrev pub by_path_same : map.IsAntisymmetric path_cmp
by_path_same = map.slice_cmp-IsAntisymmetric map.nat_cmp-IsAntisymmetric
