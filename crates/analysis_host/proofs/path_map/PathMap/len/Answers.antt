use Rattle.std.proofs.Common.{sym, ap, ◌∙◌}
use Rattle.std.specs.Cmp.Lexicographic.{nat_list_cmp_total}
use Rattle.std.specs.FinMap as map
use Rattle.shared_map.proofs.AsMap.{len-view}
use Rattle.analysis_host.proofs.path_map.PathMap.len.Goals as goal

pub returns : goal.returns
returns g c = c.len.ensures.len ∙ sym (len-view nat_list_cmp_total c.self.inside.rows c.len.ensures.order) ∙ ap map.len c.self.view_is
