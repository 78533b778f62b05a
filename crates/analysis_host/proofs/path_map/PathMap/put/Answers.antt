use Rattle.std.proofs.Common.{sym, ap, ◌∙◌}
use Rattle.std.specs.Cmp.Lexicographic.{nat_list_cmp_total}
use Rattle.std.specs.FinMap as map
use Rattle.shared_map.specs.AsMap.{set_in_map}
use Rattle.shared_map.proofs.AsMap.{len-view, set-view, same_cost}
use Rattle.analysis_host.proofs.path_map.PathMap.put.Goals as goal

pub returns-in_err-put-clause-cost : goal.returns-in_err-put-clause-cost
returns-in_err-put-clause-cost g c =
    same_cost (sym (len-view nat_list_cmp_total c.self.inside.rows c.len-in_order.ensures.order) ∙ ap map.len c.self.view_is) c.put.ensures.cost

pub returns-clause-ok : goal.returns-clause-ok
returns-clause-ok g c =
    rw c.in_ok-put.ensures.ok (
    set-view nat_list_cmp_total (map.slice_cmp-IsAntisymmetric map.nat_cmp-IsAntisymmetric) c.args.path c.args.value c.self.inside.rows c.len-in_order.ensures.order
    ∙ ap (λ m. set_in_map m c.args.path c.args.value) c.self.view_is
    )

pub returns-clause-cost : goal.returns-clause-cost
returns-clause-cost g c =
    same_cost (sym (len-view nat_list_cmp_total c.self.inside.rows c.len-in_order.ensures.order) ∙ ap map.len c.self.view_is) c.put.ensures.cost
