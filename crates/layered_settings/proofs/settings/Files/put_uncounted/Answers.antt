use Rattle.std.proofs.Common.{ap, ◌∙◌}
use Rattle.std.specs.Prelude.{Some}
use Rattle.std.specs.Cmp.{nat_cmp_total}
use Rattle.std.specs.FinMap as map
use Rattle.shared_map.proofs.AsMap.{set-view}
use Rattle.layered_settings.proofs.settings.Files.put_uncounted.Goals as goal

pub returns : goal.returns
returns g c =
    rw c.in_ok-set.ensures.ok (rw c.in_ok-shared.ensures (
    set-view nat_cmp_total map.nat_cmp-IsAntisymmetric c.args.root (Some c.args.layer) c.self.inside.layers c.len-in_order.ensures.order
    ∙ ap (λ m. map.insert m c.args.root c.args.layer) c.self.view_is
    ))
