use Rattle.std.proofs.Common.{ap, ◌∙◌}
use Rattle.std.specs.Prelude.{Some}
use Rattle.std.specs.Cmp.{nat_cmp_total}
use Rattle.std.specs.FinMap as map
use Rattle.plain.proofs.Mapped.{view-update}
use Rattle.op_board.proofs.by_file.ByFile.insert.Goals as goal

pub returns-clause-ok : goal.returns-clause-ok
returns-clause-ok g c =
    view-update nat_cmp_total map.nat_cmp-IsAntisymmetric c.insert.new.self.entries c.self.inside.rows.entries _ c.args.file.0 (Some c.args.value)
    (map.get-insert nat_cmp_total _ c.args.file.0 c.args.value) c.in_ok-insert.ensures.updates.0
    ∙ ap (λ m. map.insert m c.args.file.0 c.args.value) c.self.view_is
