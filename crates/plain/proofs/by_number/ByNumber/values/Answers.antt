use Rattle.std.proofs.Common.{sym, ap, ◌∙◌}
use Rattle.std.specs.Cmp.{nat_cmp_total}
use Rattle.std.specs.Map.{values_of}
use Rattle.std.specs.FinMap as map
use Rattle.plain.proofs.Mapped.{entries-view}
use Rattle.plain.proofs.by_number.ByNumber.values.Goals as goal

pub returns-clause-rest : goal.returns-clause-rest
returns-clause-rest g c =
    c.values.ensures.rest ∙ ap values_of (sym (entries-view nat_cmp_total c.self.inside.rows.entries c.values.ensures.ordered)) ∙ ap map.values c.self.view_is
