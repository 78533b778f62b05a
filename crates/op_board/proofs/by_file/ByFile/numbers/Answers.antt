use Rattle.std.proofs.Common.{sym, ap, ◌∙◌}
use Rattle.std.specs.Cmp.{nat_cmp_total}
use Rattle.std.specs.Map.{keys_of}
use Rattle.std.specs.FinMap as map
use Rattle.plain.proofs.Mapped.{entries-view}
use Rattle.op_board.proofs.by_file.ByFile.numbers.Goals as goal

pub returns-clause-rest : goal.returns-clause-rest
returns-clause-rest g c =
    c.keys.ensures.rest ∙ ap keys_of (sym (entries-view nat_cmp_total c.self.inside.rows.entries c.keys.ensures.ordered)) ∙ ap map.keys c.self.view_is
