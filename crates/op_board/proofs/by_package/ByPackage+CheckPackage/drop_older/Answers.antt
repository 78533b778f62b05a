use Rattle.std.proofs.Common.{rules, sym, ap, ◌∙◌}
use Rattle.std.specs.Prelude.{not}
use Rattle.std.specs.List.{filter}
use Rattle.std.specs.FinMap as map
use Rattle.std.proofs.lemmas.Map.Made.{filter_same_pairs}
use Rattle.plain.proofs.Mapped.{entries-view}
use Rattle.op_board.specs.Packages.{package_cmp}
use Rattle.op_board.specs.Checks.{older_than, kept}
use Rattle.op_board.proofs.PackageOrder.{package_total}
use Rattle.op_board.proofs.by_package.ByPackage+CheckPackage.drop_older.Goals as goal

pub returns : goal.returns
returns c =
    ap (λ rows. map.from_entries {R = package_cmp} rows) (
    filter_same_pairs _ (λ row. not (older_than c.args.generation row.1)) _ (λ k v b w f' t. search rules) _ _ c.retain.ensures.filtered
    ∙ ap (filter (λ row. not (older_than c.args.generation row.1))) (sym (entries-view package_total c.self.inside.rows.entries c.retain.ensures.was_ordered))
    )
    ∙ ap (kept (older_than c.args.generation)) c.self.view_is
