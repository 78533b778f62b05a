use Rattle.std.proofs.Common.{rules, ap, ◌∙◌}
use Rattle.std.specs.Cmp.Lexicographic.{nat_list_cmp_total}
use Rattle.plain.proofs.Stable.{sorted_by_key}
use Rattle.layered_settings.specs.declared.change.SettingsFile.{SettingsFile}
use Rattle.layered_settings.specs.Order.{by_path}
use Rattle.layered_settings.proofs.change.sort.Goals as goal

pub returns : goal.returns
unfolding by_path
returns c =
    c.from_vec.ensures
    ∙ sorted_by_key nat_list_cmp_total (λ (f : SettingsFile). f.path) _ _ c.in_ok-sort_by.ensures.sorted c.in_ok-sort_by.ensures.stable (λ f a r f' k. search rules)
    ∙ ap by_path c.into_vec-files.ensures
