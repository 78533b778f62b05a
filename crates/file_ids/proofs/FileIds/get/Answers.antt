use Rattle.std.proofs.Common.{sym, ap, ◌∙◌}
use Rattle.std.specs.Cmp.Lexicographic.{nat_list_cmp_total}
use Rattle.std.specs.FinMap as map
use Rattle.shared_map.proofs.AsMap.{get-view}
use Rattle.file_ids.proofs.FirstPath.{leads_back, number_back}
use Rattle.file_ids.proofs.FileIds.get.Goals as goal

pub returns-clause-entry : goal.returns-clause-entry
returns-clause-entry c =
    c.copied.ensures
    ∙ c.get.ensures
    ∙ sym (get-view nat_list_cmp_total c.self.inside.files c.args.path.now)
    ∙ ap (λ m. map.get m c.args.path.now) c.self.view_is

pub returns-clause-back : goal.returns-clause-back
returns-clause-back c =
    let files = c.self.inside.files in
    let path = c.args.path.now in
    let entry = c.copied.ensures ∙ c.get.ensures ∙ sym (get-view nat_list_cmp_total files path) ∙ ap (λ m. map.get m path) c.self.view_is in
    leads_back c.args.self.now path c.copied.result entry (number_back files c.self.inside.paths c.self.invariant c.args.self.now c.self.view_is)
