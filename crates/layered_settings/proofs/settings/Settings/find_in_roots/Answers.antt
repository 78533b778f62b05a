use Rattle.std.proofs.Common.{rules, tests, ◌≡◌, ◌<◌, Some, sym, ap, ◌∙◌}
use Rattle.layered_settings.proofs.SearchLaws.{at_root, walk, walk_found, walk_path}
use Rattle.layered_settings.proofs.settings.Settings.find_in_roots.Goals as goal

pub returns-in-Some-find_at_root-clause-value : goal.returns-in-Some-find_at_root-clause-value
returns-in-Some-find_at_root-clause-value c =
    let s = c.args.self.now in
    let found : at_root c.args.row s c.in-Some.here ≡ Some c.in-Some-find_at_root.value.now = search rules in
    let positive : 0 < c.roots.left = search (rules, tests) in
    let here : c.roots.at ≡ Some c.in-Some.here = search rules in
    sym (walk_found c.roots.left c.args.row s c.in-Some.here _ positive found) ∙ ap (walk c.roots.left c.args.row s) (sym here) ∙ c.roots.invariant ∙ walk_path c.args.row s c.args.root
