use Rattle.std.proofs.Common.{sym, ap, ◌∙◌}
use Rattle.std.specs.Prelude.{Some}
use Rattle.std.specs.Option.{option_copied}
use Rattle.std.specs.Cmp.{nat_cmp_total}
use Rattle.std.specs.FinMap as map
use Rattle.shared_map.proofs.AsMap.{get-view}
use Rattle.layered_settings.proofs.settings.Files.get.Goals as goal

pub returns-in-Some : goal.returns-in-Some
returns-in-Some c =
    ap Some c.layer.ensures ∙ sym (ap option_copied c.in-Some.is) ∙ c.get.ensures ∙ sym (get-view nat_cmp_total c.self.inside.layers c.args.root) ∙ ap (λ m. map.get m c.args.root) c.self.view_is

pub returns-in-None : goal.returns-in-None
returns-in-None c = sym (ap option_copied c.in-None.is) ∙ c.get.ensures ∙ sym (get-view nat_cmp_total c.self.inside.layers c.args.root) ∙ ap (λ m. map.get m c.args.root) c.self.view_is
