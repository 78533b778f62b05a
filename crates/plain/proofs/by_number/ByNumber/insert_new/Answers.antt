use Rattle.std.proofs.Common.{◌≡◌, arith, refl, sym, ap, ◌∙◌}
use Rattle.std.specs.Prelude.{is_some, unwrap_or, if◌then◌else◌}
use Rattle.std.specs.Cmp.{nat_cmp_total}
use Rattle.std.specs.Ordering.{nat_cmp}
use Rattle.std.specs.FinMap as map
use Rattle.plain.proofs.Mapped.{get-view, insert-view, put_once}
use Rattle.plain.proofs.by_number.ByNumber.insert_new.Goals as goal

pub returns-clause-ok : goal.returns-clause-ok
returns-clause-ok g c =
    let es = c.self.inside.rows.entries in
    let old = map.from_entries {R = nat_cmp} es in
    let key = c.args.key in
    let value = c.or_insert.result.now in
    let lent : value ≡ unwrap_or (map.get old key) c.args.value =
    c.or_insert.ensures.value ∙ ap (λ o. unwrap_or o c.args.value) (c.in_ok-self-inside.ensures.value ∙ sym (get-view nat_cmp_total es key)) in
    let put = c.in_ok-self-inside.ensures.update.1 value in
    insert-view nat_cmp_total map.nat_cmp-IsAntisymmetric es _ key value (grind (arith, put))
    ∙ put_once nat_cmp_total map.nat_cmp-IsAntisymmetric old key c.args.value value (map.get old key) refl lent
    ∙ ap (λ m. if is_some (map.get m key) then m else map.insert m key c.args.value) c.self.view_is
