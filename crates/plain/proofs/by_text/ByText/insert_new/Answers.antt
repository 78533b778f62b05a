use Rattle.std.proofs.Common.{◌≡◌, arith, refl, sym, ap, ◌∙◌}
use Rattle.std.specs.Prelude.{is_some, unwrap_or, if◌then◌else◌}
use Rattle.std.specs.FinMap as map
use Rattle.plain.specs.Texts.{text_cmp, by_texts}
use Rattle.plain.proofs.Texted.{get-view, insert-view, put_once}
use Rattle.plain.proofs.by_text.ByText.insert_new.Goals as goal

pub returns-clause-ok : goal.returns-clause-ok
returns-clause-ok g c =
    let text = g.K.TextKey.text in
    let in_order = g.met.K.TextKey.in_order in
    let es = c.self.inside.rows.entries in
    let old = map.from_entries {R = text_cmp} (by_texts text es) in
    let key = text c.args.key in
    let value = c.or_insert.result.now in
    let lent : value ≡ unwrap_or (map.get old key) c.args.value =
    c.or_insert.ensures.value ∙ ap (λ o. unwrap_or o c.args.value) (c.in_ok-self-inside.ensures.value ∙ sym (get-view text in_order es c.args.key)) in
    let put = c.in_ok-self-inside.ensures.update.1 value in
    insert-view text in_order es _ c.args.key value (grind (arith, put))
    ∙ put_once old key c.args.value value (map.get old key) refl lent
    ∙ ap (λ m. if is_some (map.get m key) then m else map.insert m key c.args.value) c.self.view_is
