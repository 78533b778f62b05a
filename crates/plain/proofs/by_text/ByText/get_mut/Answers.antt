use Rattle.std.proofs.Common.{refl, sym, ap, ◌∙◌}
use Rattle.std.specs.BTreeMap.{BTreeMap}
use Rattle.std.specs.FinMap as map
use Rattle.plain.specs.Texts.{text_cmp, by_texts}
use Rattle.plain.proofs.Mapped.{where_some}
use Rattle.plain.proofs.Texted.{get-view, set-view}
use Rattle.plain.proofs.by_text.ByText.get_mut.Goals as goal

pub returns : goal.returns
returns g c =
    let key = g.K.TextKey.text c.args.key.now in (
      (
        refl,
        λ w. where_some c.get_mut.result _ _ c.get_mut.ensures.value (λ some.
            set-view g.K.TextKey.text g.met.K.TextKey.in_order c.self.inside.rows.entries (c.get_mut.follows.lender w).entries c.args.key.now w some (c.get_mut.follows.holds w).0
            ∙ ap (λ m. map.insert m key w) c.self.view_is),
        ap (λ (m : BTreeMap _ _). map.from_entries {R = text_cmp} (by_texts g.K.TextKey.text m.entries)) c.get_mut.follows.holds-at-none ∙ c.self.view_is,
      ),
      record { writes_back = tt; value = c.get_mut.ensures.value ∙ sym (get-view g.K.TextKey.text g.met.K.TextKey.in_order c.self.inside.rows.entries c.args.key.now) ∙ ap (λ m. map.get m key) c.self.view_is },
    )
