use Rattle.std.proofs.Common.{◌≡◌, ◌+◌, ◌-◌, ◌≤◌, ◌<◌, ◌++◌, length, take, drop, map, ap, subst, sym, ◌∙◌, arith, string_bytes}
use Rattle.std.specs.Prelude.{All, OnOk}
use Rattle.text_core.proofs.MovedLemmas.{Splits, between, between_fits, between_starts, starts_in-moved}
use Rattle.text_core.proofs.draft.push_kept.Goals as goal

pub slice_bounds-push_moved-count : goal.slice_bounds-push_moved-count
slice_bounds-push_moved-count c =
    let text = string_bytes c.args.draft.now.text in
    let starts = c.args.draft.now.starts.items in
    let low = subst (λ l. Splits l c.args.from c.starts_up_to-first.result) c.deref.ensures.value c.starts_up_to-first.ensures.splits in
    let high = subst (λ l. Splits l c.args.end c.starts_up_to-last.result) c.deref-2.ensures.value c.starts_up_to-last.ensures.splits in
    (between_starts text starts c.args.from c.args.end c.starts_up_to-first.result c.starts_up_to-last.result c.requires.rising c.requires.within c.requires.known low high
    (omega (arith, c.starts_up_to-first.ensures.within, ap length c.deref.ensures.value)) (omega (arith, c.starts_up_to-last.ensures.within, ap length c.deref-2.ensures.value))).0

pub push_moved-requires : goal.push_moved-requires
push_moved-requires c =
    let text = string_bytes c.args.draft.now.text in
    let starts = c.args.draft.now.starts.items in
    let low = subst (λ l. Splits l c.args.from c.starts_up_to-first.result) c.deref.ensures.value c.starts_up_to-first.ensures.splits in
    let high = subst (λ l. Splits l c.args.end c.starts_up_to-last.result) c.deref-2.ensures.value c.starts_up_to-last.ensures.splits in
    subst (λ l. All (λ start. (c.args.from ≤ start) × (start - c.args.from + c.args.to < 4294967296))
    (take (c.starts_up_to-last.result - c.starts_up_to-first.result) (drop c.starts_up_to-first.result l))) (sym c.deref-3.ensures.value)
    (between_fits text starts c.args.from c.args.end c.args.to c.starts_up_to-first.result c.starts_up_to-last.result c.requires.rising c.requires.within c.requires.known low high
    (omega (arith, c.starts_up_to-first.ensures.within, ap length c.deref.ensures.value)) (omega (arith, c.starts_up_to-last.ensures.within, ap length c.deref-2.ensures.value))
    c.requires.fits)

pub slice_bounds-push_moved-start : goal.slice_bounds-push_moved-start
slice_bounds-push_moved-start c = slice_bounds-push_moved-count c

pub returns : goal.returns
returns c =
    let text = string_bytes c.args.draft.now.text in
    let starts = c.args.draft.now.starts.items in
    let first = c.starts_up_to-first.result in
    let last = c.starts_up_to-last.result in
    let low = subst (λ l. Splits l c.args.from first) c.deref.ensures.value c.starts_up_to-first.ensures.splits in
    let high = subst (λ l. Splits l c.args.end last) c.deref-2.ensures.value c.starts_up_to-last.ensures.splits in
    let part = between_starts text starts c.args.from c.args.end first last c.requires.rising c.requires.within c.requires.known low high
    (omega (arith, c.starts_up_to-first.ensures.within, ap length c.deref.ensures.value)) (omega (arith, c.starts_up_to-last.ensures.within, ap length c.deref-2.ensures.value)) in
    subst (λ l. OnOk c.push_moved.result (c.push_moved.new.starts.items ≡ c.args.starts.now.items ++ l))
    (ap (λ l. map (λ start. start - c.args.from + c.args.to) (take (last - first) (drop first l))) c.deref-3.ensures.value
    ∙ ap (map (λ start. start - c.args.from + c.args.to)) part.1 ∙ starts_in-moved c.args.from c.args.to (between c.args.from c.args.end text))
    c.push_moved.ensures
