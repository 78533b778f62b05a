use Rattle.std.proofs.Common.{◌≡◌, ◌+◌, ℕ, Bool, false, List, [], Option, None, ap, sym, subst, ◌∙◌, arith, string_bytes}
use Rattle.std.specs.List.{fold}
use Rattle.text_core.specs.CommonEnds.{ComesFrom}
use Rattle.text_core.specs.IndexInvariant.{IsKept, text_of}
use Rattle.text_core.specs.Rebuilds.{Progress, begun}
use Rattle.text_core.specs.Splices.{spliced}
use Rattle.text_core.specs.Whole.{HaveRanges, taken}
use Rattle.text_core.specs.declared.position.PositionEncoding.{PositionEncoding}
use Rattle.text_core.specs.declared.change.ContentChange.{ContentChange}
use Rattle.text_core.specs.declared.splices.Splice.{Splice}
use Rattle.text_core.proofs.KeptLemmas.{kept_new}
use Rattle.text_core.proofs.FoldLemmas.{fold_raised, raised}
use Rattle.text_core.proofs.editing.edit_draft.Goals as goal

-- what comes after a number of rebuilds
end_raised : (e : PositionEncoding) (limit n : ℕ) (start : Progress) (text : List ℕ) (changes : List ContentChange) → HaveRanges limit changes → start ≡ raised n (begun text)
    → fold (taken e limit) start changes ≡ raised n (fold (taken e limit) (begun text) changes)
end_raised e limit n start text changes h same = ap (λ p. fold (taken e limit) p changes) same ∙ fold_raised e limit n (begun text) changes h

abbrev made : List ℕ → Option ℕ → Bool → ℕ → Progress
made text least skipped rebuilds = record { text = text; least = least; skipped = skipped; rebuilds = rebuilds }

-- a draft that wasn't edited yet, after a number of rebuilds
fresh : (n : ℕ) (text : List ℕ) (splices : List Splice) (least : Option ℕ) (skipped : Bool) → splices ≡ [] → least ≡ None → skipped ≡ false
    → made (spliced text splices) least skipped n ≡ raised n (begun text)
fresh n text splices least skipped none unedited unnoted =
    let sum : n ≡ n + 0 = omega arith in
    ap (λ l. made (spliced text l) least skipped n) none ∙ ap (λ l. made text l skipped n) unedited ∙ ap (λ b. made text None b n) unnoted ∙ ap (made text None false) sum

pub take_changes-requires-clause-kept : goal.take_changes-requires-clause-kept
take_changes-requires-clause-kept g c =
    let draft = c.args.draft.now in
    subst (IsKept (string_bytes draft.text) draft.splices.items draft.size draft.starts.items) (sym c.requires.new.least)
    (kept_new (string_bytes draft.text) draft.splices.items draft.size draft.starts.items c.requires.new.splices c.requires.new.size c.requires.new.starts)

pub returns-in_err-take_changes-clause-most : goal.returns-in_err-take_changes-clause-most
returns-in_err-take_changes-clause-most g c =
    let draft = c.args.draft.now in
    let start = fresh c.args.steps.now (string_bytes draft.text) draft.splices.items draft.least draft.skipped c.requires.new.splices c.requires.new.least c.requires.new.skipped in
    let end = end_raised c.args.encoding c.args.limit c.args.steps.now _ (string_bytes c.args.draft.now.text) c.args.changes.now c.requires.ranged start in
    omega (arith, c.in_err-take_changes.ensures.most, ap (λ (p : Progress). p.rebuilds) end)

pub returns-clause-made : goal.returns-clause-made
returns-clause-made g c =
    let draft = c.args.draft.now in
    let start = fresh c.args.steps.now (string_bytes draft.text) draft.splices.items draft.least draft.skipped c.requires.new.splices c.requires.new.least c.requires.new.skipped in
    let end = end_raised c.args.encoding c.args.limit c.args.steps.now _ (string_bytes c.args.draft.now.text) c.args.changes.now c.requires.ranged start in
    let same = c.in_ok-take_changes.ensures.progress ∙ end in
    record {
      text = ap (λ (p : Progress). p.text) same;
      skipped = ap (λ (p : Progress). p.skipped) same;
      fits = omega (arith, c.in_ok-take_changes.ensures.size, c.in_ok-take_changes.ensures.kept.counted);
      falls = c.in_ok-take_changes.ensures.kept.falls;
    }

pub returns-clause-from : goal.returns-clause-from
returns-clause-from g c =
    let draft = c.args.draft.now in
    let text = string_bytes draft.text in
    let same : text_of draft ≡ text = ap (spliced text) c.requires.new.splices in
    c.in_ok-take_changes.ensures.from text (subst (ComesFrom text (text_of draft)) (sym c.requires.new.ends) same)

pub returns-clause-steps : goal.returns-clause-steps
returns-clause-steps g c =
    let draft = c.args.draft.now in
    let start = fresh c.args.steps.now (string_bytes draft.text) draft.splices.items draft.least draft.skipped c.requires.new.splices c.requires.new.least c.requires.new.skipped in
    let end = end_raised c.args.encoding c.args.limit c.args.steps.now _ (string_bytes c.args.draft.now.text) c.args.changes.now c.requires.ranged start in
    ap (λ (p : Progress). p.rebuilds) (c.in_ok-take_changes.ensures.progress ∙ end)

pub returns-clause-most : goal.returns-clause-most
returns-clause-most g c =
    let draft = c.args.draft.now in
    let start = fresh c.args.steps.now (string_bytes draft.text) draft.splices.items draft.least draft.skipped c.requires.new.splices c.requires.new.least c.requires.new.skipped in
    let end = end_raised c.args.encoding c.args.limit c.args.steps.now _ (string_bytes c.args.draft.now.text) c.args.changes.now c.requires.ranged start in
    omega (arith, ap (λ (p : Progress). p.rebuilds) (c.in_ok-take_changes.ensures.progress ∙ end))
