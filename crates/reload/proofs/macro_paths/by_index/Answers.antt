use Rattle.std.proofs.Common.{◌++◌, ◌∷◌, [], take, sym, ap, ◌∙◌}
use Rattle.std.specs.Cmp.{nat_cmp_total}
use Rattle.std.specs.FinMap as by_key
use Rattle.std.specs.Option.{option_copied}
use Rattle.std.specs.Ordering.{nat_cmp}
use Rattle.std.proofs.lemmas.List.{take_more, take_all}
use Rattle.plain.proofs.Mapped.{first-more}
use Rattle.reload.proofs.macro_paths.by_index.Goals as goal

pub loop-entry-init : goal.loop-entry-init
loop-entry-init c = λ index.
    ap (λ m. option_copied (by_key.get m index)) c.new-rows.ensures ∙ ap option_copied (by_key.get-empty nat_cmp index)

pub loop-entry-preserved : goal.loop-entry-preserved
loop-entry-preserved c = λ index.
    let at = c.loop-entry.entry-index in
    let built = c.args.built.now in
    let entry = c.entry-item.result in
    let before = take at built in
    let more = take_more built at entry c.loop-entry-test.true ∙ ap (λ y. before ++ y ∷ []) (sym c.entry-item.is) in
    first-more nat_cmp_total by_key.nat_cmp-IsAntisymmetric c.loop-entry.rows c.insert_new.new.self before entry.0 _ c.in_ok-insert_new.ensures.ok
    c.loop-entry.invariant index
    ∙ ap (by_key.find nat_cmp index) (sym more)

pub returns : goal.returns
returns c = λ index.
    c.loop-entry.invariant index
    ∙ ap (by_key.find nat_cmp index) (take_all c.loop-entry.entry-index c.args.built.now c.loop-entry-test.false)
