use Rattle.std.proofs.Common.{◌++◌, ◌∷◌, [], take, sym, ap, ◌∙◌}
use Rattle.std.specs.Cmp.{nat_cmp_total}
use Rattle.std.specs.FinMap as by_key
use Rattle.std.specs.Option.{option_copied}
use Rattle.std.specs.Ordering.{nat_cmp}
use Rattle.std.proofs.lemmas.List.{take_more, take_all}
use Rattle.plain.proofs.Mapped.{first-more}
use Rattle.workspaces.proofs.macros.by_number.Goals as goal

pub loop-entry-init : goal.loop-entry-init
loop-entry-init c = λ number.
    ap (λ m. option_copied (by_key.get m number)) c.new-rows.ensures ∙ ap option_copied (by_key.get-empty nat_cmp number)

pub loop-entry-preserved : goal.loop-entry-preserved
loop-entry-preserved c = λ number.
    let at = c.loop-entry.entry-index in
    let entries = c.args.entries.now in
    let entry = c.entry-item.result in
    let before = take at entries in
    let more = take_more entries at entry c.loop-entry-test.true ∙ ap (λ y. before ++ y ∷ []) (sym c.entry-item.is) in
    first-more nat_cmp_total by_key.nat_cmp-IsAntisymmetric c.loop-entry.rows c.insert_new.new.self before entry.0 _ c.in_ok-insert_new.ensures.ok
    c.loop-entry.invariant number
    ∙ ap (by_key.find nat_cmp number) (sym more)

pub returns : goal.returns
returns c = λ number.
    c.loop-entry.invariant number
    ∙ ap (by_key.find nat_cmp number) (take_all c.loop-entry.entry-index c.args.entries.now c.loop-entry-test.false)
