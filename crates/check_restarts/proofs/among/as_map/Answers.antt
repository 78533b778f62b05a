use Rattle.std.proofs.Common.{true, ◌++◌, ◌∷◌, [], take, sym, ap, ◌∙◌}
use Rattle.std.specs.Prelude.{is_some, if◌then◌else◌}
use Rattle.std.specs.FinMap as by_key
use Rattle.std.proofs.lemmas.List.{take_more}
use Rattle.check_restarts.specs.Among.{as_map}
use Rattle.check_restarts.proofs.Marked.{as_map-more}
use Rattle.check_restarts.proofs.among.as_map.Goals as goal

pub loop-root-preserved : goal.loop-root-preserved
loop-root-preserved c =
    let at = c.loop-root.root-index in
    let roots = c.args.roots.now in
    let root = c.root-item.result in
    let before = take at roots in
    let more = take_more roots at root c.loop-root-test.true ∙ ap (λ y. before ++ y ∷ []) (sym c.root-item.is) in
    c.in_ok-insert_new.ensures.ok
    ∙ ap (λ key. if is_some (by_key.get c.loop-root.rows key) then c.loop-root.rows else by_key.insert c.loop-root.rows key true) c.in_ok-clone.ensures.cases
    ∙ ap (λ rows. if is_some (by_key.get rows root) then rows else by_key.insert rows root true) c.loop-root.invariant
    ∙ as_map-more before root ∙ ap as_map (sym more)
