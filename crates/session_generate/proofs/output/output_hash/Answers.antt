use Rattle.std.proofs.Common.{◌≡◌, ◌+◌, ◌∷◌, [], ◌++◌, List, ℕ, take, ap, sym, subst, ◌∙◌, append-nil}
use Rattle.std.proofs.lemmas.List.{take_more}
use Rattle.std.proofs.lemmas.List.Folds.{concat-append}
use Rattle.std.specs.List.{concat}
use Rattle.sha1.specs.Sha1.{Holds}
use Rattle.session_generate.proofs.output.output_hash.Goals as goal

pub loop-turn-preserved : goal.loop-turn-preserved
loop-turn-preserved c =
    let turns = c.args.turns.now in let at = c.loop-turn.turn-index in let turn = c.turn-item.result in
    let fed : Holds c.update.new.self (concat (take at turns) ++ turn) =
    subst (λ (bytes : List ℕ). Holds c.update.new.self (concat (take at turns) ++ bytes)) c.as_slice.ensures (c.update.ensures (concat (take at turns)) c.loop-turn.invariant) in
    let same : concat (take (at + 1) turns) ≡ concat (take at turns) ++ turn =
    ap concat (take_more turns at turn c.loop-turn-test.true ∙ ap (λ (x : List ℕ). take at turns ++ x ∷ []) (sym c.turn-item.is)) ∙ concat-append (take at turns) (turn ∷ []) ∙ ap (λ (bytes : List ℕ). concat (take at turns) ++ bytes) (append-nil turn) in
    subst (Holds c.update.new.self) (sym same) fed
