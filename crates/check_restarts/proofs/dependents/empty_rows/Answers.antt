use Rattle.std.proofs.Common.{◌≡◌, ℕ, List, [], ◌∷◌, ◌++◌, ap, ◌∙◌, arith}
use Rattle.std.specs.Prelude.{replicate}
use Rattle.std.proofs.lemmas.List.{replicate_more}
use Rattle.check_restarts.proofs.dependents.empty_rows.Goals as goal

pub loop-preserved : goal.loop-preserved
loop-preserved c =
    c.in_ok-push.ensures.items ∙ ap (λ x. c.loop.rows.items ++ x ∷ []) c.new.ensures
    ∙ ap (λ (l : List (List ℕ)). l ++ [] ∷ []) c.loop.invariant ∙ replicate_more c.loop.counter []

pub returns : goal.returns
returns c = let all : c.loop.counter ≡ c.args.count = omega arith in c.loop.invariant ∙ ap (λ (k : ℕ). replicate k []) all
