use Rattle.std.proofs.Common.{◌≡◌, ◌++◌, ◌∷◌, [], ◌-◌, List, ℕ, ap, subst, ◌∙◌, arith}
use Rattle.sha1.specs.Sha1.{Holds, sha1}
use Rattle.message_generator.specs.Drafts.{texts_from}
use Rattle.message_generator.proofs.Streams.{texts_done, texts_more}
use Rattle.message_generator.proofs.texts.texts_hash.Goals as goal

pub loop-place-init : goal.loop-place-init
loop-place-init c =
    let all : c.args.count - 0 ≡ c.args.count = omega arith in
    ([], (c.new-hasher.ensures, ap (λ (left : ℕ). texts_from left 0 c.from-state.result) all ∙ ap (λ (state : ℕ). texts_from c.args.count 0 state) c.from-state.ensures))

pub loop-place-preserved : goal.loop-place-preserved
loop-place-preserved c =
    let fed = c.loop-place.invariant.0 in
    let line : Holds c.update.new.self (fed ++ c.in_ok-last.last.line) =
    subst (λ (bytes : List ℕ). Holds c.update.new.self (fed ++ bytes)) (c.as_bytes.ensures.value ∙ c.as_str.ensures.value) (c.update.ensures fed c.loop-place.invariant.1.0) in (
      (fed ++ c.in_ok-last.last.line) ++ 10 ∷ [],
      (
        c.update-in-loop-place.ensures (fed ++ c.in_ok-last.last.line) line,
        texts_more c.args.count c.loop-place.place c.loop-place.state c.in_ok-last.last fed _ c.loop-place-test.true c.in_ok-last.ensures c.loop-place.invariant.1.1,
      ),
    )

pub returns : goal.returns
returns c =
    c.finalize.ensures c.loop-place.invariant.0 c.loop-place.invariant.1.0
    ∙ ap sha1 (texts_done c.args.count c.loop-place.place c.loop-place.state c.loop-place.invariant.0 _ c.loop-place-test.false c.loop-place.invariant.1.1)
