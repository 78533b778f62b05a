use Rattle.std.proofs.Common.{◌≡◌, ℕ, List, [], ◌∷◌, ◌++◌, length, Option, refl, sym, ap, subst, ◌∙◌, append_assoc, append-nil, arith}
use denote.Param.Always.{mut_next}
use Rattle.docs_vfs.specs.declared.file_kinds.FileId.{FileId}
use Rattle.reload.specs.Asked.{Asked}
use Rattle.reload.proofs.ask.ask_each.Goals as goal

none_left : {X : Type 0} (xs : List X) → length xs ≡ 0 → xs ≡ []
none_left [] h = refl
none_left (x ∷ xs) h = absurd (omega arith)

pub loop-root-preserved : goal.loop-root-preserved
loop-root-preserved g c =
    let load = g.F.FnMut in
    let answer = c.load.result in (
      mut_next load c.loop-root.load (c.in-Some.root, tt) answer c.load.new.self c.load.new.self c.load.ensures refl c.loop-root.invariant.0,
      λ more last asked. subst (λ (files : List (Option FileId)). Asked load c.args.load c.args.roots.now files last)
          (sym (ap (λ l. l ++ more) c.in_ok-push.ensures.ok ∙ append_assoc c.loop-root.files (answer ∷ []) more))
          (c.loop-root.invariant.1 (answer ∷ more) last
          (subst (λ (rest : List (List ℕ)). Asked load c.loop-root.load rest (answer ∷ more) last) (sym c.in-Some.ensures.cases.0)
          (c.load.new.self, record { shown = c.in-Some.root; shows = refl; called = c.load.ensures }, asked))),
    )

pub returns : goal.returns
returns g c =
    let load = g.F.FnMut in
    let now = c.loop-root.load in (
      now,
      subst (λ (files : List (Option FileId)). Asked load c.args.load c.args.roots.now files now) (append-nil c.loop-root.files)
          (c.loop-root.invariant.1 [] now
          (subst (λ (rest : List (List ℕ)). Asked load now rest [] now) (sym (none_left c.loop-root.rest.now c.in_default.ensures.cases)) refl)),
    )
