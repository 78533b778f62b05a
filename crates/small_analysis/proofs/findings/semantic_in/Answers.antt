use Rattle.std.proofs.Common.{◌≡◌, false, refl, ap, append-nil, sym, ◌∙◌}
use Rattle.std.specs.Prelude.{None, if◌then◌else◌}
use Rattle.small_analysis.specs.Defined.{defined_at, follows_fn}
use Rattle.small_analysis.specs.Names.{name_at}
use Rattle.small_analysis.proofs.UnmatchedLemmas.{named_next}
use Rattle.small_analysis.proofs.findings.semantic_in.Goals as goal
use Rattle.small_analysis.proofs.findings.semantic_in.Goals.{then-follows_fn+in_ok-note_defined, else-follows_fn}

pub loop-place-preserved : goal.loop-place-preserved
loop-place-preserved c =
    let at = c.loop-place in
    let text = c.args.index.now in
    let its = c.as_bytes.ensures.value ∙ c.text-text.ensures in
    elim c.if-follows_fn.branch [
      | then-follows_fn+in_ok-note_defined w ↦
          named_next c.args.encoding text at.place (defined_at text at.place) at.list _ at.names _ at.invariant refl
          (w.list-is ∙ w.in_ok-note_defined.ensures.list) (w.names-is ∙ w.in_ok-note_defined.ensures.names)
      | else-follows_fn w ↦
          let none : follows_fn text at.place ≡ false =
          sym (ap (λ t. follows_fn t at.place) its) ∙ sym c.follows_fn.ensures ∙ w.if-follows_fn.false in
          named_next c.args.encoding text at.place None at.list _ at.names _ at.invariant
          (sym (ap (λ b. if b then name_at text at.place else None) none)) (w.list-is ∙ sym (append-nil at.list)) w.names-is
    ]
