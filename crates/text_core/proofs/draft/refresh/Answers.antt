use Rattle.std.proofs.Common.{◌≡◌, [], ap, sym, ◌∙◌, length, string_bytes}
use Rattle.text_core.specs.IndexInvariant.{text_of}
use Rattle.text_core.specs.Splices.{spliced}
use Rattle.text_core.specs.Starts.{line_starts}
use Rattle.text_core.proofs.KeptLemmas.{kept_new}
use Rattle.text_core.proofs.draft.refresh.Goals as goal

pub returns-in_ok-draft-2-clause-kept : goal.returns-in_ok-draft-2-clause-kept
returns-in_ok-draft-2-clause-kept g c =
    let draft = c.args.draft.now in
    let none : c.replace-splices.new.dest.items ≡ [] = cc in
    let made : string_bytes c.in_ok-draft-2.field-0 ≡ text_of draft =
    c.in_ok-draft-2.ensures ∙ ap (λ t. spliced (string_bytes t) c.replace-splices.result.items) c.replace-text.ensures.value
    ∙ ap (λ v. spliced (string_bytes draft.text) v.items) c.replace-splices.ensures.value in
    kept_new (string_bytes c.in_ok-draft-2.field-0) c.replace-splices.new.dest.items draft.size c.in_ok-draft.field-0.items none
    (c.requires.kept.counted ∙ ap length (sym made)) (c.in_ok-draft.ensures ∙ ap line_starts (sym made))
