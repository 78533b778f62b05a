use Rattle.std.proofs.Common.{◌≡◌, List, ℕ, true, sym, ap, ◌∙◌}
use Rattle.std.specs.Prelude.{slice_range}
use Rattle.lsp_frame.specs.Frames.{cut_of}
use Rattle.lsp_frame.specs.Rules.{message_of}
use Rattle.lsp_frame.specs.Reader.{Reader, is_faulty}
use Rattle.lsp_frame.proofs.Keeping.{IsKept-faulty}
use Rattle.lsp_frame.proofs.Turns.{faulty_none, gives_from, bad_message, stays_failed}
use Rattle.lsp_frame.proofs.reader.FrameReader.take.Goals as goal

pub returns-then-self-clause-fault : goal.returns-then-self-clause-fault
returns-then-self-clause-fault c =
    let failed = ap (λ (r : Reader). r.failed) (sym c.self.view_is) ∙ c.if-self.true in
    let faulty : is_faulty c.args.self.now.held ≡ true = ap (λ (r : Reader). is_faulty r.held) (sym c.self.view_is) ∙ c.self.invariant.faulty c.if-self.true in
    bad_message _ _ _ _ _ c.requires.whole faulty (ap (λ (r : Reader). r.place) c.self.view_is) (stays_failed _ failed)

pub invariant_of-self-in-Ok-None : goal.invariant_of-self-in-Ok-None
invariant_of-self-in-Ok-None c =
    let whole = ap (λ (r : Reader). cut_of r.held) c.self.view_is ∙ c.requires.whole in
    let none = ap (λ (held : List ℕ). message_of (slice_range held c.args.start c.args.end)) (sym c.as_slice.ensures) ∙ sym c.in-Ok-None.ensures ∙ c.in-Ok-None.field-0-is in
    IsKept-faulty _ _ _ _ _ _ (faulty_none _ _ _ whole none) c.self.invariant

pub returns-in-Ok-Some-clause-message : goal.returns-in-Ok-Some-clause-message
returns-in-Ok-Some-clause-message c =
    rw c.consume.ensures (gives_from _ _ _ _ _ _ _ c.self.view_is c.requires.whole (sym c.in-Ok-Some.field-0-is ∙ c.in-Ok-Some.ensures ∙ ap (λ (held : List ℕ). message_of (slice_range held c.args.start c.args.end)) c.as_slice.ensures) c.if-self.false)
