use Rattle.std.proofs.Common.{ap, arith, sym, ◌∙◌}
use Rattle.std.proofs.lemmas.Bool.{false≢true}
use Rattle.lsp_frame.specs.Frames.{cut_of}
use Rattle.lsp_frame.specs.Reader.{Reader}
use Rattle.lsp_frame.proofs.Cuts.{need_more_bound}
use Rattle.lsp_frame.proofs.Keeping.{IsKept-faulty}
use Rattle.lsp_frame.proofs.Turns.{faulty_bad, sound_waiting, gives_shorter}
use Rattle.lsp_frame.proofs.reader.FrameReader.next.Goals as goal

pub invariant_of-self : goal.invariant_of-self
invariant_of-self c =
    let bad = ap (λ (r : Reader). cut_of r.held) (c.self.view_is ∙ c.in-Bad.ensures.same) ∙ sym c.in-Bad.ensures.cut in
    IsKept-faulty _ _ _ _ _ _ (faulty_bad _ bad) c.self.invariant

pub returns-in-NeedMore-clause-none : goal.returns-in-NeedMore-clause-none
returns-in-NeedMore-clause-none c =
    let waits = sym c.in-NeedMore.ensures.cut in
    (waits, c.in-NeedMore.ensures.same, sound_waiting c.args.self.now waits c.in-NeedMore.ensures.faulty)

pub returns-in-NeedMore-clause-again : goal.returns-in-NeedMore-clause-again
returns-in-NeedMore-clause-again c = λ failed.
    absurd (false≢true (sym (sound_waiting c.args.self.now (sym c.in-NeedMore.ensures.cut) c.in-NeedMore.ensures.faulty) ∙ failed))

pub returns-in-NeedMore-clause-bound : goal.returns-in-NeedMore-clause-bound
returns-in-NeedMore-clause-bound c = rw c.in-NeedMore.ensures.same (let most = need_more_bound c.args.self.now.held (sym c.in-NeedMore.ensures.cut) in omega (arith, most))

pub returns-in_ok-take-in-Frame-clause-shorter : goal.returns-in_ok-take-in-Frame-clause-shorter
returns-in_ok-take-in-Frame-clause-shorter c = rw (← c.in-Frame.ensures.same) (gives_shorter _ _ _ c.in_ok-take-in-Frame.ensures.message)
