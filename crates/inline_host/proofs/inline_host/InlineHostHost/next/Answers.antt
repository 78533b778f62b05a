use Rattle.std.proofs.Common.{ap, refl}
use Rattle.inline_host.proofs.FirstPieces.{result_bytes}
use Rattle.inline_host.proofs.Answering.{result-news}
use Rattle.inline_host.proofs.inline_host.InlineHostHost.next.Goals as goal

pub returns-clause-bytes : goal.returns-clause-bytes
returns-clause-bytes g c =
    result_bytes g.A.Analysis.answer c.coming.result c.args.self.now _ c.self.inside.jobs.out c.self.inside.orders c.self.inside.source c.coming.new.source
    (ap (λ h. h.out) c.self.view_is) (ap (λ h. h.orders) c.self.view_is) (ap (λ h. h.held) c.self.view_is) (ap (λ h. h.left) c.self.view_is) refl refl
    c.coming.ensures.waiting c.coming.ensures.orders c.coming.ensures.event

pub returns-clause-news : goal.returns-clause-news
returns-clause-news g c =
    result-news g.A.Analysis.answer c.self.inside.jobs.out c.self.inside.orders c.self.inside.source c.coming.new.source c.coming.result c.coming.ensures.event
