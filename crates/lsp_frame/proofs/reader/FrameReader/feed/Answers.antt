use Rattle.std.proofs.Common.{◌+◌, ◌<◌, ◌^◌, ap, length, arith}
use Rattle.lsp_frame.specs.Reader.{Reader}
use Rattle.lsp_frame.proofs.Keeping.{IsKept-more}
use Rattle.lsp_frame.proofs.reader.FrameReader.feed.Goals as goal

pub invariant_of-self-2 : goal.invariant_of-self-2
invariant_of-self-2 c =
    let place = ap (λ (r : Reader). r.place) c.self.view_is in
    let held = ap (λ (r : Reader). length r.held) c.self.view_is in
    let fits : c.self.inside.place + length c.self.inside.held + length c.args.bytes < 2 ^ 64 = omega (arith, c.requires, place, held) in
    rw c.in_ok-feed.ensures.ok (IsKept-more _ _ c.args.bytes _ _ _ c.if-self.false fits c.self.invariant)
