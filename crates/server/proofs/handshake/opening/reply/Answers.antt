use Rattle.std.proofs.Common.{ap}
use Rattle.session_laws.specs.Run.{told_of}
use Rattle.server.proofs.Replying.{replied-unwritten, replied-written}
use Rattle.server.proofs.handshake.opening.reply.Goals as goal

pub returns-in-Ok-clause-told : goal.returns-in-Ok-clause-told
returns-in-Ok-clause-told g c = replied-written c.args.response c.hand_on.result _ _ _ _ c.in-Ok.ensures.turns c.hand_on.ensures.calls c.hand_on.ensures.err

pub returns-in-Err-clause-told : goal.returns-in-Err-clause-told
returns-in-Err-clause-told g c =
    replied-unwritten c.args.response c.in-Err.error _ _ (ap (told_of (g.H.Host.calls c.args.host.now)) c.in-Err.ensures.turns) c.in-Err.ensures.err
