use Rattle.std.proofs.Common.{refl, arith}
use Rattle.lsp_frame.proofs.Readings.{Follows-piece, Follows-end, Follows-fault, piece_fits, cut_nothing, stream_of-end}
use Rattle.lsp_frame.proofs.pieces.read_pieces.Goals as goal

pub feed-requires : goal.feed-requires
feed-requires c =
    let fits = piece_fits _ _ _ _ _ _ _ c.loop-piece-test.true c.piece-item.is c.deref.ensures.value c.loop-piece.invariant.follows in
    omega (arith, fits, c.requires)

pub loop-piece-init : goal.loop-piece-init
loop-piece-init c = rw (c.new-reader.ensures, c.new-messages.ensures) (record {
  follows = record { reading = refl; counted = omega arith };
  sound = refl;
  waits = cut_nothing;
})

pub loop-piece-preserved : goal.loop-piece-preserved
loop-piece-preserved c =
    let end = rw c.in_default.is at c.in_ok-fault.ensures.end in
    record {
      follows = Follows-piece _ _ _ _ _ _ _ _ _ _ c.loop-piece-test.true c.piece-item.is c.deref.ensures.value c.loop-piece.invariant.sound c.in_ok-feed.ensures
          c.in_ok-fault.ensures.reading c.in_ok-fault.ensures.counted c.loop-piece.invariant.follows;
      sound = end.1;
      waits = end.0;
    }

pub returns-in-Some : goal.returns-in-Some
returns-in-Some c =
    let follows = Follows-piece _ _ _ _ c.take_messages.new.reader _ _ _ _ _ c.loop-piece-test.true c.piece-item.is c.deref.ensures.value c.loop-piece.invariant.sound c.in_ok-feed.ensures
    c.in_ok-fault.ensures.reading c.in_ok-fault.ensures.counted c.loop-piece.invariant.follows in
    Follows-fault _ c.take_messages.new.reader _ _ _ (rw c.in-Some.is at c.in_ok-fault.ensures.end) follows

pub returns : goal.returns
returns c = Follows-end _ _ _ _ (stream_of-end c.args.pieces.now _ (omega arith)) c.loop-piece.invariant.follows c.loop-piece.invariant.waits
