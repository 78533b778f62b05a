use Rattle.std.proofs.Common.{arith, sym, ap, ◌∙◌}
use Rattle.std.specs.Prelude.{Some}
use Rattle.std.proofs.lemmas.Grind.{common_steps}
use Rattle.message_generator.specs.Stream.{bytes_left}
use Rattle.ordered_host.proofs.Pieces.{IsPieceOf, piece_parted, piece_within}
use Rattle.ordered_host.proofs.generated_source.GeneratedSourceSource.read_piece.Goals as goal

pub returns-clause-piece : goal.returns-clause-piece
returns-clause-piece c =
    let pending = c.fill.new.pending in
    let fits : IsPieceOf c.in_ok-give.field-0 c.args.max =
    piece_within c.min-len.result c.args.max c.len.result pending c.in_ok-give.field-0 c.in_ok-give.ensures.bytes c.min-len.ensures c.len.ensures (grind (arith, common_steps)) c.requires.some in (
      fits.some,
      fits.within,
      ap Some (sym c.self.view_is ∙ sym c.in_ok-fill.ensures.left
          ∙ piece_parted c.min-len.result pending (bytes_left c.fill.new.generator) c.in_ok-give.field-0 c.give.new.self c.in_ok-give.ensures.bytes c.in_ok-give.ensures.ok),
    )
