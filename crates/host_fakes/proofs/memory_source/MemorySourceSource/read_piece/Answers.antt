use Rattle.std.proofs.Common.{◌≡◌, drop, take, arith, ap, sym, ◌∙◌}
use Rattle.std.specs.Prelude.{Some}
use Rattle.std.proofs.lemmas.Grind.{common_steps}
use Rattle.inline_host.proofs.Pieces.{parted}
use Rattle.host_fakes.proofs.memory_source.MemorySourceSource.read_piece.Goals as goal

pub returns-clause-piece : goal.returns-clause-piece
returns-clause-piece c =
    let is : c.in_ok-piece.piece ≡ take c.min-len.result (drop c.self.inside.given c.self.inside.bytes) = grind (arith, common_steps) in (
      grind (arith, common_steps, is),
      grind (arith, common_steps, is),
      ap Some (sym (ap (λ s. s.left) c.self.view_is) ∙ parted c.self.inside.given c.min-len.result c.self.inside.bytes c.in_ok-piece.piece is),
    )
