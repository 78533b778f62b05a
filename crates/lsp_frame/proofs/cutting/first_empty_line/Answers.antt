use Rattle.std.proofs.Common.{arith, ⊎_elim}
use Rattle.std.proofs.lemmas.Bool.{cases_lt}
use Rattle.lsp_frame.proofs.Places.{nowhere_next}
use Rattle.lsp_frame.proofs.cutting.first_empty_line.Goals as goal

pub places-preserved : goal.places-preserved
places-preserved c = (omega arith, nowhere_next _ _ c.places.invariant.1 c.if-begins_empty_line.ensures)

pub returns : goal.returns
returns c = λ k low high occurs. ⊎_elim (λ lt. c.places.invariant.1 k low lt occurs) (λ ge. omega (arith, occurs.fits)) (cases_lt k c.places.at)
