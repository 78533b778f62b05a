use Rattle.std.proofs.Common.{◌≡◌, ◌+◌, length}
use Rattle.text_core.specs.Columns.{units_of}
use Rattle.text_core.specs.declared.position.PositionEncoding.TheVariants.{Wide}
use Rattle.text_core.proofs.columns.wide_units_of.Given as goal

abbrev pub invariant-loop-rest : goal.invariant-loop-rest
invariant-loop-rest l = l.units + units_of (Wide l.fn.wide) l.rest ≡ units_of (Wide l.fn.wide) l.fn.front

abbrev pub decreases-loop-rest : goal.decreases-loop-rest
decreases-loop-rest l = length l.rest
