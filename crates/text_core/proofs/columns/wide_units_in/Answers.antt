use Rattle.std.proofs.Common.{sym, arith}
use Rattle.text_core.proofs.UnitLemmas.{units_of_ascii}
use Rattle.text_core.proofs.columns.wide_units_in.Goals as goal

pub overflow_cast-result : goal.overflow_cast-result
overflow_cast-result c = omega (arith, units_of_ascii c.args.wide c.args.part.now c.if-is_ascii.ensures.cases, c.requires)

pub returns-then-is_ascii : goal.returns-then-is_ascii
returns-then-is_ascii c = sym (units_of_ascii c.args.wide c.args.part.now c.if-is_ascii.ensures.cases)
