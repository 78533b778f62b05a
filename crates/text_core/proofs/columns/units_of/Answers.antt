use Rattle.std.proofs.Common.{◌≡◌, length, ap, sym, ◌∙◌, arith}
use Rattle.text_core.specs.Columns.{units_of}
use Rattle.text_core.proofs.UnitLemmas.{bytes_of}
use Rattle.text_core.proofs.columns.units_of.Goals as goal

pub overflow_cast-result : goal.overflow_cast-result
overflow_cast-result c =
    let size : units_of c.args.encoding c.args.front.now ≡ length c.args.front.now = ap (λ e. units_of e c.args.front.now) c.in-Utf8.is ∙ bytes_of c.args.front.now in
    omega (arith, size, c.requires)

pub returns-in-Utf8 : goal.returns-in-Utf8
returns-in-Utf8 c = sym (ap (λ e. units_of e c.args.front.now) c.in-Utf8.is ∙ bytes_of c.args.front.now)
