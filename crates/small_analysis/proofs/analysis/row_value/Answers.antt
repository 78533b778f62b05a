use Rattle.std.proofs.Common.{◌≡◌, subst}
use Rattle.std.specs.Prelude.{IfOk}
use Rattle.small_analysis.specs.Small.{class_value}
use Rattle.small_analysis.proofs.analysis.row_value.Goals as goal

pub returns : goal.returns
returns c =
    subst (λ class. IfOk c.class_value.result (λ json. json ≡ class_value c.args.row c.args.params.now class)) c.class_of.ensures c.class_value.ensures
