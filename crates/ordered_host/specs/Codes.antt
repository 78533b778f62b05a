-- How the logic stores what contracts see of the host.
use Rattle.std.specs.Prelude.{Bool, refl}
use Rattle.std.specs.Coded.{Coded, code_by, coded×, coded_bool}
use Rattle.inline_host.specs.Inline.{InlineData}
use Rattle.ordered_host.specs.InOrder.{OrderedData}

abbrev pub ordered_code : Coded InlineData → Coded OrderedData
ordered_code host =
    code_by (InlineData × Bool) (coded× host coded_bool) (λ h. (h.host, h.failed))
    (λ p. record { host = p.0; failed = p.1 }) (λ _. refl)
