-- The order of a list of diagnostics.
use Rattle.std.specs.Prelude.{List}
use Rattle.std.specs.Ordering.{nat_cmp, ordering_then}
use Rattle.std.specs.declared.cmp.Ordering.{Ordering}
use Rattle.plain.specs.Order.{in_order_by, ranked}
use Rattle.text_core.specs.declared.position.Position.{Position}
use Rattle.text_core.specs.declared.position.Range.{Range}
use Rattle.lsp_types.specs.declared.diagnostic.Diagnostic.{Diagnostic}

abbrev pub position_cmp : Position → Position → Ordering
position_cmp p q = ordering_then (nat_cmp p.line q.line) (nat_cmp p.character q.character)

-- by the start, and then by the end
abbrev pub range_cmp : Range → Range → Ordering
range_cmp r s = ordering_then (position_cmp r.start s.start) (position_cmp r.end s.end)

-- the stable order by the ranges
abbrev pub in_order : List Diagnostic → List Diagnostic
in_order = in_order_by (ranked range_cmp (λ (d : Diagnostic). d.range))
