-- How diagnostics are spelled.
use Rattle.std.specs.Prelude.{refl}
use Rattle.record_codec.specs.Codec.{Codec, ◌and◌, by_parts}
use Rattle.record_codec.specs.Numbers.{number32, text}
use Rattle.record_codec.specs.Lists.{list_of}
use Rattle.record_codec.specs.Cases.{byte, optional}
use Rattle.record_codec.specs.Leaves.{path}
use Rattle.text_core.specs.declared.position.Position.{Position}
use Rattle.text_core.specs.declared.position.Range.{Range}
use Rattle.lsp_types.specs.declared.diagnostic.Related.{Related}
use Rattle.lsp_types.specs.declared.diagnostic.Diagnostic.{Diagnostic}

unfoldable pub position_codec : Codec Position
position_codec =
    by_parts (λ x. (x.line, x.character))
    (λ p. record { line = p.0; character = p.1 }) (λ x. refl) (λ p. refl)
    (number32 and number32)

unfoldable pub range_codec : Codec Range
range_codec =
    by_parts (λ x. (x.start, x.end))
    (λ p. record { start = p.0; end = p.1 }) (λ x. refl) (λ p. refl)
    (position_codec and position_codec)

unfoldable pub related_codec : Codec Related
related_codec =
    by_parts (λ x. (x.path, (x.range, x.message)))
    (λ p. record { path = p.0; range = p.1.0; message = p.1.1 }) (λ x. refl) (λ p. refl)
    (path and range_codec and text)

unfoldable pub diagnostic_codec : Codec Diagnostic
diagnostic_codec =
    by_parts (λ x. (x.range, (x.severity, (x.code, (x.source, (x.message, x.related))))))
    (λ p. record {
      range = p.0;
      severity = p.1.0;
      code = p.1.1.0;
      source = p.1.1.1.0;
      message = p.1.1.1.1.0;
      related =
          p.1.1.1.1.1;
    }) (λ x. refl) (λ p. refl)
    (range_codec and optional byte and optional text and optional text and text and list_of related_codec)
