-- When two diagnostics are the same.
use Rattle.std.specs.Prelude.{◌≡◌, Bool, ◌&&◌, Decides, nat_eq}
use Rattle.std.specs.Option.{option_eq}
use Rattle.std.specs.Cmp.{unsigned_Decides, IsEquivalence, decided}
use Rattle.std.specs.Cmp.Lexicographic.{pointwise, pointwise_decides, bytes_decides}
use Rattle.std.proofs.Common.{ap}
use Rattle.std.proofs.lemmas.Bool.Decides.{Decides-like, Decides-and}
use Rattle.plain.specs.Told.{option_told}
use Rattle.text_core.specs.declared.position.Position.{Position}
use Rattle.text_core.specs.declared.position.Range.{Range}
use Rattle.lsp_types.specs.declared.diagnostic.Related.{Related}
use Rattle.lsp_types.specs.declared.diagnostic.Diagnostic.{Diagnostic}

abbrev pub same_position : Position → Position → Bool
same_position p q = nat_eq p.line q.line && nat_eq p.character q.character

abbrev pub same_range : Range → Range → Bool
same_range r s = same_position r.start s.start && same_position r.end s.end

abbrev pub same_related : Related → Related → Bool
same_related x y = pointwise nat_eq x.path y.path && same_range x.range y.range && pointwise nat_eq x.message y.message

abbrev pub same_diagnostic : Diagnostic → Diagnostic → Bool
same_diagnostic x y =
    same_range x.range y.range && option_eq nat_eq x.severity y.severity && option_eq (pointwise nat_eq) x.code y.code
    && option_eq (pointwise nat_eq) x.source y.source && pointwise nat_eq x.message y.message && pointwise same_related x.related y.related

position_told : (p q : Position) → Decides (same_position p q) (p ≡ q)
position_told p q =
    Decides-like _ (λ h i. record { line = h.0 i; character = h.1 i }) (λ e. (ap (λ (p : Position). p.line) e, ap (λ (p : Position). p.character) e))
    (Decides-and _ _ (unsigned_Decides p.line q.line) (unsigned_Decides p.character q.character))

range_told : (r s : Range) → Decides (same_range r s) (r ≡ s)
range_told r s =
    Decides-like _ (λ h i. record { start = h.0 i; end = h.1 i }) (λ e. (ap (λ (r : Range). r.start) e, ap (λ (r : Range). r.end) e))
    (Decides-and _ _ (position_told r.start s.start) (position_told r.end s.end))

pub related_told : (x y : Related) → Decides (same_related x y) (x ≡ y)
related_told x y =
    Decides-like _ (λ h i. record { path = h.0.0 i; range = h.0.1 i; message = h.1 i })
    (λ e. ((ap (λ (x : Related). x.path) e, ap (λ (x : Related). x.range) e), ap (λ (x : Related). x.message) e))
    (Decides-and _ _ (Decides-and _ _ (bytes_decides x.path y.path) (range_told x.range y.range)) (bytes_decides x.message y.message))

pub diagnostic_told : (x y : Diagnostic) → Decides (same_diagnostic x y) (x ≡ y)
diagnostic_told x y =
    Decides-like _ (λ h i. record {
      range = h.0.0.0.0.0 i;
      severity = h.0.0.0.0.1 i;
      code = h.0.0.0.1 i;
      source = h.0.0.1 i;
      message = h.0.1 i;
      related = h.1 i;
    })
    (λ e. (
      (
        (((ap (λ (x : Diagnostic). x.range) e, ap (λ (x : Diagnostic). x.severity) e), ap (λ (x : Diagnostic). x.code) e), ap (λ (x : Diagnostic). x.source) e),
        ap (λ (x : Diagnostic). x.message) e,
      ),
      ap (λ (x : Diagnostic). x.related) e,
    ))
    (Decides-and _ _ (Decides-and _ _ (Decides-and _ _ (Decides-and _ _
    (Decides-and _ _ (range_told x.range y.range) (option_told unsigned_Decides x.severity y.severity))
    (option_told bytes_decides x.code y.code)) (option_told bytes_decides x.source y.source)) (bytes_decides x.message y.message))
    (pointwise_decides related_told x.related y.related))

pub related_equiv : IsEquivalence same_related
related_equiv = decided same_related related_told

pub diagnostic_equiv : IsEquivalence same_diagnostic
diagnostic_equiv = decided same_diagnostic diagnostic_told
