-- When two positions are the same, and two ranges.
use Rattle.std.specs.Prelude.{◌≡◌, ◌&&◌, Decides, nat_eq}
use Rattle.std.specs.Cmp.{unsigned_Decides}
use Rattle.std.proofs.Common.{ap}
use Rattle.std.proofs.lemmas.Bool.Decides.{Decides-like, Decides-and}
use Rattle.text_core.specs.declared.position.Position.{Position}
use Rattle.text_core.specs.declared.position.Range.{Range}

-- the line and the character tell
pub position_told : (p q : Position) → Decides (nat_eq p.line q.line && nat_eq p.character q.character) (p ≡ q)
position_told p q =
    Decides-like _ (λ h i. record { line = h.0 i; character = h.1 i }) (λ e. (ap (λ (p : Position). p.line) e, ap (λ (p : Position). p.character) e))
    (Decides-and _ _ (unsigned_Decides p.line q.line) (unsigned_Decides p.character q.character))

-- the start and the end tell
pub range_told : (r s : Range)
    → Decides (nat_eq r.start.line s.start.line && nat_eq r.start.character s.start.character && (nat_eq r.end.line s.end.line && nat_eq r.end.character s.end.character)) (r ≡ s)
range_told r s =
    Decides-like _ (λ h i. record { start = h.0 i; end = h.1 i }) (λ e. (ap (λ (r : Range). r.start) e, ap (λ (r : Range). r.end) e))
    (Decides-and _ _ (position_told r.start s.start) (position_told r.end s.end))
