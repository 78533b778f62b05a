-- The test of statuses decides that they are equal.
use Rattle.std.proofs.Common.{◌≡◌, refl, sym, ap, true, false}
use Rattle.std.specs.Prelude.{◌&&◌, nat_eq, Bool, Decides}
use Rattle.std.specs.Bool.{beq}
use Rattle.std.specs.Cmp.{booleans_Decides}
use Rattle.std.specs.Cmp.Lexicographic.{pointwise}
use Rattle.std.specs.Option.{option_eq}
use Rattle.std.proofs.lemmas.Bool.{false≢true}
use Rattle.std.proofs.lemmas.Bool.Decides.{Decides-and, Decides-like}
use Rattle.plain.specs.Told.{option_told, text_told}
use Rattle.status.specs.Same.{is_same_health, is_same_status}
use Rattle.status.specs.declared.health.Health.{Health}
use Rattle.status.specs.declared.health.Health.TheVariants.{Ok, Warning, Error}
use Rattle.status.specs.declared.status.Status.{Status}

pub health_told : (a b : Health) → Decides (is_same_health a b) (a ≡ b)
health_told Ok Ok = (λ h. refl, λ p. refl)
health_told Warning Warning = (λ h. refl, λ p. refl)
health_told Error Error = (λ h. refl, λ p. refl)
health_told Ok Warning = (λ h. absurd (false≢true h), λ p. cc)
health_told Ok Error = (λ h. absurd (false≢true h), λ p. cc)
health_told Warning Ok = (λ h. absurd (false≢true h), λ p. cc)
health_told Warning Error = (λ h. absurd (false≢true h), λ p. cc)
health_told Error Ok = (λ h. absurd (false≢true h), λ p. cc)
health_told Error Warning = (λ h. absurd (false≢true h), λ p. cc)

parts_told : (a b : Status) → Decides (is_same_status a b) (((a.health ≡ b.health) × (a.quiescent ≡ b.quiescent)) × (a.message ≡ b.message))
parts_told a b =
    Decides-and _ _ (Decides-and _ _ (health_told a.health b.health) (booleans_Decides a.quiescent b.quiescent))
    (option_told text_told a.message b.message)

pub status_told : (a b : Status) → Decides (is_same_status a b) (a ≡ b)
status_told a b =
    Decides-like (is_same_status a b) (λ h i. record { health = h.0.0 i; quiescent = h.0.1 i; message = h.1 i })
    (λ p. ((ap (λ (s : Status). s.health) p, ap (λ (s : Status). s.quiescent) p), ap (λ (s : Status). s.message) p)) (parts_told a b)
