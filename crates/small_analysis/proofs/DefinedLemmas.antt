-- A name is defined right behind a space.
use Rattle.std.proofs.Common.{◌≡◌, ℕ, ◌-◌, ◌≤◌, true, false, Bool, List, drop, refl, sym, ap, ◌∙◌, arith, ◌&&◌}
use Rattle.std.specs.Prelude.{bytes_eq, codes, nat_le, slice_index, slice_range, ◌==◌}
use Rattle.std.proofs.lemmas.Bool.{false≢true}
use Rattle.std.proofs.lemmas.List.{get_or-drop, get_or-take}
use Rattle.std.proofs.lemmas.Slice.Eq.{bytes_eq-Decides}
use Rattle.small_analysis.specs.Defined.{follows_fn}

-- the last byte of three
last_of_three : (text : List ℕ) (place : ℕ) → 3 ≤ place → slice_index (slice_range text (place - 3) place) 2 ≡ slice_index text (place - 1)
last_of_three text place three =
    get_or-take (place - (place - 3)) (drop (place - 3) text) 2 0 (omega arith) ∙ get_or-drop (place - 3) text 2 0
    ∙ ap (slice_index text) (omega arith)

-- behind another byte than a space no name is defined
pub no_space : (text : List ℕ) (place : ℕ) → 3 ≤ place → (slice_index text (place - 1) == 32) ≡ false → follows_fn text place ≡ false
no_space text place three other = by_place (nat_le 3 place) (bytes_eq (slice_range text (place - 3) place) (codes "fn ")) refl
  where
    by_place : (b same : Bool) → bytes_eq (slice_range text (place - 3) place) (codes "fn ") ≡ same → (b && same) ≡ false
    by_place b false is = by_b b
      where
        by_b : (b : Bool) → (b && false) ≡ false
        by_b true = refl
        by_b false = refl
    by_place b true is =
        let its = (bytes_eq-Decides (slice_range text (place - 3) place) (codes "fn ")).0 is in
        absurd (false≢true (sym other ∙ ap (λ byte. byte == 32) (sym (last_of_three text place three) ∙ ap (λ bytes. slice_index bytes 2) its)))
