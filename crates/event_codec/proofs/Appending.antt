-- What two codecs append, one behind the other.
use Rattle.std.proofs.Common.{◌≡◌, ℕ, List, ◌++◌, true, ap, ◌∙◌, append_assoc}
use Rattle.record_codec.specs.Codec.{Codec, ◌and◌}
use Rattle.record_codec.specs.Front.{and_both}

pub appended : {A B : Type 0} (c : Codec A) (d : Codec B) (x : A) (y : B) (old mid new : List ℕ)
    → (c.fits x ≡ true) × (mid ≡ old ++ c.spelling x) → (d.fits y ≡ true) × (new ≡ mid ++ d.spelling y)
    → ((c and d).fits (x, y) ≡ true) × (new ≡ old ++ (c and d).spelling (x, y))
appended c d x y old mid new p q =
    (and_both (c.fits x) (d.fits y) p.0 q.0, q.1 ∙ ap (λ (t : List ℕ). t ++ d.spelling y) p.1 ∙ append_assoc old (c.spelling x) (d.spelling y))
