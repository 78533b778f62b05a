-- The order of the ids of requests: numbers come before texts. It is total, and only equal ids tie.
use Rattle.std.specs.Prelude.{◌≡◌, ℕ, ℤ, List, Bool, false, refl}
use Rattle.std.specs.declared.cmp.Ordering.{Ordering}
use Rattle.std.specs.declared.cmp.Ordering.TheVariants.{Less, Equal, Greater}
use Rattle.std.specs.Ordering.{ordering_reverse, nat_cmp, int_cmp, eq_by_cmp}
use Rattle.std.specs.Cmp.{IsTotalOrder, int_cmp_total}
use Rattle.std.specs.Cmp.Lexicographic.{slice_cmp, nat_list_cmp_total}
use Rattle.std.specs.FinMap as map
use Rattle.std.proofs.Common.{ap}
use Rattle.lsp_frame.specs.declared.message.RequestId.{RequestId}
use Rattle.lsp_frame.specs.declared.message.RequestId.TheVariants.{Number, Text}

-- numbers by size, texts by their bytes
abbrev pub id_cmp : RequestId → RequestId → Ordering
id_cmp (Number a) (Number b) = int_cmp a b
id_cmp (Number a) (Text t) = Less
id_cmp (Text s) (Number b) = Greater
id_cmp (Text s) (Text t) = slice_cmp nat_cmp s t

turned : (x y : RequestId) → id_cmp x y ≡ ordering_reverse (id_cmp y x)
turned (Number a) (Number b) = int_cmp_total.antisymm a b
turned (Number a) (Text t) = refl
turned (Text s) (Number b) = refl
turned (Text s) (Text t) = nat_list_cmp_total.antisymm s t

less_not : Greater ≡ Less → ⊥
less_not e = cc

chained : (x y z : RequestId) → id_cmp x y ≡ Less → id_cmp y z ≡ Less → id_cmp x z ≡ Less
chained (Number a) (Number b) (Number c) p q = int_cmp_total.trans a b c p q
chained (Number a) (Number b) (Text u) p q = refl
chained (Number a) (Text t) (Number c) p q = absurd (less_not q)
chained (Number a) (Text t) (Text u) p q = refl
chained (Text s) (Number b) z p q = absurd (less_not p)
chained (Text s) (Text t) (Number c) p q = absurd (less_not q)
chained (Text s) (Text t) (Text u) p q = nat_list_cmp_total.trans s t u p q

less_untied : Less ≡ Equal → ⊥
less_untied e = cc

greater_untied : Greater ≡ Equal → ⊥
greater_untied e = cc

pub id_cmp-IsAntisymmetric : map.IsAntisymmetric id_cmp
id_cmp-IsAntisymmetric (Number a) (Number b) e = ap Number (map.int_cmp-IsAntisymmetric a b e)
id_cmp-IsAntisymmetric (Number a) (Text t) e = absurd (less_untied e)
id_cmp-IsAntisymmetric (Text s) (Number b) e = absurd (greater_untied e)
id_cmp-IsAntisymmetric (Text s) (Text t) e = ap Text (map.slice_cmp-IsAntisymmetric map.nat_cmp-IsAntisymmetric s t e)

pub id_cmp_total : IsTotalOrder id_cmp
id_cmp_total = record {
  antisymm = turned;
  trans = chained;
  congr = λ x y z e. ap (λ w. id_cmp w z) (id_cmp-IsAntisymmetric x y e);
}

-- a test that goes by the numbers and by the texts holds of the ids that tie
pub id_ties : (test : RequestId → RequestId → Bool) → ((a b : ℤ) → test (Number a) (Number b) ≡ eq_by_cmp int_cmp a b) → ((a : ℤ) (t : List ℕ) → test (Number a) (Text t) ≡ false)
    → ((s : List ℕ) (b : ℤ) → test (Text s) (Number b) ≡ false) → ((s t : List ℕ) → test (Text s) (Text t) ≡ eq_by_cmp (slice_cmp nat_cmp) s t)
    → (x y : RequestId) → test x y ≡ eq_by_cmp id_cmp x y
id_ties test numbers before after texts (Number a) (Number b) = numbers a b
id_ties test numbers before after texts (Number a) (Text t) = before a t
id_ties test numbers before after texts (Text s) (Number b) = after s b
id_ties test numbers before after texts (Text s) (Text t) = texts s t
