-- Maps of parents are the same where their pairs are, and pairs where their parts are.
use Rattle.std.proofs.Common.{◌≡◌, ◌==◌, ℕ, List, [], ◌∷◌, Bool, true, false, refl, ap, ◌∙◌, map}
use Rattle.std.specs.Prelude.{◌&&◌, bytes_eq}
use Rattle.std.specs.Bool.{Decides}
use Rattle.std.specs.FinMap as finmap
use Rattle.std.proofs.lemmas.Bool.{and_parts}
use Rattle.std.proofs.lemmas.Bool.Decides.{Decides-eqb}
use Rattle.std.proofs.lemmas.Slice.Eq.{slice_eq-Decides}
use Rattle.layered_settings.specs.Search.{Parents}
use Rattle.layered_settings.specs.Change.{same_pairs, parents_of, has_parents}

and-swap : (a b c d : Bool) → ((a && b) && (c && d)) ≡ ((a && c) && (b && d))
and-swap true b true d = refl
and-swap true true false d = refl
and-swap true false false d = refl
and-swap false b c d = refl

abbrev roots : List (ℕ × ℕ) → List ℕ
roots pairs = map (λ pair. pair.0) pairs

abbrev parents : List (ℕ × ℕ) → List ℕ
parents pairs = map (λ pair. pair.1) pairs

pub pairs_are_same_by_parts : (one other : List (ℕ × ℕ)) → same_pairs one other ≡ (bytes_eq (roots one) (roots other) && bytes_eq (parents one) (parents other))
pairs_are_same_by_parts [] [] = refl
pairs_are_same_by_parts [] (q ∷ qs) = refl
pairs_are_same_by_parts (p ∷ ps) [] = refl
pairs_are_same_by_parts (p ∷ ps) (q ∷ qs) =
    ap (λ same. (p.0 == q.0 && p.1 == q.1) && same) (pairs_are_same_by_parts ps qs)
    ∙ and-swap (p.0 == q.0) (p.1 == q.1) (bytes_eq (roots ps) (roots qs)) (bytes_eq (parents ps) (parents qs))

pairs-Decides : (p q : ℕ × ℕ) → Decides (p.0 == q.0 && p.1 == q.1) (p ≡ q)
pairs-Decides p q = (
  (λ e i. ((Decides-eqb p.0 q.0).0 (and_parts (p.0 == q.0) (p.1 == q.1) e).0 i, (Decides-eqb p.1 q.1).0 (and_parts (p.0 == q.0) (p.1 == q.1) e).1 i)),
  λ e i. (Decides-eqb p.0 q.0).1 (ap (λ r. r.0) e) i && (Decides-eqb p.1 q.1).1 (ap (λ r. r.1) e) i,
)

-- maps have the same pairs exactly where they are the same
pub same_pairs-Decides : (one other : Parents) → Decides (same_pairs (finmap.entries one) (finmap.entries other)) (one ≡ other)
same_pairs-Decides one other =
    let decides = slice_eq-Decides pairs-Decides (finmap.entries one) (finmap.entries other) (same_pairs (finmap.entries one) (finmap.entries other)) refl in
    ((λ h. finmap.same_entries_map one other (decides.0 h)), λ h. decides.1 (ap finmap.entries h))

pub has_parents_if_equal : (parents : Parents) (pairs : List (ℕ × ℕ)) → Decides (has_parents parents pairs) (parents ≡ parents_of pairs)
unfolding has_parents
has_parents_if_equal parents pairs = same_pairs-Decides parents (parents_of pairs)
