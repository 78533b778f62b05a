-- Each step keeps the rule of the word.
use Rattle.std.proofs.Common.{◌≡◌, ◌≢◌, ℕ, zero, suc, ◌≤◌, true, false, true≢false, List, [], ◌∷◌, set, sym, refl, ap, ◌∙◌, subst, ⊎_elim, arith}
use Rattle.std.specs.Prelude.{slice_index}
use mathlib.Core.Option.{some, some-ne-none, some-injective, none}
use lib.ListN.{get_elem?}
use Rattle.atomic_table.specs.Table.{Me, keeps, step, Allows, Splits, Joins, opening}
use Rattle.atomic_table.proofs.Lists.{at_set, at_snoc, set_again}
use Rattle.atomic_revision.specs.declared.observed.Observed.{Observed}
use Rattle.atomic_revision.specs.Sights.{writer, onlooker, spent, looked, raised, told_of, IsWriter, Fits, Kept, Looks, Raises, Checks}

off : false ≡ true → ⊥
off e = true≢false (sym e)

fits_set : (seat n m : ℕ) (views : List Observed) (id : ℕ) (w : Observed) → Fits seat m id w → ((j : ℕ) (u : Observed) → j ≢ id → get_elem? views j ≡ some u → Fits seat m j u) → (j : ℕ) (u : Observed) → get_elem? (set views id w) j ≡ some u → Fits seat m j u
fits_set seat n m views id w mine others j u e =
    ⊎_elim
    (λ (x : (j ≡ id) × (w ≡ u)). subst (λ (y : ℕ × Observed). Fits seat m y.0 y.1) (λ i. (sym x.0 i, x.1 i)) mine)
    (λ (x : (j ≢ id) × (get_elem? views j ≡ some u)). others j u x.0 x.1)
    (at_set views id j w u e)

pub begins : Kept (opening (0 ∷ []) [] (writer 0))
begins = (0, 0, refl, one)
  where
    one : (id : ℕ) (v : Observed) → get_elem? (writer 0 ∷ []) id ≡ some v → Fits 0 0 id v
    one zero v e = subst (Fits 0 0 0) (some-injective _ _ e) ((λ _. (refl, refl)), (λ _. (omega arith, omega arith)))
    one (suc id) v e = absurd (some-ne-none v (sym e))

-- the words after a store
stored : (ws : List ℕ) (n m : ℕ) → ws ≡ n ∷ [] → set ws 0 m ≡ m ∷ []
stored ws n m e = ap (λ l. set l 0 m) e

pub looks : (slots id : ℕ) (me : Me ℕ Observed) → Allows Kept slots id me 0 (λ n. n) (Looks (step slots 0 0 0 none) me)
looks slots id me s h _ at _ =
    let found = slice_index s.words 0 in
    let is : found ≡ h.1 = ap (λ l. slice_index l 0) h.2 in
    let mine = h.3 id me.0 at in
    let w : Observed = looked me.0 found in (
      w,
      keeps,
      tt,
      (
        h.0,
        h.1,
        stored s.words h.1 found h.2 ∙ ap (λ k. k ∷ []) is,
        fits_set h.0 h.1 h.1 s.views id w ((λ p. ((mine.0 p).0, is)), (λ p. (omega (arith, is), (mine.1 p).1))) (λ j u _ e. h.3 j u e),
      ),
      (refl, λ p. let low = (mine.1 p).0 in omega (arith, is)),
    )

pub raises : (slots id new : ℕ) (me : Me ℕ Observed) → IsWriter me.0 → me.0.number ≤ new → Allows Kept slots id me 0 (λ _. new) (λ _. λ now. Raises (step slots 0 new 0 none) me new now)
raises slots id new me may rising s h _ at _ =
    let mine = h.3 id me.0 at in
    let is = (mine.0 may.0).1 in
    let w : Observed = raised me.0 new in (
      w,
      keeps,
      tt,
      (
        h.0,
        new,
        stored s.words h.1 new h.2,
        fits_set h.0 h.1 new s.views id w
            ((λ p. ((mine.0 p).0, refl)), (λ p. let low = (mine.1 p).1 in (omega arith, omega (arith, is))))
            (λ j u apart e. ((λ p. absurd (apart (((h.3 j u e).0 p).0 ∙ sym (mine.0 may.0).0))), (λ p. let low = (h.3 j u e).1 p in (omega (arith, is), omega (arith, is))))),
      ),
      refl,
    )

pub checks : (slots id : ℕ) (me : Me ℕ Observed) → Allows Kept slots id me 0 (λ n. n) (Checks (step slots 0 0 0 none) me)
checks slots id me s h _ at _ =
    let found = slice_index s.words 0 in
    let is : found ≡ h.1 = ap (λ l. slice_index l 0) h.2 in
    let mine = h.3 id me.0 at in (
      me.0,
      keeps,
      tt,
      (h.0, h.1, stored s.words h.1 found h.2 ∙ ap (λ k. k ∷ []) is, fits_set h.0 h.1 h.1 s.views id me.0 mine (λ j u _ e. h.3 j u e)),
      (refl, λ p. let low = (mine.1 p.1).1 in let same = (mine.0 p.0).1 in omega arith),
    )

pub splits : (id : ℕ) (v : Observed) → v.live ≡ true → Splits Kept id v v (onlooker v)
splits id v live s h at =
    let mine = h.3 id v at in (
      h.0,
      h.1,
      h.2,
      λ j u e. ⊎_elim (λ was. h.3 j u (subst (λ l. get_elem? l j ≡ some u) (set_again s.views id v at) was))
          (λ (same : onlooker v ≡ u). subst (Fits h.0 h.1 j) same ((λ p. absurd (off p)), (λ _. ((mine.1 live).0, omega arith))))
          (at_snoc (set s.views id v) (onlooker v) u j e),
    )

pub joins : (id : ℕ) (v : Observed) (other : ℕ) (u : Observed) → u.live ≡ true → Joins Kept id v other u (told_of v u) spent
joins id v other u live s h at apart there =
    let w : Observed = told_of v u in
    let mine = h.3 id v at in
    let theirs = ⊎_elim (λ (t : (other ≡ id) × (w ≡ u)). absurd (apart t.0)) (λ (t : (other ≢ id) × (get_elem? s.views other ≡ some u)). h.3 other u t.1) (at_set s.views id other w u there) in
    let low = (theirs.1 live).0 in (
      h.0,
      h.1,
      h.2,
      fits_set h.0 h.1 h.1 (set s.views id w) other spent ((λ p. absurd (off p)), (λ p. absurd (off p)))
          (λ j y _ e. fits_set h.0 h.1 h.1 s.views id w (mine.0, (λ p. let ok = mine.1 p in (ok.0, omega arith))) (λ i z _ e'. h.3 i z e') j y e),
    )
