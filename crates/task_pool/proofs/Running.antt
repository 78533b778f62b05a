-- Workers that run, as jobs come, start and end.
use Rattle.std.proofs.Common.{◌≡◌, ◌<◌, ◌≤◌, ℕ, Bool, true, false, cond, refl, sym, ap, subst, ◌∙◌, arith}
use Rattle.std.specs.Prelude.{None, Some, ◌==◌}
use Rattle.std.specs.Cmp.{nat_cmp_total, unsigned_tied}
use Rattle.std.specs.Ordering.{nat_cmp}
use Rattle.std.specs.FinMap as map
use Rattle.std.proofs.lemmas.Bool.{ne_eqb, eqb-true}
use Rattle.task_pool.specs.Running.{AreRunning}

some_is : {X : Type 0} (x y : X) → Some x ≡ Some y → x ≡ y
some_is x y e = cc

pub none_is : {X : Type 0} (x : X) → None ≡ Some x → ⊥
none_is x e = cc

-- what stands at a number of a map with one more, and of a map with one less
at_insert : {X : Type 0} (m : map.FinMap nat_cmp X) (k : ℕ) (x : X) (q : ℕ) → map.get (map.insert m k x) q ≡ cond (q == k) (Some x) (map.get m q)
at_insert m k x q = map.get-insert nat_cmp_total m k x q ∙ ap (λ b. cond b (Some x) (map.get m q)) (unsigned_tied q k)

at_remove : {X : Type 0} (m : map.FinMap nat_cmp X) (k q : ℕ) → map.get (map.remove m k) q ≡ cond (q == k) None (map.get m q)
at_remove m k q = map.get-remove nat_cmp_total m k q ∙ ap (λ b. cond b None (map.get m q)) (unsigned_tied q k)

at_other : {X : Type 0} (m : map.FinMap nat_cmp X) (k : ℕ) (x : X) (q : ℕ) → q < k → map.get (map.insert m k x) q ≡ map.get m q
at_other m k x q under = at_insert m k x q ∙ ap (λ b. cond b (Some x) (map.get m q)) (ne_eqb q k (λ is. absurd (omega (arith, under, is))))

module _ {X J : Type 0} (job : X → J) (P : X → Type 0) where
  -- one starts for a job out
  pub starts : (out : map.FinMap nat_cmp J) (handed : ℕ) (running : map.FinMap nat_cmp X) (n : ℕ) (x : X) → AreRunning job P out handed running
      → n ≤ handed → map.get out n ≡ Some (job x) → P x → AreRunning job P out handed (map.insert running n x)
  starts out handed running n x are low there its q y is = by_case (q == n) refl (sym (at_insert running n x q) ∙ is)
    where
      by_case : (b : Bool) → (q == n) ≡ b → cond b (Some x) (map.get running q) ≡ Some y → (q ≤ handed) × (map.get out q ≡ Some (job y)) × P y
      by_case true same found =
          let at : q ≡ n = eqb-true q n same in
          subst (λ z. (q ≤ handed) × (map.get out q ≡ Some (job z)) × P z) (some_is x y found)
          (subst (λ k. (k ≤ handed) × (map.get out k ≡ Some (job x)) × P x) (sym at) (low, there, its))
      by_case false other found = are q y found

  -- one is joined
  pub joins : (out : map.FinMap nat_cmp J) (handed : ℕ) (running : map.FinMap nat_cmp X) (n : ℕ) → AreRunning job P out handed running
      → AreRunning job P out handed (map.remove running n)
  joins out handed running n are q y is = by_case (q == n) (sym (at_remove running n q) ∙ is)
    where
      by_case : (b : Bool) → cond b None (map.get running q) ≡ Some y → (q ≤ handed) × (map.get out q ≡ Some (job y)) × P y
      by_case true found = absurd (none_is y found)
      by_case false found = are q y found

  -- a job comes, above all others
  pub comes : (out : map.FinMap nat_cmp J) (handed : ℕ) (running : map.FinMap nat_cmp X) (n : ℕ) (j : J) → AreRunning job P out handed running → handed < n
      → AreRunning job P (map.insert out n j) n running
  comes out handed running n j are above q y is =
      let it = are q y is in
      let low : q ≤ handed = it.0 in
      let under : q < n = omega (arith, low, above) in
      (omega (arith, under), at_other out n j q under ∙ it.1, it.2)

  -- a job goes, whose worker is gone
  pub goes : (out : map.FinMap nat_cmp J) (handed : ℕ) (running : map.FinMap nat_cmp X) (n : ℕ) → AreRunning job P out handed running
      → AreRunning job P (map.remove out n) handed (map.remove running n)
  goes out handed running n are q y is = by_case (q == n) refl (sym (at_remove running n q) ∙ is)
    where
      by_case : (b : Bool) → (q == n) ≡ b → cond b None (map.get running q) ≡ Some y → (q ≤ handed) × (map.get (map.remove out n) q ≡ Some (job y)) × P y
      by_case true same found = absurd (none_is y found)
      by_case false other found =
          let it = are q y found in
          (it.0, at_remove out n q ∙ ap (λ b. cond b None (map.get out q)) other ∙ it.1, it.2)
