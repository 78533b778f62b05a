-- What a finite map holds at a key that was set or taken away, and at the others.
use Rattle.std.proofs.Common.{◌≡◌, ◌≢◌, Bool, true, false, refl, sym, ap, ◌∙◌, Ordering}
use Rattle.std.specs.Prelude.{None, Some}
use Rattle.std.specs.Ordering.{eq_by_cmp}
use Rattle.std.specs.Cmp.{IsTotalOrder, eq_by_cmp_equiv, Equal-is}
use Rattle.std.specs.FinMap as map
use Rattle.std.proofs.lemmas.Bool.{cond-true, cond-false, true≢false}

module _ {K : Type 0} {R : K → K → Ordering} (total : IsTotalOrder R) (same : map.IsAntisymmetric R) where
  tied : (q k : K) → eq_by_cmp R q k ≡ true → q ≡ k
  tied q k e = same q k ((Equal-is (R q k)).0 e)

  pub itself : (k : K) → eq_by_cmp R k k ≡ true
  itself k = (eq_by_cmp_equiv total).refl k

  not_tied : (b : Bool) (q k : K) → eq_by_cmp R q k ≡ b → q ≢ k → b ≡ false
  not_tied true q k is other = absurd (other (tied q k is))
  not_tied false q k is other = refl

  pub apart : (q k : K) → q ≢ k → eq_by_cmp R q k ≡ false
  apart q k other = not_tied (eq_by_cmp R q k) q k refl other ∙ refl

  by_test : {P : Type 0} (b : Bool) (q k : K) → eq_by_cmp R q k ≡ b → (q ≡ k → P) → (q ≢ k → P) → P
  by_test true q k is alike unlike = alike (tied q k is)
  by_test false q k is alike unlike = unlike (λ e. true≢false (sym (itself k) ∙ sym (ap (λ x. eq_by_cmp R x k) e) ∙ is))

  -- two keys are the same, or they are not
  pub by_key : {P : Type 0} (q k : K) → (q ≡ k → P) → (q ≢ k → P) → P
  by_key q k alike unlike = by_test (eq_by_cmp R q k) q k refl alike unlike

  pub get-insert_same : {X : Type 0} (m : map.FinMap R X) (k : K) (x : X) → map.get (map.insert m k x) k ≡ Some x
  get-insert_same m k x = map.get-insert total m k x k ∙ cond-true _ _ _ (itself k)

  pub get-insert_other : {X : Type 0} (m : map.FinMap R X) (k : K) (x : X) (q : K) → q ≢ k → map.get (map.insert m k x) q ≡ map.get m q
  get-insert_other m k x q other = map.get-insert total m k x q ∙ cond-false _ _ _ (apart q k other)

  pub get-remove_same : {X : Type 0} (m : map.FinMap R X) (k : K) → map.get (map.remove m k) k ≡ None
  get-remove_same m k = map.get-remove total m k k ∙ cond-true _ _ _ (itself k)

  pub get-remove_other : {X : Type 0} (m : map.FinMap R X) (k q : K) → q ≢ k → map.get (map.remove m k) q ≡ map.get m q
  get-remove_other m k q other = map.get-remove total m k q ∙ cond-false _ _ _ (apart q k other)

  -- to take away what was set where nothing was
  pub remove-insert : {X : Type 0} (m : map.FinMap R X) (k : K) (x : X) → map.get m k ≡ None → map.remove (map.insert m k x) k ≡ m
  remove-insert m k x none = map.same_map total same _ _ (λ q. by_key q k
      (λ e. rw e (get-remove_same (map.insert m k x) k ∙ sym none))
      (λ other. get-remove_other (map.insert m k x) k q other ∙ get-insert_other m k x q other))

  -- to set what is there
  pub insert-there : {X : Type 0} (m : map.FinMap R X) (k : K) (x : X) → map.get m k ≡ Some x → map.insert m k x ≡ m
  insert-there m k x is = map.same_map total same _ _ (λ q. by_key q k
      (λ e. rw e (get-insert_same m k x ∙ sym is))
      (λ other. get-insert_other m k x q other))

  -- to take away what is not there
  pub remove-absent : {X : Type 0} (m : map.FinMap R X) (k : K) → map.get m k ≡ None → map.remove m k ≡ m
  remove-absent m k none = map.same_map total same _ _ (λ q. by_key q k
      (λ e. rw e (get-remove_same m k ∙ sym none))
      (λ other. get-remove_other m k q other))

  -- to set one key and to take away another, in either order
  pub insert-remove : {X : Type 0} (m : map.FinMap R X) (k : K) (x : X) (n : K) → k ≢ n → map.insert (map.remove m n) k x ≡ map.remove (map.insert m k x) n
  insert-remove m k x n apart_keys = map.same_map total same _ _ (λ q. by_key q k
      (λ e. rw e (get-insert_same (map.remove m n) k x ∙ sym (get-remove_other (map.insert m k x) n k apart_keys ∙ get-insert_same m k x)))
      (λ other. get-insert_other (map.remove m n) k x q other ∙ by_key q n
      (λ e. rw e (get-remove_same m n ∙ sym (get-remove_same (map.insert m k x) n)))
      (λ elsewhere. get-remove_other m n q elsewhere ∙ sym (get-remove_other (map.insert m k x) n q elsewhere ∙ get-insert_other m k x q other))))
