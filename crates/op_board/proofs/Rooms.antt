-- Maps after a key was put or removed.
use Rattle.std.proofs.Common.{◌≡◌, ℕ, ◌+◌, ◌≤◌, Bool, true, false, refl, ap, subst, sym, ◌∙◌, arith}
use Rattle.std.specs.Prelude.{Option, is_some, cond, Some, None, nat_eq}
use Rattle.std.specs.Ordering.{nat_cmp, eq_by_cmp, is_eq}
use Rattle.std.specs.declared.cmp.Ordering.{Ordering}
use Rattle.std.specs.declared.cmp.Ordering.TheVariants.{Less, Equal, Greater}
use Rattle.std.specs.Cmp.{nat_cmp_total}
use Rattle.std.specs.FinMap as map
use Rattle.std.proofs.lemmas.Bool.{cond-true, cond-false, true≢false}
use Rattle.docs_vfs.specs.declared.file_kinds.FileId.{FileId}
use Rattle.op_board.specs.Marked.{Marked, mark}
use Rattle.op_board.specs.Checks.{Packages, Checks, with_left}

one_more : (b : Bool) (n : ℕ) → cond b n (n + 1) ≤ n + 1
one_more true n = omega arith
one_more false n = omega arith

pub more_len : {V : Type 0} (m n : map.FinMap nat_cmp V) (k : ℕ) (v : V) → n ≡ map.insert m k v → map.len n ≤ map.len m + 1
more_len m n k v is = subst (λ l. l ≤ map.len m + 1) (sym (ap map.len is ∙ map.len-insert nat_cmp_total m k v)) (one_more _ _)

module _ {V : Type 0} (m : map.FinMap nat_cmp V) (k : ℕ) where
  as_there : (o : Option V) → map.get m k ≡ o → (q : ℕ) (r : Ordering) → nat_cmp q k ≡ r → cond (is_eq r) o (map.get m q) ≡ map.get m q
  as_there o is q Less e = refl
  as_there o is q Equal e = sym is ∙ map.get_tied nat_cmp_total m q k e
  as_there o is q Greater e = refl

  -- to put a value that is there changes nothing
  insert_same : (v : V) → map.get m k ≡ Some v → map.insert m k v ≡ m
  insert_same v is =
      map.same_map nat_cmp_total map.nat_cmp-IsAntisymmetric _ _ (λ q. map.get-insert nat_cmp_total m k v q ∙ as_there (Some v) is q (nat_cmp q k) refl)

there : (o : Option (Unit {0})) → is_some o ≡ true → o ≡ Some tt
there None is = absurd (true≢false (sym is))
there (Some x) is = refl

-- to mark a file again changes nothing
pub mark_again : (m : Marked) (f : FileId) → is_some (map.get m f.0) ≡ true → m ≡ mark f m
mark_again m f is = sym (insert_same m f.0 tt (there (map.get m f.0) is))

twice : {A : Type 0} (b : Bool) (x y z : A) → cond b x (cond b y z) ≡ cond b x z
twice true x y z = refl
twice false x y z = refl

-- a key that was put, and removed again
remove_put : {V : Type 0} (m : map.FinMap nat_cmp V) (k : ℕ) (v : V) → map.remove (map.insert m k v) k ≡ map.remove m k
remove_put m k v = map.same_map nat_cmp_total map.nat_cmp-IsAntisymmetric _ _ (λ q.
    map.get-remove nat_cmp_total (map.insert m k v) k q
    ∙ ap (cond (eq_by_cmp nat_cmp q k) None) (map.get-insert nat_cmp_total m k v q)
    ∙ twice (eq_by_cmp nat_cmp q k) _ _ _
    ∙ sym (map.get-remove nat_cmp_total m k q))

-- a check that was changed in its place, and is forgotten if it has no package
module _ (old put : Checks) (id : ℕ) (packages : Packages) (is : put ≡ map.insert old id packages) where
  pub left_none : nat_eq (map.len packages) 0 ≡ true → map.remove put id ≡ with_left id packages old
  left_none none = ap (λ m. map.remove m id) is ∙ remove_put old id packages ∙ sym (cond-true _ _ _ none)

  pub left_some : nat_eq (map.len packages) 0 ≡ false → put ≡ with_left id packages old
  left_some some = is ∙ sym (cond-false _ _ _ some)
