-- The steps of one change after another.
use Rattle.std.proofs.Common.{◌≡◌, ℕ, ◌+◌, ◌-◌, ◌*◌, ◌^◌, ◌≤◌, Bool, true, false, cond, List, inl, inr, arith}
use Rattle.std.specs.Prelude.{Option, None, Some}
use Rattle.std.specs.Cmp.Lexicographic.{nat_list_cmp_total}
use Rattle.std.specs.FinMap as map
use Rattle.std.proofs.Math.Nat.{mul-le-mul_left, mul-le-mul_right, add-mul}
use Rattle.std.proofs.lemmas.Bool.{cases_lt}
use Rattle.std.proofs.lemmas.Nat.{mul-le}
use Rattle.shared_map.specs.Costs.{IsQuick}
use Rattle.docs_vfs.specs.Paths.{path_cmp}
use Rattle.analysis_host.specs.HostData.{with_entry}
use Rattle.analysis_host.specs.declared.text_entry.TextEntry.{TextEntry}
use Rattle.analysis_host.specs.Costs.{AreQuick}

level : (n : ℕ) → 2 ^ 0 ≤ (n + 1) * (n + 1)
level n = let e : 1 * 1 ≤ (n + 1) * (n + 1) = mul-le 1 1 (n + 1) (n + 1) (omega arith) (omega arith) in omega arith

-- no step for one change
pub at_rest : (n steps : ℕ) → IsQuick n steps steps
at_rest n steps = record { height = 0; deep = level n; few = omega arith }

-- no step for many
pub nothing_done : (count n steps : ℕ) → AreQuick count n steps steps
nothing_done count n steps = record { height = 0; deep = level n; few = omega arith }

-- as many changes as there may be
pub not_all : {done count n old new : ℕ} → AreQuick done n old new → done ≤ count → AreQuick count n old new
not_all {done} {count} q within =
    let most : done * (3 * q.height) ≤ count * (3 * q.height) = mul-le-mul_right (3 * q.height) within in
    let few = q.few in
    record { height = q.height; deep = q.deep; few = omega arith }

-- one change more
pub one_more : {done m n a b c : ℕ} → AreQuick done n a b → IsQuick m b c → m ≤ n → AreQuick (done + 1) n a c
one_more {done} {m} {n} {a} {b} {c} q p within =
    let wide : (m + 1) * (m + 1) ≤ (n + 1) * (n + 1) = mul-le (m + 1) (m + 1) (n + 1) (n + 1) (omega arith) (omega arith) in
    let q_few = q.few in
    let p_few = p.few in
    let p_deep = p.deep in
    elim (cases_lt q.height p.height) [
      | inl lower ↦
          let grown : done * (3 * q.height) ≤ done * (3 * p.height) = mul-le-mul_left done (omega arith) in
          let next : (done + 1) * (3 * p.height) ≡ done * (3 * p.height) + 1 * (3 * p.height) = add-mul done 1 (3 * p.height) in
          record { height = p.height; deep = omega arith; few = omega arith }
      | inr higher ↦
          let next : (done + 1) * (3 * q.height) ≡ done * (3 * q.height) + 1 * (3 * q.height) = add-mul done 1 (3 * q.height) in
          record { height = q.height; deep = q.deep; few = omega arith }
    ]

either : (b : Bool) (x y n : ℕ) → x ≤ n → y ≤ n → cond b x y ≤ n
either true x y n p q = p
either false x y n p q = q

-- an entry that is set makes at most one path more
pub len_with : (path : List ℕ) (entry : Option TextEntry) (texts : map.FinMap path_cmp TextEntry) → map.len (with_entry path entry texts) ≤ map.len texts + 1
len_with path None texts =
    let n = map.len texts in
    rw (map.len-remove nat_list_cmp_total texts path) (either (map.contains_key texts path) (n - 1) n (n + 1) (omega arith) (omega arith))
len_with path (Some entry) texts =
    let n = map.len texts in
    rw (map.len-insert nat_list_cmp_total texts path entry) (either (map.contains_key texts path) n (n + 1) (n + 1) (omega arith) (omega arith))
