use Rattle.std.proofs.Common.{◌≡◌, ℕ, Bool, List, length, ap, subst, ◌∙◌}
use Rattle.check_restarts.specs.Among.{holds, is_among}
use Rattle.check_restarts.specs.Dependents.{is_in, is_at, has_root, picked, MarksAffected}
use Rattle.check_restarts.specs.Walk.{is_within, depends_by}
use Rattle.check_restarts.proofs.Marked.{holds_same}
use Rattle.check_restarts.proofs.RoundLaws.{affected_only}
use Rattle.check_restarts.proofs.RowLaws.{same_affected}
use Rattle.check_restarts.proofs.affected.affected_roots.Goals as goal

pub returns : goal.returns
returns c =
    let a = c.args in
    let starts = c.in_ok-starts.starts in
    let rows = c.in_ok-rows.rows.items in
    let marks = c.in_ok-marks.marks.items in
    let test : holds c.in_ok-among.among ≡ is_among a.roots.now = ap holds c.in_ok-among.ensures ∙ holds_same a.roots.now in
    let begun : (n : ℕ) → is_in starts n ≡ has_root a.paths.now a.roots.now n =
    λ n. c.in_ok-starts.ensures n ∙ ap (λ (t : List ℕ → Bool). is_at t a.paths.now n) test in
    let d = c.deref.result.now in
    let by_slice = subst (λ (s : List ℕ). MarksAffected (depends_by d) (is_within (length d) s) marks) c.as_slice.ensures c.in_ok-marks.ensures in
    let marked = subst (λ (r : List (List ℕ)). MarksAffected (depends_by r) (is_within (length r) starts) marks) c.deref.ensures.value by_slice in
    affected_only a.crates.now a.paths.now a.roots.now c.in_ok-affected.affected c.requires (
      marks,
      same_affected a.crates.now a.paths.now a.roots.now rows starts marks c.in_ok-rows.ensures begun c.requires marked,
      c.in_ok-affected.ensures ∙ ap (λ (m : List Bool). picked m a.paths.now) c.deref-2.ensures.value,
    )
