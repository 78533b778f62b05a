-- What a walk over dependents keeps.
use Rattle.std.proofs.Common.{◌≡◌, ◌⊎◌, inl, inr, ⊎_elim, ℕ, zero, suc, ◌+◌, ◌<◌, Bool, true, false, not, cond, ◌||◌, ltb, List, [], ◌∷◌, ◌++◌, length, refl, sym, ap, subst, ◌∙◌, arith, length-append}
use Rattle.std.specs.Prelude.{IsTrue, count_by, nat_eq, replicate}
use Rattle.std.proofs.Math.ListN.{set}
use Rattle.std.proofs.lemmas.Bool.{false≢true, eqb-true, eq-eqb, or_cases, and_parts, and_from, cases_eq, cases_lt, ltb-true, lt-ltb}
use Rattle.std.proofs.lemmas.List.{length-replicate, length-set, get_or-set_same, get_or-set_other}
use Rattle.std.proofs.lemmas.List.Folds.{list_any-append}
use Rattle.std.proofs.lemmas.List.Sums.{sum_by-set}
use Rattle.std.proofs.Math.ListN.{get_or-eq_default}
use Rattle.std.proofs.Math.Bool.{or-true}
use Rattle.check_restarts.specs.Dependents.{is_in, is_marked, IsChain, MarksAffected}
use Rattle.check_restarts.specs.Walk.{row_at, is_within, depends_by, Reached, Walked, WentOn}

pub in_either : (xs ys : List ℕ) (n : ℕ) → IsTrue (is_in (xs ++ ys) n) → IsTrue (is_in xs n) ⊎ IsTrue (is_in ys n)
in_either xs ys n h = or_cases (is_in xs n) (is_in ys n) (sym (list_any-append (λ other. nat_eq other n) xs ys) ∙ h)

pub in_front : (xs ys : List ℕ) (n : ℕ) → IsTrue (is_in xs n) → IsTrue (is_in (xs ++ ys) n)
in_front xs ys n h = list_any-append (λ other. nat_eq other n) xs ys ∙ ap (λ b. b || is_in ys n) h

pub in_back : (xs ys : List ℕ) (n : ℕ) → IsTrue (is_in ys n) → IsTrue (is_in (xs ++ ys) n)
in_back xs ys n h = list_any-append (λ other. nat_eq other n) xs ys ∙ ap (λ b. is_in xs n || b) h ∙ or-true (is_in xs n)

pub is_one : (x n : ℕ) → IsTrue (is_in (x ∷ []) n) → x ≡ n
is_one x n h = ⊎_elim (λ e. eqb-true x n e) (λ e. absurd (false≢true e)) (or_cases (nat_eq x n) false h)

pub one_is_in : (x n : ℕ) → x ≡ n → IsTrue (is_in (x ∷ []) n)
one_is_in x n e = ap (λ b. b || false) (eq-eqb x n e)

-- the parts of a test that has a bound
pub within_parts : (size : ℕ) (list : List ℕ) (n : ℕ) → IsTrue (is_within size list n) → IsTrue (is_in list n) × (n < size)
within_parts size list n h = let parts = and_parts (is_in list n) (ltb n size) h in (parts.0, ltb-true n size parts.1)

pub within : (size : ℕ) (list : List ℕ) (n : ℕ) → IsTrue (is_in list n) → n < size → IsTrue (is_within size list n)
within size list n h below = and_from (is_in list n) (ltb n size) h (lt-ltb n size below)

-- what is marked has a number that there is
pub marked_below : (marks : List Bool) (n : ℕ) → IsTrue (is_marked marks n) → n < length marks
marked_below marks n h =
    ⊎_elim (λ below. below) (λ past. absurd (false≢true (sym (get_or-eq_default marks false {n = n} past) ∙ h))) (cases_lt n (length marks))

marked_fewer : (marks : List Bool) (n : ℕ) → n < length marks → is_marked marks n ≡ false → count_by not (set marks n true) + 1 ≡ count_by not marks
marked_fewer marks n below h =
    let f : Bool → ℕ = λ b. cond (not b) 1 0 in
    let no_more : count_by not marks + 0 ≡ count_by not marks = omega arith in
    ap (λ b. count_by not (set marks n true) + f b) (sym h) ∙ sum_by-set f marks n true false below ∙ no_more

pub reached_none : (marks : List Bool) (waiting : List ℕ) → Reached [] marks waiting marks waiting
reached_none marks waiting = record {
  size = refl;
  kept = λ n h. h;
  reached = λ n h. absurd (false≢true h);
  only = λ n h. inl h;
  stays = λ n h. h;
  waits = λ n h. inl h;
  work = refl;
}

-- nothing is to be marked
pub reached_held : (marks : List Bool) (waiting : List ℕ) (x : ℕ) → (x < length marks → IsTrue (is_marked marks x)) → Reached (x ∷ []) marks waiting marks waiting
reached_held marks waiting x held = record {
  size = refl;
  kept = λ n h. h;
  reached = λ n h.
      let parts = within_parts (length marks) (x ∷ []) n h in
      let same : x ≡ n = is_one x n parts.0 in
      subst (λ (m : ℕ). IsTrue (is_marked marks m)) same (held (subst (λ (m : ℕ). m < length marks) (sym same) parts.1));
  only = λ n h. inl h;
  stays = λ n h. h;
  waits = λ n h. inl h;
  work = refl;
}

set_here : (marks : List Bool) (x n : ℕ) → x < length marks → x ≡ n → IsTrue (is_marked (set marks x true) n)
set_here marks x n below same = subst (λ (m : ℕ). IsTrue (is_marked (set marks x true) m)) same (get_or-set_same marks x true false below)

-- one crate is marked, and waits
pub reached_one : (marks : List Bool) (waiting : List ℕ) (x : ℕ) → x < length marks → is_marked marks x ≡ false
    → Reached (x ∷ []) marks waiting (set marks x true) (waiting ++ x ∷ [])
reached_one marks waiting x below unmarked = record {
  size = length-set marks x true;
  kept = λ n h. ⊎_elim
      (λ same. set_here marks x n below (sym same))
      (λ other. get_or-set_other marks x n true false other ∙ h)
      (cases_eq n x);
  reached = λ n h. set_here marks x n below (is_one x n (within_parts (length marks) (x ∷ []) n h).0);
  only = λ n h. ⊎_elim
      (λ same. inr (
        within (length marks) (x ∷ []) n (one_is_in x n (sym same)) (subst (λ (m : ℕ). m < length marks) (sym same) below),
        in_back waiting (x ∷ []) n (one_is_in x n (sym same)),
      ))
      (λ other. inl (sym (get_or-set_other marks x n true false other) ∙ h))
      (cases_eq n x);
  stays = λ n h. in_front waiting (x ∷ []) n h;
  waits = λ n h. ⊎_elim (λ a. inl a) (λ b. inr (set_here marks x n below (is_one x n b))) (in_either waiting (x ∷ []) n h);
  work = let fewer = marked_fewer marks x below unmarked in let more = length-append waiting (x ∷ []) in omega (arith, fewer, more);
}

-- one more crate of the row
pub reached_more : (row : List ℕ) (x : ℕ) (marks : List Bool) (waiting : List ℕ) (mid : List Bool) (then : List ℕ) (new : List Bool) (now : List ℕ)
    → Reached row marks waiting mid then → Reached (x ∷ []) mid then new now → Reached (row ++ x ∷ []) marks waiting new now
reached_more row x marks waiting mid then new now one two = record {
  size = two.size ∙ one.size;
  kept = λ n h. two.kept n (one.kept n h);
  reached = λ n h.
      let parts = within_parts (length marks) (row ++ x ∷ []) n h in
      ⊎_elim
      (λ a. two.kept n (one.reached n (within (length marks) row n a parts.1)))
      (λ b. two.reached n (within (length mid) (x ∷ []) n b (subst (λ (k : ℕ). n < k) (sym one.size) parts.1)))
      (in_either row (x ∷ []) n parts.0);
  only = λ n h. ⊎_elim
      (λ a. ⊎_elim
      (λ was. inl was)
      (λ new. let parts = within_parts (length marks) row n new.0 in
      inr (within (length marks) (row ++ x ∷ []) n (in_front row (x ∷ []) n parts.0) parts.1, two.stays n new.1))
      (one.only n a))
      (λ new. let parts = within_parts (length mid) (x ∷ []) n new.0 in
      inr (within (length marks) (row ++ x ∷ []) n (in_back row (x ∷ []) n parts.0) (subst (λ (k : ℕ). n < k) one.size parts.1), new.1))
      (two.only n h);
  stays = λ n h. two.stays n (one.stays n h);
  waits = λ n h. ⊎_elim
      (λ a. ⊎_elim (λ was. inl was) (λ marked. inr (two.kept n marked)) (one.waits n a))
      (λ b. inr b)
      (two.waits n h);
  work = two.work ∙ one.work;
}

-- what a walk keeps holds where the chosen crates alone are marked
pub walk_begun : (depends : ℕ → ℕ → Bool) (starts : List ℕ) (blank : List Bool) (marks : List Bool) (waiting : List ℕ)
    → ((n : ℕ) → is_marked blank n ≡ false) → Reached starts blank [] marks waiting
    → Walked depends (is_within (length blank) starts) marks waiting
walk_begun depends starts blank marks waiting none step = record {
  begun = λ n h. step.reached n h;
  affected = λ n h. ⊎_elim (λ a. absurd (false≢true (sym (none n) ∙ a))) (λ new. ([], new.0)) (step.only n h);
  waits = λ n h. ⊎_elim (λ a. absurd (false≢true a)) (λ b. b) (step.waits n h);
  closed = λ n dep marked h. ⊎_elim (λ a. absurd (false≢true (sym (none dep) ∙ a))) (λ new. inr new.1) (step.only dep marked);
}

walked_on : (rows : List (List ℕ)) (chosen : ℕ → Bool) (marks : List Bool) (waiting : List ℕ) (x : ℕ) (new : List Bool) (now : List ℕ)
    → length marks ≡ length rows → Walked (depends_by rows) chosen marks (waiting ++ x ∷ []) → Reached (row_at rows x) marks waiting new now
    → Walked (depends_by rows) chosen new now
walked_on rows chosen marks waiting x new now size was step =
    let x_is_affected = was.affected x (was.waits x (in_back waiting (x ∷ []) x (one_is_in x x refl))) in
    record {
      begun = λ n h. step.kept n (was.begun n h);
      affected = λ n h. ⊎_elim
          (λ a. was.affected n a)
          (λ more. (x ∷ x_is_affected.0, (subst (λ (k : ℕ). IsTrue (is_within k (row_at rows x) n)) size more.0, x_is_affected.1)))
          (step.only n h);
      waits = λ n h. ⊎_elim (λ a. step.kept n (was.waits n (in_front waiting (x ∷ []) n a))) (λ b. b) (step.waits n h);
      closed = λ n dep marked h. ⊎_elim
          (λ a. ⊎_elim
          (λ m. inl (step.kept n m))
          (λ w. ⊎_elim
          (λ still. inr (step.stays dep still))
          (λ one. inl (step.reached n (subst (λ (k : ℕ). IsTrue (is_within k (row_at rows x) n)) (sym size)
          (subst (λ (d : ℕ). IsTrue (depends_by rows n d)) (sym (is_one x dep one)) h))))
          (in_either waiting (x ∷ []) dep w))
          (was.closed n dep a h))
          (λ more. inr more.1)
          (step.only dep marked);
    }

pub went_nowhere : (rows : List (List ℕ)) (marks : List Bool) (waiting : List ℕ) → WentOn rows marks waiting marks waiting
went_nowhere rows marks waiting = record { size = refl; walked = λ chosen size was. was }

-- a crate no longer waits, and its row is marked
pub went_on : (rows : List (List ℕ)) (marks : List Bool) (waiting : List ℕ) (mid : List Bool) (before left : List ℕ) (x : ℕ) (new : List Bool) (now : List ℕ)
    → WentOn rows marks waiting mid before → before ≡ left ++ x ∷ [] → Reached (row_at rows x) mid left new now → WentOn rows marks waiting new now
went_on rows marks waiting mid before left x new now was is step = record {
  size = step.size ∙ was.size;
  walked = λ chosen size begun. walked_on rows chosen mid left x new now (was.size ∙ size)
      (subst (λ (w : List ℕ). Walked (depends_by rows) chosen mid w) is (was.walked chosen size begun)) step;
}

-- a chain leads to what is marked only from what is marked
along : (depends : ℕ → ℕ → Bool) (chosen : ℕ → Bool) (marks : List Bool) → Walked depends chosen marks []
    → (n : ℕ) (chain : List ℕ) → IsChain depends chosen n chain → IsTrue (is_marked marks n)
along depends chosen marks done n [] h = done.begun n h
along depends chosen marks done n (next ∷ rest) h =
    ⊎_elim (λ m. m) (λ w. absurd (false≢true w)) (done.closed n next (along depends chosen marks done next rest h.1) h.0)

none_marked : (size n : ℕ) → is_marked (replicate size false) n ≡ false
none_marked zero n = refl
none_marked (suc size) zero = refl
none_marked (suc size) (suc n) = none_marked size n

pub walk_done : (depends : ℕ → ℕ → Bool) (chosen : ℕ → Bool) (marks : List Bool) → Walked depends chosen marks [] → MarksAffected depends chosen marks
walk_done depends chosen marks done n = (done.affected n, λ a. along depends chosen marks done n a.0 a.1)

-- a walk from marks of none, as far as nothing waits
pub all_walked : (rows : List (List ℕ)) (starts : List ℕ) (blank marks : List Bool) (waiting : List ℕ) (new : List Bool)
    → blank ≡ replicate (length rows) false → Reached starts blank [] marks waiting → WentOn rows marks waiting new []
    → MarksAffected (depends_by rows) (is_within (length rows) starts) new
all_walked rows starts blank marks waiting new is begun went =
    let size : length blank ≡ length rows = ap length is ∙ length-replicate (length rows) false in
    let none = λ (n : ℕ). ap (λ (l : List Bool). is_marked l n) is ∙ none_marked (length rows) n in
    let first = walk_begun (depends_by rows) starts blank marks waiting none begun in
    let chosen = is_within (length blank) starts in
    let last = went.walked chosen (begun.size ∙ size) first in
    subst (λ (k : ℕ). MarksAffected (depends_by rows) (is_within k starts) new) size (walk_done (depends_by rows) chosen new last)
