-- What waits in a queue is the last request that wasn't handed out, and it has one operation in progress at most.
use Rattle.std.proofs.Common.{◌≡◌, ℕ, ◌+◌, Bool, true, false, List, [], ◌∷◌, ◌++◌, ◌≤◌, length, length-append, refl, ap, sym, subst, ◌∙◌, ◌↔◌, ⊎_elim, arith}
use Rattle.std.specs.Prelude.{Option, None, Some, cond, option_to_list}
use Rattle.std.proofs.lemmas.Bool.{cases_Bool, cond-true, cond-false}
use Rattle.op_board.specs.Queue.{Queue, starts, after_start}
use Rattle.op_board.specs.QueueRuns.{QueueAct, queue_after, IsQueueRun, handed_out, ended, running, last_output, HasNoRequest, IsLastRequest}
use Rattle.op_board.specs.QueueRuns.QueueAct.{Requests, Starts, Ends}

inside : {X : Type 0} (x y : X) → Some x ≡ Some y → x ≡ y
inside x y e = cc

not_one : ◌≡◌ {A = ℕ} 1 0 → ⊥
not_one e = omega (arith, e)

module _ {A O : Type 0} where
  -- a start hands nothing out where an operation is in progress
  started_busy : (q : Queue A O) (hs : List (List ℕ × A)) → q.in_progress ≡ true → option_to_list (starts q) ++ hs ≡ hs
  started_busy q hs busy = ap (λ o. option_to_list o ++ hs) (cond-true q.in_progress None q.waiting busy)

  waits_on : (q : Queue A O) (request : List ℕ × A) → (after_start q).waiting ≡ Some request → (q.in_progress ≡ true) × (q.waiting ≡ Some request)
  waits_on q request is =
      ⊎_elim
      (λ busy. (busy, sym (ap (λ (r : Queue A O). r.waiting) (cond-true q.in_progress q _ busy)) ∙ is))
      (λ idle. let e = sym (ap (λ (r : Queue A O). r.waiting) (cond-false q.in_progress q _ idle)) ∙ is in absurd cc)
      (cases_Bool q.in_progress)

  waiting_is : (request : List ℕ × A) (run : List (QueueAct A O)) → (queue_after run).waiting ≡ Some request → IsLastRequest request run
  waiting_is request [] is = absurd cc
  waiting_is request (Requests r ∷ before) is = record {
    since = [];
    before = before;
    split = λ i. Requests (inside r request is i) ∷ before;
    last = tt;
    kept = refl;
  }
  waiting_is request (Starts ∷ before) is =
      let parts = waits_on (queue_after before) request is in
      let k = waiting_is request before parts.1 in
      record {
        since = Starts ∷ k.since;
        before = k.before;
        split = ap (λ run. Starts ∷ run) k.split;
        last = k.last;
        kept = started_busy (queue_after before) (handed_out before) parts.0 ∙ k.kept;
      }
  waiting_is request (Ends output ∷ before) is =
      let k = waiting_is request before is in
      record { since = Ends output ∷ k.since; before = k.before; split = ap (λ run. Ends output ∷ run) k.split; last = k.last; kept = k.kept }

  -- a longer run handed out no fewer requests
  longer : (since before : List (QueueAct A O)) → length (handed_out before) ≤ length (handed_out (since ++ before))
  longer [] before = omega arith
  longer (Requests r ∷ since) before = longer since before
  longer (Starts ∷ since) before =
      omega (arith, longer since before, length-append (option_to_list (starts (queue_after (since ++ before)))) (handed_out (since ++ before)))
  longer (Ends output ∷ since) before = longer since before

  waits_since : (request : List ℕ × A) (since before : List (QueueAct A O)) → HasNoRequest since
      → length (handed_out (since ++ Requests request ∷ before)) ≡ length (handed_out before)
      → (queue_after (since ++ Requests request ∷ before)).waiting ≡ Some request
  waits_since request [] before last same = refl
  waits_since request (Requests r ∷ since) before last same = absurd last
  waits_since request (Starts ∷ since) before last same =
      let tail = since ++ Requests request ∷ before in
      let q = queue_after tail in
      let split = length-append (option_to_list (starts q)) (handed_out tail) in
      let low = longer since (Requests request ∷ before) in
      let kept : length (handed_out tail) ≡ length (handed_out before) = omega (arith, same, split, low) in
      let none : length (option_to_list (starts q)) ≡ 0 = omega (arith, same, split, low) in
      let is = waits_since request since before last kept in
      ⊎_elim
      (λ busy. ap (λ (r : Queue A O). r.waiting) (cond-true q.in_progress q _ busy) ∙ is)
      (λ idle. absurd (not_one (sym (ap (λ o. length (option_to_list o)) (cond-false q.in_progress None q.waiting idle ∙ is)) ∙ none)))
      (cases_Bool q.in_progress)
  waits_since request (Ends output ∷ since) before last same = waits_since request since before last same

  pub waits : (run : List (QueueAct A O)) (request : List ℕ × A) → ((queue_after run).waiting ≡ Some request) ↔ IsLastRequest request run
  waits run request = (
    λ is. waiting_is request run is,
    λ k. subst (λ run. (queue_after run).waiting ≡ Some request) (sym k.split)
        (waits_since request k.since k.before k.last (ap length (sym (ap handed_out k.split) ∙ k.kept))),
  )

  start_last : (q : Queue A O) → (after_start q).last ≡ q.last
  start_last q =
      ⊎_elim
      (λ busy. ap (λ (r : Queue A O). r.last) (cond-true q.in_progress q _ busy))
      (λ idle. ap (λ (r : Queue A O). r.last) (cond-false q.in_progress q _ idle))
      (cases_Bool q.in_progress)

  pub last_is : (run : List (QueueAct A O)) → (queue_after run).last ≡ last_output run
  last_is [] = refl
  last_is (Requests r ∷ before) = last_is before
  last_is (Starts ∷ before) = start_last (queue_after before) ∙ last_is before
  last_is (Ends output ∷ before) = refl

  started : (w : Option (List ℕ × A)) (b : Bool) (o : Option O) (hs : List (List ℕ × A)) (n : ℕ) → length hs ≡ n + cond b 1 0
      → length (option_to_list (starts {O = O} (record { waiting = w; in_progress = b; last = o })) ++ hs) ≡ n + running (after_start (record { waiting = w; in_progress = b; last = o }))
  started w true o hs n is = is
  started None false o hs n is = is
  started (Some r) false o hs n is = omega (arith, is)

  pub one_runs : (run : List (QueueAct A O)) → IsQueueRun run → length (handed_out run) ≡ ended run + running (queue_after run)
  one_runs [] lawful = refl
  one_runs (Requests r ∷ before) lawful = one_runs before lawful
  one_runs (Starts ∷ before) lawful =
      let q = queue_after before in started q.waiting q.in_progress q.last (handed_out before) (ended before) (one_runs before lawful)
  one_runs (Ends output ∷ before) lawful =
      let is = one_runs before lawful.1 ∙ ap (λ n. ended before + n) (cond-true (queue_after before).in_progress 1 0 lawful.0) in
      omega (arith, is)
