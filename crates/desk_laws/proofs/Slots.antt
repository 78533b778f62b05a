-- What holds a request: the jobs of its slots, where jobs come back and are handed over.
use Rattle.std.proofs.Common.{◌≡◌, ◌≢◌, ℕ, ◌+◌, ◌≤◌, List, [], ◌∷◌, refl, sym, ap, ◌∙◌, subst, arith}
use Rattle.std.proofs.lemmas.List.Elements.{All-cons, All-contains, All-nil, Contains-push}
use Rattle.std.specs.Prelude.{Contains, None, Some}
use Rattle.std.specs.FinMap as map
use Rattle.session_port.specs.Jobs.{Jobs}
use Rattle.session_port.specs.Kinds.{slot_at, slot_of, ticket_of_job}
use Rattle.session_port.proofs.Facts.{slot-ticket, ticket-slot}
use Rattle.session_port.specs.declared.job.Job.{Job}
use Rattle.session_port.specs.declared.kinds.Slot.{Slot}
use Rattle.desk.specs.Folds.{HasOneJob, IsHeld}
use Rattle.desk_laws.specs.Invariant.{IsHeldByOne}
use Rattle.desk_laws.proofs.Keyed.{by_key, get-insert_same, get-insert_other, get-remove_same, get-remove_other}
use Rattle.desk_laws.proofs.Orders.{by_number_total, by_number_same}

some-same : {X : Type 0} (x y : X) → Some x ≡ Some y → x ≡ y
some-same x y e = cc

none-some : {X P : Type 0} (x : X) → None ≡ Some x → P
none-some x e = absurd cc

-- ---- slots

same-part : (ticket part other : ℕ) → Some (slot_at ticket part) ≡ Some (slot_at ticket other) → part ≡ other
same-part ticket part other is = ap (λ (s : Slot). s.part) (some-same (slot_at ticket part) (slot_at ticket other) is)

-- one part is left
one-left : (part : ℕ) → Contains (part ∷ []) part
one-left part = Contains-push [] part

only-left : (part other : ℕ) → Contains (part ∷ []) other → other ≡ part
only-left part other left = All-contains (λ k. k ≡ part) (part ∷ []) other (All-cons (λ k. k ≡ part) part [] refl (All-nil (λ k. k ≡ part))) left

-- ---- jobs out

-- jobs out have numbers up to this one
abbrev pub AreLow : ℕ → Jobs → Type 0
AreLow last_job js = (n : ℕ) (job : Job) → map.get js n ≡ Some job → n ≤ last_job

-- what is out without a job was out before
pub still-out : (n m : ℕ) (js : Jobs) (job : Job) → map.get (map.remove js n) m ≡ Some job → map.get js m ≡ Some job
still-out n m js job there = by_key by_number_total by_number_same m n
    (λ same. none-some job (sym (get-remove_same by_number_total by_number_same js n) ∙ ap (map.get (map.remove js n)) (sym same) ∙ there))
    (λ elsewhere. sym (get-remove_other by_number_total by_number_same js n m elsewhere) ∙ there)

-- what is out with one more job is this job, or was out before
pub new-out : (last_job : ℕ) (job : Job) (js : Jobs) (n : ℕ) (found : Job) → n ≡ last_job + 1 → map.get (map.insert js (last_job + 1) job) n ≡ Some found
    → job ≡ found
new-out last_job job js n found same there =
    some-same job found (sym (get-insert_same by_number_total by_number_same js (last_job + 1) job) ∙ ap (map.get (map.insert js (last_job + 1) job)) (sym same)
    ∙ there)

pub was-out : (last_job : ℕ) (job : Job) (js : Jobs) (n : ℕ) (found : Job) → n ≢ last_job + 1 → map.get (map.insert js (last_job + 1) job) n ≡ Some found
    → map.get js n ≡ Some found
was-out last_job job js n found other there = sym (get-insert_other by_number_total by_number_same js (last_job + 1) job n other) ∙ there

-- ---- one job for a slot

-- a job of another slot came back
one-without : (slot : Slot) (n : ℕ) (found : Job) (js : Jobs) → map.get js n ≡ Some found → slot_of found.kind ≢ Some slot → HasOneJob slot js
    → HasOneJob slot (map.remove js n)
one-without slot n found js is apart h = record {
  number = h.number;
  job = h.job;
  is_out = get-remove_other by_number_total by_number_same js n h.number
      (λ same. apart (sym (ap (λ (j : Job). slot_of j.kind) (some-same h.job found (sym h.is_out ∙ ap (map.get js) same ∙ is))) ∙ h.holds)) ∙ h.is_out;
  holds = h.holds;
  only = λ other holder there is_for. h.only other holder (still-out n other js holder there) is_for;
}

-- a job of another slot, or of none, was handed over
one-beside : (slot : Slot) (last_job : ℕ) (job : Job) (js : Jobs) → AreLow last_job js → slot_of job.kind ≢ Some slot → HasOneJob slot js
    → HasOneJob slot (map.insert js (last_job + 1) job)
one-beside slot last_job job js low apart h = record {
  number = h.number;
  job = h.job;
  is_out = let le = low h.number h.job h.is_out in get-insert_other by_number_total by_number_same js (last_job + 1) job h.number (λ same. omega arith)
      ∙ h.is_out;
  holds = h.holds;
  only = λ other holder there is_for. by_key by_number_total by_number_same other (last_job + 1)
      (λ same. absurd (apart (ap (λ (j : Job). slot_of j.kind) (new-out last_job job js other holder same there) ∙ is_for)))
      (λ elsewhere. h.only other holder (was-out last_job job js other holder elsewhere there) is_for);
}

-- a job was handed over for a slot of which none was out
one-new : (slot : Slot) (last_job : ℕ) (job : Job) (js : Jobs) → slot_of job.kind ≡ Some slot
    → ((n : ℕ) (found : Job) → map.get js n ≡ Some found → slot_of found.kind ≢ Some slot)
    → HasOneJob slot (map.insert js (last_job + 1) job)
one-new slot last_job job js its none = record {
  number = last_job + 1;
  job = job;
  is_out = get-insert_same by_number_total by_number_same js (last_job + 1) job;
  holds = its;
  only = λ other holder there is_for. by_key by_number_total by_number_same other (last_job + 1) (λ same. same)
      (λ elsewhere. absurd (none other holder (was-out last_job job js other holder elsewhere there) is_for));
}

-- ---- the jobs of a request

-- a job of another request came back
pub held-without : (ticket n : ℕ) (parts : List ℕ) (found : Job) (js : Jobs) → map.get js n ≡ Some found → ticket_of_job found.kind ≢ Some ticket
    → IsHeld ticket parts js → IsHeld ticket parts (map.remove js n)
held-without ticket n parts found js is apart h = record {
  part = h.part;
  is_left = h.is_left;
  each = λ part left. one-without (slot_at ticket part) n found js is (λ its. apart (slot-ticket found.kind ticket part its)) (h.each part left);
  no_other = λ m job part there its. h.no_other m job part (still-out n m js job there) its;
}

-- a job of another request, or of none, was handed over
pub held-beside : (ticket : ℕ) (parts : List ℕ) (last_job : ℕ) (job : Job) (js : Jobs) → AreLow last_job js → ticket_of_job job.kind ≢ Some ticket
    → IsHeld ticket parts js → IsHeld ticket parts (map.insert js (last_job + 1) job)
held-beside ticket parts last_job job js low apart h = record {
  part = h.part;
  is_left = h.is_left;
  each = λ part left. one-beside (slot_at ticket part) last_job job js low (λ its. apart (slot-ticket job.kind ticket part its)) (h.each part left);
  no_other = λ n found part there its. by_key by_number_total by_number_same n (last_job + 1)
      (λ same. absurd (apart (slot-ticket job.kind ticket part (ap (λ (j : Job). slot_of j.kind) (new-out last_job job js n found same there) ∙ its))))
      (λ elsewhere. h.no_other n found part (was-out last_job job js n found elsewhere there) its);
}

-- a job was handed over for the one part of a request of which none was out
pub held-first : (ticket last_job : ℕ) (job : Job) (js : Jobs) → slot_of job.kind ≡ Some (slot_at ticket 0)
    → ((n : ℕ) (found : Job) → map.get js n ≡ Some found → ticket_of_job found.kind ≢ Some ticket)
    → IsHeld ticket (0 ∷ []) (map.insert js (last_job + 1) job)
held-first ticket last_job job js its none = record {
  part = 0;
  is_left = one-left 0;
  each = λ part left. subst (λ k. HasOneJob (slot_at ticket k) (map.insert js (last_job + 1) job)) (sym (only-left 0 part left))
      (one-new (slot_at ticket 0) last_job job js its (λ n found there is_for. none n found there (slot-ticket found.kind ticket 0 is_for)));
  no_other = λ n found part there is_for. by_key by_number_total by_number_same n (last_job + 1)
      (λ same. subst (Contains (0 ∷ [])) (same-part ticket 0 part
      (sym its ∙ ap (λ (j : Job). slot_of j.kind) (new-out last_job job js n found same there) ∙ is_for)) (one-left 0))
      (λ elsewhere. absurd (none n found (was-out last_job job js n found elsewhere there) (slot-ticket found.kind ticket part is_for)));
}

-- a job came back, and another one was handed over for its slot
pub held-again : (ticket part : ℕ) (parts : List ℕ) (last_job n : ℕ) (found job : Job) (js : Jobs) → AreLow last_job js → map.get js n ≡ Some found
    → slot_of found.kind ≡ Some (slot_at ticket part)
    → slot_of job.kind ≡ Some (slot_at ticket part) → IsHeld ticket parts js → IsHeld ticket parts (map.insert (map.remove js n) (last_job + 1) job)
held-again ticket part parts last_job n found job js low is was_for its h = record {
  part = h.part;
  is_left = h.is_left;
  each = λ k k_left. by_key by_number_total by_number_same k part
      (λ same. subst (λ p. HasOneJob (slot_at ticket p) (map.insert (map.remove js n) (last_job + 1) job)) (sym same)
      (one-new (slot_at ticket part) last_job job (map.remove js n) its gone))
      (λ other. one-beside (slot_at ticket k) last_job job (map.remove js n) (λ m j there. low m j (still-out n m js j there))
      (λ e. other (sym (same-part ticket part k (sym its ∙ e))))
      (one-without (slot_at ticket k) n found js is (λ e. other (sym (same-part ticket part k (sym was_for ∙ e)))) (h.each k k_left)));
  no_other = λ m j k there is_for. by_key by_number_total by_number_same m (last_job + 1)
      (λ same. subst (Contains parts) (same-part ticket part k
      (sym its ∙ ap (λ (x : Job). slot_of x.kind) (new-out last_job job (map.remove js n) m j same there) ∙ is_for)) left)
      (λ elsewhere. h.no_other m j k (still-out n m js j (was-out last_job job (map.remove js n) m j elsewhere there)) is_for);
}
  where
    left : Contains parts part
    left = h.no_other n found part is was_for

    gone : (m : ℕ) (j : Job) → map.get (map.remove js n) m ≡ Some j → slot_of j.kind ≢ Some (slot_at ticket part)
    gone m j there is_for =
        let one = h.each part left in
        let same : m ≡ n = one.only m j (still-out n m js j there) is_for ∙ sym (one.only n found is was_for) in
        none-some j (sym (get-remove_same by_number_total by_number_same js n) ∙ ap (map.get (map.remove js n)) (sym same) ∙ there)

-- a job out for a request is for one of its parts that are left
pub is-left : (ticket n : ℕ) (parts : List ℕ) (found : Job) (js : Jobs) → map.get js n ≡ Some found → ticket_of_job found.kind ≡ Some ticket
    → IsHeld ticket parts js
    → (part : ℕ) × (slot_of found.kind ≡ Some (slot_at ticket part)) × Contains parts part
is-left ticket n parts found js is its h = let slot = ticket-slot found.kind ticket its in (slot.0, slot.1, h.no_other n found slot.0 is slot.1)

-- where part 0 alone is left, it is for this
pub is-first : (ticket n : ℕ) (found : Job) (js : Jobs) → map.get js n ≡ Some found → ticket_of_job found.kind ≡ Some ticket → IsHeld ticket (0 ∷ []) js
    → slot_of found.kind ≡ Some (slot_at ticket 0)
is-first ticket n found js is its h = let k = is-left ticket n (0 ∷ []) found js is its h in k.1 ∙ ap (λ part. Some (slot_at ticket part)) (only-left 0 k.0 k.2)

-- a request of which one part is left has one job out
pub held-by_one : (ticket part : ℕ) (jobs : Jobs) → IsHeld ticket (part ∷ []) jobs → IsHeldByOne ticket jobs
held-by_one ticket part jobs h = record {
  number = one.number;
  job = one.job;
  is_out = one.is_out;
  holds = slot-ticket one.job.kind ticket part one.holds;
  only = λ other holder there is_for.
      let its = ticket-slot holder.kind ticket is_for in
      one.only other holder there (its.1 ∙ ap (λ k. Some (slot_at ticket k)) (only-left part its.0 (h.no_other other holder its.0 there its.1)));
}
  where
    one : HasOneJob (slot_at ticket part) jobs
    one = h.each part (one-left part)
