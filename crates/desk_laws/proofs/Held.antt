-- A row keeps what holds of a desk, and answers each request once.
use Rattle.std.proofs.Common.{◌≡◌, ◌≢◌, ℕ, ◌+◌, ◌<◌, ◌≤◌, List, [], ◌∷◌, ◌++◌, length, Bool, true, false, refl, sym, ap, ◌∙◌, subst, arith, append-nil, inl}
use Rattle.std.proofs.Common.{inr}
use Rattle.std.specs.Prelude.{Option, None, Some, is_some, option_and_then, if◌then◌else◌}
use Rattle.std.specs.FinMap as map
use Rattle.lsp_frame.specs.Pending.{Pending, id_of, ticket_of as ticket_with, is_pending, registered, completed, closed, closed_at, none_pending}
use Rattle.lsp_frame.specs.declared.message.RequestId.{RequestId}
use Rattle.lsp_frame.specs.declared.message.Request.{Request}
use Rattle.lsp_frame.specs.declared.message.Response.{Response}
use Rattle.serde_json.specs.Data.{Data}
use Rattle.lsp_frame.proofs.InStep.{none-distinct, registered-distinct, completed-distinct, completed-closed, closed-registered, ticket_of-is, is_pending-found}
use Rattle.lsp_frame.proofs.InStep.{id_of-registered}
use Rattle.method_table.specs.declared.class.PoolClass.{PoolClass}
use Rattle.method_table.specs.declared.row_id.RowId.{RowId}
use Rattle.session_port.specs.Jobs.{Jobs, final_of, fitting_job, jobs_after}
use Rattle.session_port.specs.Kinds.{slot_at, slot_of, ticket_of_job}
use Rattle.session_port.proofs.Facts.{ends-of_slot, slot-ticket, ticket-slot}
use Rattle.session_port.specs.Record.{with_jobs}
use Rattle.session_port.specs.declared.event.TaskMsg.{TaskMsg}
use Rattle.session_port.specs.declared.job.Job.{Job}
use Rattle.session_port.specs.declared.job.JobKind.TheVariants.{Request as RequestJob}
use Rattle.session_port.specs.declared.job.JobResult.{JobResult}
use Rattle.desk.specs.Desk.{Desk, new_desk, waiting_for}
use Rattle.desk.specs.Folds.{AreHeld, IsHeld, AreAnswers, AnswersOnce, closed_by, closed_with, desk_past, pending_after}
use Rattle.desk.specs.Meaning.{Meaning}
use Rattle.desk.specs.Reactions.{Reaction, responses_of, silent, says, hands_over, new_row, request_row, cancel_row, ticket_row, final_row, fitting_row}
use Rattle.desk.specs.Reactions.{message_row}
use Rattle.desk.specs.Replies.{already_pending, canceled_by_client, finished_reply}
use Rattle.desk.specs.Scene.{Scene}
use Rattle.desk.specs.Slots.{parts_left, unreported}
use Rattle.desk_laws.specs.Invariant.{IsHeldByOne, KeepsSound, Sound, desk_then}
use Rattle.desk_laws.specs.Reacting.{Reacts}
use Rattle.desk_laws.proofs.Appends.{with_jobs-append}
use Rattle.desk_laws.proofs.Fitting.{after_message-going, after_message-none, after_message-some, fit-fits}
use Rattle.desk_laws.proofs.Keyed.{by_key, get-insert_other, get-remove_same, get-remove_other, insert-remove}
use Rattle.desk_laws.proofs.Orders.{by_number_total, by_number_same}
use Rattle.desk_laws.proofs.Reacting.{new-reacts, result-reacts}
use Rattle.desk_laws.proofs.Slots.{held-again, held-beside, held-by_one, held-first, held-without, is-first, new-out, still-out, was-out}

some-same : {X : Type 0} (x y : X) → Some x ≡ Some y → x ≡ y
some-same x y e = cc

none-some : {X P : Type 0} (x : X) → None ≡ Some x → P
none-some x e = absurd cc

-- a desk of these parts
abbrev pub desk_of : ℕ → Pending → Jobs → ℕ → Desk
desk_of turns p js last_job = record { turns = turns; pending = p; jobs = js; last_job = last_job; shutdown = false }

abbrev pub SoundOf : ℕ → Pending → Jobs → ℕ → ℕ → Type 0
SoundOf turns p js last_job revision = Sound (desk_of turns p js last_job) revision

-- that `shutdown` was requested changes nothing of it
pub sound-parts : (desk : Desk) (revision : ℕ) → Sound desk revision → SoundOf desk.turns desk.pending desk.jobs desk.last_job revision
sound-parts desk revision s = record {
  distinct = s.distinct;
  tickets = s.tickets;
  numbers = s.numbers;
  below = s.below;
  revisions = s.revisions;
  held = s.held;
}

pub sound-whole : (desk : Desk) (revision : ℕ) → SoundOf desk.turns desk.pending desk.jobs desk.last_job revision → Sound desk revision
sound-whole desk revision s = record {
  distinct = s.distinct;
  tickets = s.tickets;
  numbers = s.numbers;
  below = s.below;
  revisions = s.revisions;
  held = s.held;
}

-- later turns, more jobs that were handed over, and a later revision
pub sound-later : (turns turns_now : ℕ) (p : Pending) (js : Jobs) (last_job handed_now revision revision_now : ℕ) → turns ≤ turns_now → last_job ≤ handed_now
    → revision ≤ revision_now
    → SoundOf turns p js last_job revision → SoundOf turns_now p js handed_now revision_now
sound-later turns turns_now p js last_job handed_now revision revision_now more given rises s = record {
  distinct = s.distinct;
  tickets = λ t id is. let h = s.tickets t id is in omega (arith, more);
  numbers = λ n job is. let h = s.numbers n job is in omega (arith, given);
  below = λ n job t is its. let h = s.below n job t is its in omega (arith, more);
  revisions = λ n job t is its. let h = s.revisions n job t is its in omega (arith, rises);
  held = s.held;
}

-- a turn went by
pub sound-next : (turns : ℕ) (p : Pending) (js : Jobs) (last_job revision : ℕ) → SoundOf turns p js last_job revision
    → SoundOf (turns + 1) p js (last_job + 0) revision
sound-next turns p js last_job revision s = sound-later turns (turns + 1) p js last_job (last_job + 0) revision revision (omega arith) (omega arith) (omega arith) s

pub sound-stays : (turns : ℕ) (p : Pending) (js : Jobs) (last_job revision : ℕ) → SoundOf turns p js last_job revision → SoundOf turns p js (last_job + 0) revision
sound-stays turns p js last_job revision s = sound-later turns turns p js last_job (last_job + 0) revision revision (omega arith) (omega arith) (omega arith) s

-- no request of the next turn's number waits
ticket-free : (turns : ℕ) (p : Pending) (o : Option RequestId) → map.get p (turns + 1) ≡ o
    → ((ticket : ℕ) (id : RequestId) → id_of ticket p ≡ Some id → ticket ≤ turns) → o ≡ None
ticket-free turns p None is below = refl
ticket-free turns p (Some id) is below = absurd (omega (arith, below (turns + 1) id is))

id-free : (o : Option ℕ) → is_some o ≡ false → o ≡ None
id-free None h = refl
id-free (Some t) h = absurd cc

-- a request that waits has the same parts left
same-left : (ticket : ℕ) (id : RequestId) (p q : Pending) (js : Jobs) → id_of ticket p ≡ Some id → id_of ticket q ≡ Some id
    → IsHeld ticket (parts_left (id_of ticket p)) js → IsHeld ticket (parts_left (id_of ticket q)) js
same-left ticket id p q js was waits h = subst (λ o. IsHeld ticket (parts_left o) js) (was ∙ sym waits) h

-- the same of two names of a ticket
same-held : (ticket other : ℕ) (parts : List ℕ) (js : Jobs) → ticket ≡ other → IsHeld other parts js → IsHeld ticket parts js
same-held ticket other parts js same h = subst (λ t. IsHeld t parts js) (sym same) h

-- the request of this ticket waits nowhere, or the job is for none
abbrev pub WaitsNowhere : Pending → Job → Type 0
WaitsNowhere p job = (ticket : ℕ) → ticket_of_job job.kind ≡ Some ticket → id_of ticket p ≡ None

-- a job came back whose request does not wait
sound-off : (turns : ℕ) (p : Pending) (js : Jobs) (last_job revision n : ℕ) (found : Job) → map.get js n ≡ Some found → WaitsNowhere p found
    → SoundOf turns p js last_job revision → SoundOf turns p (map.remove js n) last_job revision
sound-off turns p js last_job revision n found is none s = record {
  distinct = s.distinct;
  tickets = s.tickets;
  numbers = λ m job there. s.numbers m job (still-out n m js job there);
  below = λ m job t there its. s.below m job t (still-out n m js job there) its;
  revisions = λ m job t there its. s.revisions m job t (still-out n m js job there) its;
  held = λ t id waits. held-without t n (parts_left (id_of t p)) found js is (λ its. none-some id (sym (none t its) ∙ waits)) (s.held t id waits);
}

-- a job came back, and its request is closed
sound-without : (turns : ℕ) (p : Pending) (js : Jobs) (last_job revision n t : ℕ) (found : Job) (id : RequestId) → map.get js n ≡ Some found
    → ticket_of_job found.kind ≡ Some t → id_of t p ≡ Some id
    → SoundOf turns p js last_job revision → SoundOf turns (completed t p) (map.remove js n) last_job revision
unfolding completed
sound-without turns p js last_job revision n t found id is its waits s = record {
  distinct = completed-distinct t p s.distinct;
  tickets = λ u i there. s.tickets u i (still u i there).1;
  numbers = λ m job there. s.numbers m job (still-out n m js job there);
  below = λ m job u there its. s.below m job u (still-out n m js job there) its;
  revisions = λ m job u there its. s.revisions m job u (still-out n m js job there) its;
  held = λ u i there. let k = still u i there in
      same-left u i p (completed t p) (map.remove js n) k.1 there
      (held-without u n (parts_left (id_of u p)) found js is (λ same. k.0 (some-same u t (sym same ∙ its))) (s.held u i k.1));
}
  where
    still : (u : ℕ) (i : RequestId) → map.get (map.remove p t) u ≡ Some i → (u ≢ t) × (map.get p u ≡ Some i)
    still u i there = by_key by_number_total by_number_same u t
        (λ same. none-some i (sym (get-remove_same by_number_total by_number_same p t) ∙ ap (map.get (map.remove p t)) (sym same) ∙ there))
        (λ elsewhere. (elsewhere, sym (get-remove_other by_number_total by_number_same p t u elsewhere) ∙ there))

-- a request was read, and its job handed over
sound-request : (turns : ℕ) (p : Pending) (js : Jobs) (last_job revision : ℕ) (id : RequestId) (job : Job) → is_pending id p ≡ false
    → slot_of job.kind ≡ Some (slot_at (turns + 1) 0) → job.snapshot.revision ≤ revision
    → SoundOf turns p js last_job revision → SoundOf (turns + 1) (registered (turns + 1) id p) (map.insert js (last_job + 1) job) (last_job + 1) revision
unfolding registered
sound-request turns p js last_job revision id job new slot no_later s = record {
  distinct = registered-distinct (turns + 1) id p free s.distinct;
  tickets = λ t i waits. by_key by_number_total by_number_same t (turns + 1)
      (λ same. omega arith)
      (λ other. let h = s.tickets t i (sym (get-insert_other by_number_total by_number_same p (turns + 1) id t other) ∙ waits) in omega arith);
  numbers = λ n j there. by_key by_number_total by_number_same n (last_job + 1)
      (λ same. omega arith)
      (λ other. let h = s.numbers n j (was n j other there) in omega arith);
  below = λ n j t there is_for. by_key by_number_total by_number_same n (last_job + 1)
      (λ same. let e : t ≡ turns + 1 = its_ticket n j t same there is_for in omega arith)
      (λ other. let h = s.below n j t (was n j other there) is_for in omega arith);
  revisions = λ n j t there is_for. by_key by_number_total by_number_same n (last_job + 1)
      (λ same. subst (λ (k : Job). k.snapshot.revision ≤ revision) (it_is n j same there) no_later)
      (λ other. s.revisions n j t (was n j other there) is_for);
  held = λ t i waits. by_key by_number_total by_number_same t (turns + 1)
      (λ same. subst (λ o. IsHeld t (parts_left o) now) (sym waits) (same-held t (turns + 1) (0 ∷ []) now same
      (held-first (turns + 1) last_job job js slot
      (λ n j there is_for. let h = s.below n j (turns + 1) there is_for in absurd (omega arith)))))
      (λ other. let was_waiting : map.get p t ≡ Some i = sym (get-insert_other by_number_total by_number_same p (turns + 1) id t other) ∙ waits in
      same-left t i p (registered (turns + 1) id p) now was_waiting waits
      (held-beside t (parts_left (id_of t p)) last_job job js s.numbers (λ e. other (some-same t (turns + 1) (sym e ∙ its))) (s.held t i was_waiting)));
}
  where
    now : Jobs
    now = map.insert js (last_job + 1) job

    its : ticket_of_job job.kind ≡ Some (turns + 1)
    its = slot-ticket job.kind (turns + 1) 0 slot

    none : map.get p (turns + 1) ≡ None
    none = ticket-free turns p (map.get p (turns + 1)) refl s.tickets

    free : ticket_with id p ≡ None
    free = id-free (ticket_with id p) new

    was : (n : ℕ) (j : Job) → n ≢ last_job + 1 → map.get now n ≡ Some j → map.get js n ≡ Some j
    was n j other there = was-out last_job job js n j other there

    it_is : (n : ℕ) (j : Job) → n ≡ last_job + 1 → map.get now n ≡ Some j → job ≡ j
    it_is n j same there = new-out last_job job js n j same there

    its_ticket : (n : ℕ) (j : Job) (t : ℕ) → n ≡ last_job + 1 → map.get now n ≡ Some j → ticket_of_job j.kind ≡ Some t → t ≡ turns + 1
    its_ticket n j t same there is_for = some-same t (turns + 1) (sym is_for ∙ ap (λ (k : Job). ticket_of_job k.kind) (sym (it_is n j same there)) ∙ its)

-- a request is closed, and its job stays out
sound-shut : (turns : ℕ) (p : Pending) (js : Jobs) (last_job revision t : ℕ) (id : RequestId) → id_of t p ≡ Some id → SoundOf turns p js last_job revision
    → SoundOf turns (completed t p) js last_job revision
unfolding completed
sound-shut turns p js last_job revision t id waits s = record {
  distinct = completed-distinct t p s.distinct;
  tickets = λ u i there. s.tickets u i (still u i there);
  numbers = s.numbers;
  below = s.below;
  revisions = s.revisions;
  held = λ u i there. same-left u i p (completed t p) js (still u i there) there (s.held u i (still u i there));
}
  where
    still : (u : ℕ) (i : RequestId) → map.get (map.remove p t) u ≡ Some i → map.get p u ≡ Some i
    still u i there = by_key by_number_total by_number_same u t
        (λ same. none-some i (sym (get-remove_same by_number_total by_number_same p t) ∙ ap (map.get (map.remove p t)) (sym same) ∙ there))
        (λ elsewhere. sym (get-remove_other by_number_total by_number_same p t u elsewhere) ∙ there)

closed-cases : (turns : ℕ) (p : Pending) (js : Jobs) (last_job revision : ℕ) (id : RequestId) (o : Option ℕ) → ticket_with id p ≡ o
    → SoundOf turns p js last_job revision → SoundOf turns (closed_at o p) js last_job revision
closed-cases turns p js last_job revision id None is s = s
closed-cases turns p js last_job revision id (Some t) is s = sound-shut turns p js last_job revision t id (ticket_of-is t id p is) s

-- a request is closed by its id, and its job stays out
sound-closed : (turns : ℕ) (p : Pending) (js : Jobs) (last_job revision : ℕ) (id : RequestId) → SoundOf turns p js last_job revision
    → SoundOf turns (closed id p) js last_job revision
unfolding closed
sound-closed turns p js last_job revision id s = closed-cases turns p js last_job revision id (ticket_with id p) refl s

-- a job came back, and another one is handed over for its request
sound-again : (turns : ℕ) (p : Pending) (js : Jobs) (last_job revision n ticket : ℕ) (found job : Job) → map.get js n ≡ Some found
    → ticket_of_job found.kind ≡ Some ticket → slot_of job.kind ≡ Some (slot_at ticket 0) → job.snapshot.revision ≤ revision
    → SoundOf turns p js last_job revision → SoundOf turns p (map.insert (map.remove js n) (last_job + 1) job) (last_job + 1) revision
sound-again turns p js last_job revision n ticket found job is was_for slot no_later s = record {
  distinct = s.distinct;
  tickets = s.tickets;
  numbers = λ m j there. by_key by_number_total by_number_same m (last_job + 1)
      (λ same. omega arith)
      (λ other. let h = s.numbers m j (was m j other there) in omega arith);
  below = λ m j t there is_for. by_key by_number_total by_number_same m (last_job + 1)
      (λ same. s.below n found t is (was_for ∙ ap Some (sym (its_ticket m j t same there is_for))))
      (λ other. s.below m j t (was m j other there) is_for);
  revisions = λ m j t there is_for. by_key by_number_total by_number_same m (last_job + 1)
      (λ same. subst (λ (k : Job). k.snapshot.revision ≤ revision) (it_is m j same there) no_later)
      (λ other. s.revisions m j t (was m j other there) is_for);
  held = λ t id waits. by_key by_number_total by_number_same t ticket
      (λ same.
      let h = same-held ticket t (parts_left (id_of t p)) js (sym same) (s.held t id waits) in
      same-held t ticket (parts_left (id_of t p)) now same
      (held-again ticket 0 (parts_left (id_of t p)) last_job n found job js s.numbers is
      (is-first ticket n found js is was_for (subst (λ o. IsHeld ticket (parts_left o) js) waits h)) slot h))
      (λ other. held-beside t (parts_left (id_of t p)) last_job job (map.remove js n) (λ m j there. s.numbers m j (still-out n m js j there))
      (λ e. other (some-same t ticket (sym e ∙ its)))
      (held-without t n (parts_left (id_of t p)) found js is (λ e. other (some-same t ticket (sym e ∙ was_for))) (s.held t id waits)));
}
  where
    now : Jobs
    now = map.insert (map.remove js n) (last_job + 1) job

    its : ticket_of_job job.kind ≡ Some ticket
    its = slot-ticket job.kind ticket 0 slot

    was : (m : ℕ) (j : Job) → m ≢ last_job + 1 → map.get now m ≡ Some j → map.get js m ≡ Some j
    was m j other there = still-out n m js j (was-out last_job job (map.remove js n) m j other there)

    it_is : (m : ℕ) (j : Job) → m ≡ last_job + 1 → map.get now m ≡ Some j → job ≡ j
    it_is m j same there = new-out last_job job (map.remove js n) m j same there

    its_ticket : (m : ℕ) (j : Job) (t : ℕ) → m ≡ last_job + 1 → map.get now m ≡ Some j → ticket_of_job j.kind ≡ Some t → t ≡ ticket
    its_ticket m j t same there is_for = some-same t ticket (sym is_for ∙ ap (λ (k : Job). ticket_of_job k.kind) (sym (it_is m j same there)) ∙ its)

-- a job that is for no request is handed over
pub sound-beside : (turns : ℕ) (p : Pending) (js : Jobs) (last_job revision : ℕ) (job : Job) → ticket_of_job job.kind ≡ None → SoundOf turns p js last_job revision
    → SoundOf turns p (map.insert js (last_job + 1) job) (last_job + 1) revision
sound-beside turns p js last_job revision job none s = record {
  distinct = s.distinct;
  tickets = s.tickets;
  numbers = λ n j there. by_key by_number_total by_number_same n (last_job + 1)
      (λ same. omega arith)
      (λ other. let h = s.numbers n j (was n j other there) in omega arith);
  below = λ n j t there is_for. by_key by_number_total by_number_same n (last_job + 1) (λ same. not_its n j t same there is_for)
      (λ other. s.below n j t (was n j other there) is_for);
  revisions = λ n j t there is_for. by_key by_number_total by_number_same n (last_job + 1) (λ same. not_its n j t same there is_for)
      (λ other. s.revisions n j t (was n j other there) is_for);
  held = λ t id waits. held-beside t (parts_left (id_of t p)) last_job job js s.numbers (λ its. none-some t (sym none ∙ its)) (s.held t id waits);
}
  where
    was : (n : ℕ) (j : Job) → n ≢ last_job + 1 → map.get (map.insert js (last_job + 1) job) n ≡ Some j → map.get js n ≡ Some j
    was n j other there = was-out last_job job js n j other there

    not_its : {P : Type 0} (n : ℕ) (j : Job) (t : ℕ) → n ≡ last_job + 1 → map.get (map.insert js (last_job + 1) job) n ≡ Some j → ticket_of_job j.kind ≡ Some t → P
    not_its n j t same there is_for = none-some t (sym none ∙ ap (λ (k : Job). ticket_of_job k.kind) (new-out last_job job js n j same there) ∙ is_for)

-- at the beginning nothing waits and no job is out
pub sound-new : (revision : ℕ) → Sound new_desk revision
unfolding none_pending
sound-new revision = record {
  distinct = none-distinct;
  tickets = λ t id is. none-some id (sym (map.get-empty _ t) ∙ is);
  numbers = λ n job is. none-some job (sym (map.get-empty _ n) ∙ is);
  below = λ n job t is its. none-some job (sym (map.get-empty _ n) ∙ is);
  revisions = λ n job t is its. none-some job (sym (map.get-empty _ n) ∙ is);
  held = λ t id is. none-some id (sym (map.get-empty _ t) ∙ is);
}

-- ---- each response answers one request

pub answers-append : (xs ys : List Response) (p : Pending) → AreAnswers xs p → AreAnswers ys (closed_by xs p) → AreAnswers (xs ++ ys) p
answers-append [] ys p a b = b
answers-append (response ∷ xs) ys p (id, is, waits, rest) b =
    (id, is, waits, answers-append xs ys (closed id p) rest (subst (λ q. AreAnswers ys (closed_by xs q)) (ap (λ o. closed_with o p) is) b))

-- a ticket's request waits under its id
waits-by-id : (p : Pending) (ticket : ℕ) (id : RequestId) → id_of ticket p ≡ Some id → is_pending id p ≡ true
waits-by-id p ticket id is = is_pending-found ticket id p is

-- ---- requests

-- what a row leaves is sound, and each response answers one request
pub record Keeps (ticket : ℕ) (request : Option Request) (turns : ℕ) (desk : Desk) (jobs : Jobs) (revision : ℕ) (done : Reaction) : Type 0 where
  pub sound : SoundOf turns (pending_after ticket request (responses_of done) desk.pending) (with_jobs done.jobs jobs) (desk.last_job + length done.jobs) revision
  pub once : AnswersOnce ticket request (responses_of done) desk.pending

-- a request that was answered at once does not wait
said-sound : (turns : ℕ) (p : Pending) (js : Jobs) (last_job revision : ℕ) (id : RequestId) → is_pending id p ≡ false → SoundOf turns p js last_job revision
    → SoundOf (turns + 1) (closed id (registered (turns + 1) id p)) js (last_job + 0) revision
said-sound turns p js last_job revision id new s =
    rw (closed-registered (turns + 1) id p (ticket-free turns p (map.get p (turns + 1)) refl s.tickets) (id-free (ticket_with id p) new) s.distinct)
    (sound-next _ _ _ _ _ s)

registered-waits : (p : Pending) (ticket : ℕ) (id : RequestId) → is_pending id (registered ticket id p) ≡ true
registered-waits p ticket id = is_pending-found ticket id (registered ticket id p) (id_of-registered ticket id p)

-- the job that is handed over for a ticket
abbrev pub job_for : Scene → ℕ → PoolClass → ℕ → RowId → Data → Job
job_for scene last_job class ticket row_id params = record {
  number = last_job + 1;
  class = class;
  kind = RequestJob ticket row_id params;
  snapshot =
      scene.snapshot;
}

new-kept : (scene : Scene) (r : Request) (desk : Desk) (done : Reaction) → is_pending r.id desk.pending ≡ false
    → Reacts scene desk.last_job (desk.turns + 1) r.id done
    → SoundOf desk.turns desk.pending desk.jobs desk.last_job scene.snapshot.revision
    → Keeps (desk.turns + 1) (Some r) (desk.turns + 1) desk desk.jobs scene.snapshot.revision done
new-kept scene r desk done new (inl (response, is, says_it)) s =
    subst (Keeps (desk.turns + 1) (Some r) (desk.turns + 1) desk desk.jobs scene.snapshot.revision) (sym says_it) (record {
      sound = rw (new, is) (said-sound desk.turns desk.pending desk.jobs desk.last_job scene.snapshot.revision r.id new s);
      once = rw new (r.id, is, registered-waits desk.pending (desk.turns + 1) r.id, tt);
    })
new-kept scene r desk done new (inr (class, row_id, params, hands)) s =
    subst (Keeps (desk.turns + 1) (Some r) (desk.turns + 1) desk desk.jobs scene.snapshot.revision) (sym hands) (record {
      sound = rw new (sound-request desk.turns desk.pending desk.jobs desk.last_job scene.snapshot.revision r.id
          (job_for scene desk.last_job class (desk.turns + 1) row_id params) new refl (omega arith) s);
      once = rw new tt;
    })

request-cases : (meaning : Meaning) (scene : Scene) (r : Request) (desk : Desk) (b : Bool) → is_pending r.id desk.pending ≡ b
    → SoundOf desk.turns desk.pending desk.jobs desk.last_job scene.snapshot.revision
    → Keeps (desk.turns + 1) (Some r) (desk.turns + 1) desk desk.jobs scene.snapshot.revision
    (if b then says (already_pending r.id) else new_row meaning scene desk (desk.turns + 1) r)
request-cases meaning scene r desk true h s = record { sound = rw h (sound-next _ _ _ _ _ s); once = rw h refl }
request-cases meaning scene r desk false h s = new-kept scene r desk (new_row meaning scene desk (desk.turns + 1) r) h
    (new-reacts meaning scene desk (desk.turns + 1) r) s

-- a request that the next turn reads
pub request-kept : (meaning : Meaning) (scene : Scene) (r : Request) (desk : Desk) → Sound desk scene.snapshot.revision
    → Keeps (desk.turns + 1) (Some r) (desk.turns + 1) desk desk.jobs scene.snapshot.revision (request_row meaning scene desk (desk.turns + 1) r)
request-kept meaning scene r desk s = request-cases meaning scene r desk (is_pending r.id desk.pending) refl (sound-parts desk scene.snapshot.revision s)

-- a turn that does nothing
pub idle-kept : (ticket turns : ℕ) (desk : Desk) (revision : ℕ) → desk.turns ≤ turns → Sound desk revision
    → Keeps ticket None turns desk desk.jobs revision silent
idle-kept ticket turns desk revision more s = record {
  sound = sound-later desk.turns turns desk.pending desk.jobs desk.last_job (desk.last_job + 0) revision revision more (omega arith) (omega arith)
      (sound-parts desk revision s);
  once = tt;
}

cancel-cases : (id : RequestId) (desk : Desk) (revision : ℕ) (b : Bool) → is_pending id desk.pending ≡ b → Sound desk revision
    → Keeps (desk.turns + 1) None (desk.turns + 1) desk desk.jobs revision (if b then says (canceled_by_client id) else silent)
cancel-cases id desk revision true waits s = record {
  sound = sound-next _ _ _ _ _ (sound-closed desk.turns desk.pending desk.jobs desk.last_job revision id (sound-parts desk revision s));
  once = (id, refl, waits, tt);
}
cancel-cases id desk revision false waits s = idle-kept (desk.turns + 1) (desk.turns + 1) desk revision (omega arith) s

-- a request that the next turn cancels
pub cancel-kept : (id : RequestId) (desk : Desk) (revision : ℕ) → Sound desk revision
    → Keeps (desk.turns + 1) None (desk.turns + 1) desk desk.jobs revision (cancel_row id desk)
cancel-kept id desk revision s = cancel-cases id desk revision (is_pending id desk.pending) refl s

-- ---- messages of a batch

abbrev pub AreAbove : ℕ → List Job → Type 0
AreAbove first [] = Unit {0}
AreAbove first (job ∷ jobs) = (first < job.number) × AreAbove first jobs

above-append : (first : ℕ) (xs ys : List Job) → AreAbove first xs → AreAbove first ys → AreAbove first (xs ++ ys)
above-append first [] ys a b = b
above-append first (x ∷ xs) ys a b = (a.0, above-append first xs ys a.1 b)

-- jobs of later numbers leave an earlier one as it is
with-later : (first n : ℕ) (js : List Job) (out : Jobs) → n ≤ first → AreAbove first js → map.get (with_jobs js out) n ≡ map.get out n
with-later first n [] out early late = refl
with-later first n (j ∷ js) out early late =
    with-later first n js (map.insert out j.number j) early late.1
    ∙ get-insert_other by_number_total by_number_same out j.number j n (λ same. let h = late.0 in omega arith)

-- and don't mind whether it is taken off before or after
without-later : (first n : ℕ) (js : List Job) (out : Jobs) → n ≤ first → AreAbove first js → with_jobs js (map.remove out n) ≡ map.remove (with_jobs js out) n
without-later first n [] out early late = refl
without-later first n (j ∷ js) out early late =
    ap (with_jobs js) (insert-remove by_number_total by_number_same out j.number j n (λ same. let h = late.0 in omega arith))
    ∙ without-later first n js (map.insert out j.number j) early late.1

-- within a batch: the desk is sound with the jobs that it hands over; those of earlier turns have numbers up to the first, these have later ones
pub record Batching (first : ℕ) (desk : Desk) (js : List Job) (revision : ℕ) : Type 0 where
  pub sound : SoundOf desk.turns desk.pending (with_jobs js desk.jobs) desk.last_job revision
  pub early : (n : ℕ) (job : Job) → map.get desk.jobs n ≡ Some job → n ≤ first
  pub late : AreAbove first js
  pub given : first ≤ desk.last_job

-- before its first message
pub batching-begins : (desk : Desk) (revision : ℕ) → Sound desk revision → Batching desk.last_job desk [] revision
batching-begins desk revision s = record { sound = sound-parts desk revision s; early = s.numbers; late = tt; given = omega arith }

abbrev pub Going : ℕ → Desk → List Job → ℕ → TaskMsg → Reaction → Type 0
Going first desk js revision message done = Batching first (desk_past message done desk) (js ++ done.jobs) revision
    × AreAnswers (responses_of done) desk.pending

-- a message that leaves the jobs out as they are
going-none : (first : ℕ) (desk : Desk) (js : List Job) (revision : ℕ) (message : TaskMsg) → jobs_after message desk.jobs ≡ desk.jobs
    → Batching first desk js revision → Going first desk js revision message silent
going-none first desk js revision message same b = (
  record {
    sound = subst (λ xs. SoundOf desk.turns desk.pending (with_jobs xs (jobs_after message desk.jobs)) (desk.last_job + 0) revision) (sym (append-nil js))
        (subst (λ out. SoundOf desk.turns desk.pending (with_jobs js out) (desk.last_job + 0) revision) (sym same) (sound-stays _ _ _ _ _ b.sound));
    early = λ n job there. b.early n job (ap (λ out. map.get out n) (sym same) ∙ there);
    late = subst (AreAbove first) (sym (append-nil js)) b.late;
    given = let g = b.given in omega arith;
  },
  tt,
)

-- the parts of the end of a job
record Took (first : ℕ) (desk : Desk) (js : List Job) (revision : ℕ) (message : TaskMsg) (found : Job) : Type 0 where
  before : Batching first desk js revision
  gone : jobs_after message desk.jobs ≡ map.remove desk.jobs message.job
  is_out : map.get desk.jobs message.job ≡ Some found
  is_there : map.get (with_jobs js desk.jobs) message.job ≡ Some found
  left : with_jobs js (jobs_after message desk.jobs) ≡ map.remove (with_jobs js desk.jobs) message.job

took : (first : ℕ) (desk : Desk) (js : List Job) (revision : ℕ) (message : TaskMsg) (found : Job) (result : JobResult) → final_of message.body ≡ Some result
    → fitting_job message desk.jobs ≡ Some found → Batching first desk js revision → Took first desk js revision message found
took first desk js revision message found result ends is b =
    let k = after_message-some message desk.jobs found result ends is in
    let early : message.job ≤ first = b.early message.job found k.1 in
    record {
      before = b;
      gone = k.0;
      is_out = k.1;
      is_there = with-later first message.job js desk.jobs early b.late ∙ k.1;
      left = ap (with_jobs js) k.0 ∙ without-later first message.job js desk.jobs early b.late;
    }

-- what is out after a message was out before it
early-on : (first : ℕ) (desk : Desk) (js : List Job) (revision : ℕ) (message : TaskMsg) (found : Job) → Took first desk js revision message found
    → (n : ℕ) (job : Job) → map.get (jobs_after message desk.jobs) n ≡ Some job → n ≤ first
early-on first desk js revision message found t n job there =
    t.before.early n job (still-out message.job n desk.jobs job (ap (λ out. map.get out n) (sym t.gone) ∙ there))

-- the message does nothing
going-off : (first : ℕ) (desk : Desk) (js : List Job) (revision : ℕ) (message : TaskMsg) (found : Job) → WaitsNowhere desk.pending found
    → Took first desk js revision message found → Going first desk js revision message silent
going-off first desk js revision message found none t = (
  record {
    sound = subst (λ xs. SoundOf desk.turns desk.pending (with_jobs xs (jobs_after message desk.jobs)) (desk.last_job + 0) revision) (sym (append-nil js))
        (subst (λ out. SoundOf desk.turns desk.pending out (desk.last_job + 0) revision) (sym t.left)
        (sound-stays _ _ _ _ _ (sound-off desk.turns desk.pending (with_jobs js desk.jobs) desk.last_job revision message.job found t.is_there none
        t.before.sound)));
    early = early-on first desk js revision message found t;
    late = subst (AreAbove first) (sym (append-nil js)) t.before.late;
    given = let g = t.before.given in omega arith;
  },
  tt,
)

-- its request is answered
going-said : (first : ℕ) (desk : Desk) (js : List Job) (revision : ℕ) (message : TaskMsg) (found : Job) (ticket : ℕ) (id : RequestId) (response : Response)
    → ticket_of_job found.kind ≡ Some ticket → id_of ticket desk.pending ≡ Some id
    → response.id ≡ Some id → Took first desk js revision message found → Going first desk js revision message (says response)
going-said first desk js revision message found ticket id response its waits is t = (
  record {
    sound = subst (λ xs. SoundOf desk.turns (closed_with response.id desk.pending) (with_jobs xs (jobs_after message desk.jobs)) (desk.last_job + 0) revision)
        (sym (append-nil js))
        (subst (λ q. SoundOf desk.turns q (with_jobs js (jobs_after message desk.jobs)) (desk.last_job + 0) revision)
        (sym (ap (λ o. closed_with o desk.pending) is ∙ sym (completed-closed ticket id desk.pending t.before.sound.distinct waits)))
        (subst (λ out. SoundOf desk.turns (completed ticket desk.pending) out (desk.last_job + 0) revision) (sym t.left)
        (sound-stays _ _ _ _ _ (sound-without desk.turns desk.pending (with_jobs js desk.jobs) desk.last_job revision message.job ticket found id t.is_there its
        waits t.before.sound))));
    early = early-on first desk js revision message found t;
    late = subst (AreAbove first) (sym (append-nil js)) t.before.late;
    given = let g = t.before.given in omega arith;
  },
  (id, is, waits-by-id desk.pending ticket id waits, tt),
)

-- a job is handed over for it
going-again : (first : ℕ) (scene : Scene) (desk : Desk) (js : List Job) (message : TaskMsg) (found : Job) (ticket : ℕ) (class : PoolClass) (row_id : RowId)
    (params : Data) → ticket_of_job found.kind ≡ Some ticket
    → Took first desk js scene.snapshot.revision message found
    → Going first desk js scene.snapshot.revision message (hands_over desk.last_job scene.snapshot class ticket row_id params)
going-again first scene desk js message found ticket class row_id params its t = (
  record {
    sound = subst (λ out. SoundOf desk.turns desk.pending out (desk.last_job + 1) scene.snapshot.revision)
        (sym (with_jobs-append js (job ∷ []) (jobs_after message desk.jobs) ∙ ap (λ out. map.insert out (desk.last_job + 1) job) t.left))
        (sound-again desk.turns desk.pending (with_jobs js desk.jobs) desk.last_job scene.snapshot.revision message.job ticket found job t.is_there its refl
        (omega arith) t.before.sound);
    early = early-on first desk js scene.snapshot.revision message found t;
    late = above-append first js _ t.before.late (let g = t.before.given in omega arith, tt);
    given = let g = t.before.given in omega arith;
  },
  tt,
)
  where
    job : Job
    job = job_for scene desk.last_job class ticket row_id params

going-reacts : (first : ℕ) (scene : Scene) (desk : Desk) (js : List Job) (message : TaskMsg) (found : Job) (ticket : ℕ) (id : RequestId) (done : Reaction)
    → ticket_of_job found.kind ≡ Some ticket → id_of ticket desk.pending ≡ Some id
    → Reacts scene desk.last_job ticket id done → Took first desk js scene.snapshot.revision message found
    → Going first desk js scene.snapshot.revision message done
going-reacts first scene desk js message found ticket id done its waits (inl (response, is, says_it)) t =
    subst (Going first desk js scene.snapshot.revision message) (sym says_it)
    (going-said first desk js scene.snapshot.revision message found ticket id response its waits is t)
going-reacts first scene desk js message found ticket id done its waits (inr (class, row_id, params, hands)) t =
    subst (Going first desk js scene.snapshot.revision message) (sym hands) (going-again first scene desk js message found ticket class row_id params its t)

-- what a job is for, by the ticket of its kind
for-none : (job : Job) (desk : Desk) (o : Option ℕ) → ticket_of_job job.kind ≡ o → waiting_for job desk ≡ None → WaitsNowhere desk.pending job
for-none job desk None is none = λ ticket its. none-some ticket (sym is ∙ its)
for-none job desk (Some t) is none = λ ticket its. ap (λ u. id_of u desk.pending) (some-same ticket t (sym its ∙ is))
    ∙ sym (ap (λ k. option_and_then (λ u. id_of u desk.pending) k) is) ∙ none

-- the ticket of a job whose request waits, and its id
pub record HasTicket (job : Job) (desk : Desk) (id : RequestId) : Type 0 where
  pub ticket : ℕ
  pub its : ticket_of_job job.kind ≡ Some ticket
  pub waits : id_of ticket desk.pending ≡ Some id

for-some : (job : Job) (desk : Desk) (id : RequestId) (o : Option ℕ) → ticket_of_job job.kind ≡ o → waiting_for job desk ≡ Some id → HasTicket job desk id
for-some job desk id None is waits = none-some id (sym (ap (λ k. option_and_then (λ u. id_of u desk.pending) k) is) ∙ waits)
for-some job desk id (Some t) is waits = record { ticket = t; its = is; waits = sym (ap (λ k. option_and_then (λ u. id_of u desk.pending) k) is) ∙ waits }

pub has-ticket : (job : Job) (desk : Desk) (id : RequestId) → waiting_for job desk ≡ Some id → HasTicket job desk id
has-ticket job desk id waits = for-some job desk id (ticket_of_job job.kind) refl waits

going-ticket : (meaning : Meaning) (first : ℕ) (scene : Scene) (desk : Desk) (js : List Job) (message : TaskMsg) (found : Job) (o : Option RequestId)
    (result : JobResult) → waiting_for found desk ≡ o
    → Took first desk js scene.snapshot.revision message found
    → Going first desk js scene.snapshot.revision message (ticket_row meaning scene desk o found result)
going-ticket meaning first scene desk js message found None result none t =
    going-off first desk js scene.snapshot.revision message found (for-none found desk (ticket_of_job found.kind) refl none) t
going-ticket meaning first scene desk js message found (Some id) result waits t =
    let k = has-ticket found desk id waits in
    going-reacts first scene desk js message found k.ticket id _ k.its k.waits
    (result-reacts meaning scene desk k.ticket id found result (finished_reply id result) refl k.its) t

going-final : (meaning : Meaning) (first : ℕ) (scene : Scene) (desk : Desk) (js : List Job) (message : TaskMsg) (found : Job) (final : Option JobResult)
    → final_of message.body ≡ final → fitting_job message desk.jobs ≡ Some found
    → Batching first desk js scene.snapshot.revision → Going first desk js scene.snapshot.revision message (final_row meaning scene desk final found)
going-final meaning first scene desk js message found None goes is b =
    going-none first desk js scene.snapshot.revision message (after_message-going message desk.jobs goes) b
going-final meaning first scene desk js message found (Some result) ends is b =
    going-ticket meaning first scene desk js message found (waiting_for found desk) result refl
    (took first desk js scene.snapshot.revision message found result ends is b)

going-fitting : (meaning : Meaning) (first : ℕ) (scene : Scene) (desk : Desk) (js : List Job) (message : TaskMsg) (o : Option Job)
    → fitting_job message desk.jobs ≡ o
    → Batching first desk js scene.snapshot.revision → Going first desk js scene.snapshot.revision message (fitting_row meaning scene desk o message)
going-fitting meaning first scene desk js message None is b =
    going-none first desk js scene.snapshot.revision message (after_message-none message desk.jobs is) b
going-fitting meaning first scene desk js message (Some found) is b = going-final meaning first scene desk js message found (final_of message.body) refl is b

-- a message of a job
pub message-going : (meaning : Meaning) (first : ℕ) (scene : Scene) (desk : Desk) (js : List Job) (message : TaskMsg)
    → Batching first desk js scene.snapshot.revision
    → Going first desk js scene.snapshot.revision message (message_row meaning scene desk message)
message-going meaning first scene desk js message b = going-fitting meaning first scene desk js message (fitting_job message desk.jobs) refl b

-- ---- one row, and then the turn's end

keeps-whole : (turns : ℕ) (request : Option Request) (done : Reaction) (jobs : Jobs) (desk : Desk) (revision : ℕ)
    → Keeps turns request turns desk jobs revision done → KeepsSound turns request done jobs desk revision
keeps-whole turns request done jobs desk revision k = record { sound = sound-whole (desk_then turns request done jobs desk) revision k.sound; once = k.once }

pub request-sound : (meaning : Meaning) (scene : Scene) (desk : Desk) (r : Request) → Sound desk scene.snapshot.revision
    → KeepsSound (desk.turns + 1) (Some r) (request_row meaning scene desk (desk.turns + 1) r) desk.jobs desk scene.snapshot.revision
request-sound meaning scene desk r s = keeps-whole (desk.turns + 1) (Some r) _ desk.jobs desk scene.snapshot.revision (request-kept meaning scene r desk s)

pub cancel-sound : (desk : Desk) (revision : ℕ) (id : RequestId) → Sound desk revision
    → KeepsSound (desk.turns + 1) None (cancel_row id desk) desk.jobs desk revision
cancel-sound desk revision id s = keeps-whole (desk.turns + 1) None _ desk.jobs desk revision (cancel-kept id desk revision s)

pub message-sound : (meaning : Meaning) (scene : Scene) (desk : Desk) (message : TaskMsg) → Sound desk scene.snapshot.revision
    → KeepsSound (desk.turns + 1) None (message_row meaning scene desk message) (jobs_after message desk.jobs) desk scene.snapshot.revision
message-sound meaning scene desk message s =
    let done = message_row meaning scene desk message in
    let going : Going desk.last_job desk [] scene.snapshot.revision message done =
    message-going meaning desk.last_job scene desk [] message (batching-begins desk scene.snapshot.revision s) in
    keeps-whole (desk.turns + 1) None done (jobs_after message desk.jobs) desk scene.snapshot.revision
    (record { sound = sound-later desk.turns (desk.turns + 1) _ _ _ _ _ _ (omega arith) (omega arith) (omega arith) going.0.sound; once = going.1 })

-- ---- one request

new-cases : (meaning : Meaning) (scene : Scene) (desk : Desk) (ticket : ℕ) (r : Request) (b : Bool) → b ≡ false
    → Reacts scene desk.last_job ticket r.id (if b then says (already_pending r.id) else new_row meaning scene desk ticket r)
new-cases meaning scene desk ticket r true new = absurd cc
new-cases meaning scene desk ticket r false new = new-reacts meaning scene desk ticket r

pub request-reacts : (meaning : Meaning) (scene : Scene) (desk : Desk) (ticket : ℕ) (r : Request) → is_pending r.id desk.pending ≡ false
    → Reacts scene desk.last_job ticket r.id (request_row meaning scene desk ticket r)
request-reacts meaning scene desk ticket r new = new-cases meaning scene desk ticket r (is_pending r.id desk.pending) new

pub message-reacts : (meaning : Meaning) (scene : Scene) (desk : Desk) (message : TaskMsg) (job : Job) (ticket : ℕ) (id : RequestId)
    → fitting_job message desk.jobs ≡ Some job → ticket_of_job job.kind ≡ Some ticket → id_of ticket desk.pending ≡ Some id
    → Reacts scene desk.last_job ticket id (message_row meaning scene desk message)
message-reacts meaning scene desk message job ticket id is its waits =
    let slot = ticket-slot job.kind ticket its in
    let k = ends-of_slot job (slot_at ticket slot.0) message.body slot.1 (fit-fits message.body (map.get desk.jobs message.job) job is) in
    let there : waiting_for job desk ≡ Some id = ap (λ o. option_and_then (λ u. id_of u desk.pending) o) its ∙ waits in
    let row : message_row meaning scene desk message ≡ ticket_row meaning scene desk (Some id) job k.0 =
    ap (λ o. fitting_row meaning scene desk o message) is ∙ ap (λ o. final_row meaning scene desk o job) k.1
    ∙ ap (λ o. ticket_row meaning scene desk o job k.0) there in
    subst (Reacts scene desk.last_job ticket id) (sym row) (result-reacts meaning scene desk ticket id job k.0 (finished_reply id k.0) refl its)

-- ---- one part

-- a request of which one part is left has one job out
pub one-held : (desk : Desk) (ticket part : ℕ) (id : RequestId) → AreHeld desk → id_of ticket desk.pending ≡ Some id → unreported ticket desk ≡ part ∷ []
    → IsHeldByOne ticket desk.jobs
one-held desk ticket part id held waits one = held-by_one ticket part desk.jobs (subst (λ parts. IsHeld ticket parts desk.jobs) one (held ticket id waits))
