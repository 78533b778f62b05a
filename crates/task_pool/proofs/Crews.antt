-- What a host's threads keep to, step by step.
use Rattle.std.proofs.Common.{◌≡◌, ◌<◌, ◌≤◌, ℕ, ◌+◌, ◌-◌, ◌^◌, List, [], ◌∷◌, ◌++◌, Option, Some, None, length, min, Bool, true, false, refl, sym, ap, subst, ◌∙◌, arith}
use Rattle.std.specs.Prelude.{Result, Ok, Err, OnOk, OnErr, IfSome, is_some, if◌then◌else◌}
use Rattle.std.specs.FinMap as map
use Rattle.std.specs.Ordering.{nat_cmp}
use Rattle.std.specs.declared.alloc.Global.{Global}
use Rattle.std.proofs.lemmas.List.{length-append}
use Rattle.crossbeam_queue.specs.SegTies.{SegId}
use Rattle.atomic_table.specs.Seated.{TableId}
use Rattle.analysis_host.specs.Answers.{OutcomeSpec}
use Rattle.analysis_host.specs.SnapshotData.{SnapshotData}
use Rattle.analysis_host.specs.declared.ask.Ask.{Ask}
use Rattle.inbox.specs.Counts.{counted}
use Rattle.inbox.specs.Given.{BeginsWith, HasTaken}
use Rattle.inbox.specs.Posting.{bytes_of}
use Rattle.inbox.specs.Rule.{Continues, IsBeginning, after_take}
use Rattle.inbox.specs.declared.entry.Entry.{Entry}
use Rattle.inbox.specs.declared.entry.Entry.TheVariants.{Opened, Piece, Ended, Failed, NoMemory, Done}
use Rattle.inbox.specs.declared.entry.Knows.{Knows}
use Rattle.inbox.proofs.Counting.{bytes_of-append}
use Rattle.inbox.proofs.Prefixes.{more_bytes, same_bytes, taken_end, taken_prefix, taken_under}
use Rattle.inline_host.specs.declared.numbered_jobs.NumberedJobs.{NumberedJobs}
use Rattle.session_port.specs.Jobs.{Jobs, after_batch, final_of, fitting_job, jobs_after, without_fitting}
use Rattle.session_port.specs.declared.event.TaskBody.{TaskBody}
use Rattle.session_port.specs.declared.event.TaskMsg.{TaskMsg}
use Rattle.session_port.specs.declared.job.Job.{Job}
use Rattle.session_port.specs.declared.job.JobResult.{JobResult}
use Rattle.task_pool.specs.Crews.{CrewData, IsEnd, Shows, after_entry, without_jobs}
use Rattle.task_pool.specs.Employs.{AreEmployed, EndsAs, Hires, IsAtWork, IsEmployed, job_kept}
use Rattle.task_pool.specs.declared.employed.Employed.{Employed}
use Rattle.task_pool.proofs.Running.{comes, goes, joins, none_is, starts}

-- no worker runs
pub none_run : (answer : SnapshotData → Ask → OutcomeSpec) (queue : SegId Global) (word : TableId) (out : Jobs) (last : ℕ) (running : map.FinMap nat_cmp Employed)
    → running ≡ map.empty → AreEmployed answer queue word out last running
none_run answer queue word out last running none number e is =
    absurd (none_is e (sym (map.get-empty nat_cmp number) ∙ ap (λ r. map.get r number) (sym none) ∙ is))

capped : (a b : ℕ) → min (min a (2 ^ 64 - 1) + b) (2 ^ 64 - 1) ≡ min (a + b) (2 ^ 64 - 1)
capped a b = grind arith

-- one more entry was taken
pub counted_take : (taken : List Entry) (x : Entry) (n b m : ℕ) → n ≡ counted (bytes_of taken) → b ≡ length (bytes_of (x ∷ [])) → m ≡ min (n + b) (2 ^ 64 - 1)
    → m ≡ counted (bytes_of (taken ++ x ∷ []))
counted_take taken x n b m is len sum =
    sum
    ∙ ap (λ (y : ℕ × ℕ). min (y.0 + y.1) (2 ^ 64 - 1)) (λ i. (is i, len i))
    ∙ capped (length (bytes_of taken)) (length (bytes_of (x ∷ [])))
    ∙ ap (λ k. min k (2 ^ 64 - 1)) (sym (length-append (bytes_of taken) (bytes_of (x ∷ []))) ∙ ap length (sym (bytes_of-append taken (x ∷ []))))

-- what an entry shows
pub shows : (v : Knows) (x : Entry) (c : CrewData) → HasTaken v → Continues v x → c.held ≡ v.held → c.taken ≡ bytes_of v.taken → Shows x c
shows v (Piece b) c has next held taken =
    subst (λ h. BeginsWith h (c.taken ++ b)) (sym held)
    (subst (λ t. BeginsWith v.held (t ++ b)) (sym taken)
    (subst (BeginsWith v.held) (more_bytes v.taken b) (taken_prefix (after_take v (Piece b)) (has.0, next))))
shows v Ended c has next held taken = λ all is. taken_end v next all (sym held ∙ is) ∙ sym taken
shows v (Opened s) c has next held taken = tt
shows v (Failed s) c has next held taken = tt
shows v NoMemory c has next held taken = tt
shows v (Done n) c has next held taken = tt

with_taken : CrewData → List ℕ → CrewData
with_taken c taken = record c { taken = taken }

-- and what it leaves
pub left : (v w : Knows) (x : Entry) (c : CrewData) → w ≡ after_take v x → c.held ≡ v.held → c.taken ≡ bytes_of v.taken
    → (record c { held = w.held; taken = bytes_of w.taken }) ≡ after_entry x c
left v w (Piece b) c is held taken =
    ap (λ k. record c { held = k.held; taken = bytes_of k.taken }) is
    ∙ ap (λ (y : Option (List ℕ) × List ℕ). record c { held = y.0; taken = y.1 }) (λ i. (sym held i, (more_bytes v.taken b ∙ ap (λ t. t ++ b) (sym taken)) i))
left v w Ended c is held taken =
    ap (λ k. record c { held = k.held; taken = bytes_of k.taken }) is
    ∙ ap (λ (y : Option (List ℕ) × List ℕ). record c { held = y.0; taken = y.1 }) (λ i. (sym held i, (same_bytes v.taken Ended refl ∙ sym taken) i))
left v w (Opened s) c is held taken =
    ap (λ k. record c { held = k.held; taken = bytes_of k.taken }) is
    ∙ ap (λ (y : Option (List ℕ) × List ℕ). record c { held = y.0; taken = y.1 }) (λ i. (sym held i, (same_bytes v.taken (Opened s) refl ∙ sym taken) i))
left v w (Failed s) c is held taken =
    ap (λ k. record c { held = k.held; taken = bytes_of k.taken }) is
    ∙ ap (λ (y : Option (List ℕ) × List ℕ). record c { held = y.0; taken = y.1 }) (λ i. (sym held i, (same_bytes v.taken (Failed s) refl ∙ sym taken) i))
left v w NoMemory c is held taken =
    ap (λ k. record c { held = k.held; taken = bytes_of k.taken }) is
    ∙ ap (λ (y : Option (List ℕ) × List ℕ). record c { held = y.0; taken = y.1 }) (λ i. (sym held i, (same_bytes v.taken NoMemory refl ∙ sym taken) i))
left v w (Done n) c is held taken =
    ap (λ k. record c { held = k.held; taken = bytes_of k.taken }) is
    ∙ ap (λ (y : Option (List ℕ) × List ℕ). record c { held = y.0; taken = y.1 }) (λ i. (sym held i, (same_bytes v.taken (Done n) refl ∙ sym taken) i))

module _ (answer : SnapshotData → Ask → OutcomeSpec) (queue : SegId Global) (word : TableId) where
  -- a job comes, if there is memory for it
  pub put_one : {E : Type 0} (result : Result (Unit {0}) E) (before now : NumberedJobs) (job : Job) (running : map.FinMap nat_cmp Employed)
      → OnOk result (now ≡ record { out = map.insert before.out job.number job; last_job = job.number }) → OnErr result (now ≡ before) → before.last_job < job.number
      → AreEmployed answer queue word before.out before.last_job running → AreEmployed answer queue word now.out now.last_job running
  put_one (Ok u) before now job running ok err above are =
      subst (λ (j : NumberedJobs). AreEmployed answer queue word j.out j.last_job running) (sym ok)
      (comes job_kept (IsAtWork answer queue word) before.out before.last_job running job.number job are above)
  put_one (Err e) before now job running ok err above are =
      subst (λ (j : NumberedJobs). AreEmployed answer queue word j.out j.last_job running) (sym err) are

  -- a worker starts, if there is memory for it
  pub hires : {C E : Type 0} (result : Result C E) (out : Jobs) (last number : ℕ) (job : Job) (before now : map.FinMap nat_cmp Employed)
      → OnOk result (Hires answer queue word number job before now) → OnErr result (now ≡ before) → map.get out number ≡ Some job
      → AreEmployed answer queue word out last before → number ≤ last → AreEmployed answer queue word out last now
  hires (Ok class) out last number job before now ok err there are low =
      let e : Employed = ok.0 in
      let its : IsEmployed answer queue word job e = ok.1 in
      subst (λ r. AreEmployed answer queue word out last r) (sym ok.2)
      (starts job_kept (IsAtWork answer queue word) out last before number e are low (there ∙ ap Some (sym its.job_is)) (subst (λ j. IsEmployed answer queue word j e) (sym its.job_is) its))
  hires (Err e) out last number job before now ok err there are low = subst (λ r. AreEmployed answer queue word out last r) (sym err) are

  -- a message goes, with the job that it ends, and a worker of that number
  go_found : (number : ℕ) (body : TaskBody) (b : Bool) (out : Jobs) (last : ℕ) (running : map.FinMap nat_cmp Employed)
      → AreEmployed answer queue word out last running → AreEmployed answer queue word (if b then map.remove out number else out) last (map.remove running number)
  go_found number body true out last running are = goes job_kept (IsAtWork answer queue word) out last running number are
  go_found number body false out last running are = joins job_kept (IsAtWork answer queue word) out last running number are

  go_fitting : (message : TaskMsg) (found : Option Job) (out : Jobs) (last : ℕ) (running : map.FinMap nat_cmp Employed)
      → AreEmployed answer queue word out last running → AreEmployed answer queue word (without_fitting found message out) last (map.remove running message.job)
  go_fitting message None out last running are = joins job_kept (IsAtWork answer queue word) out last running message.job are
  go_fitting message (Some job) out last running are = go_found message.job message.body (is_some (final_of message.body)) out last running are

  -- jobs go whose workers are gone
  pub go_all : (messages : List TaskMsg) (out : Jobs) (last : ℕ) (running : map.FinMap nat_cmp Employed)
      → AreEmployed answer queue word out last running → AreEmployed answer queue word (after_batch messages out) last (without_jobs messages running)
  go_all [] out last running are = are
  go_all (message ∷ messages) out last running are =
      go_all messages (jobs_after message out) last (map.remove running message.job) (go_fitting message (fitting_job message out) out last running are)

-- the result of the job out at this number
pub is_end : (answer : SnapshotData → Ask → OutcomeSpec) (queue : SegId Global) (word : TableId) (out : Jobs) (last revision number : ℕ) (running : map.FinMap nat_cmp Employed) (result : JobResult)
    → AreEmployed answer queue word out last running → (e : Employed) × (map.get running number ≡ Some e) × EndsAs answer revision e.job.value result
    → IsEnd answer out revision number result
is_end answer queue word out last revision number running result are ended =
    record { job = ended.0.job.value; is_out = (are number ended.0 ended.1).1; is = ended.2.is; fits = ended.2.fits; saw = ended.2.saw }

pub are_ends : {C : Type 0} (answer : SnapshotData → Ask → OutcomeSpec) (queue : SegId Global) (word : TableId) (out : Jobs) (last revision number : ℕ) (running : map.FinMap nat_cmp Employed)
    (result : Option (C × JobResult)) → AreEmployed answer queue word out last running
    → IfSome result (λ r. (e : Employed) × (map.get running number ≡ Some e) × EndsAs answer revision e.job.value r.1)
    → IfSome result (λ r. IsEnd answer out revision number r.1)
are_ends answer queue word out last revision number running None are ended = tt
are_ends answer queue word out last revision number running (Some r) are ended = is_end answer queue word out last revision number running r.1 are ended

-- no more bytes were taken than were posted, as far as both are counted
pub under : (taken posted : List Entry) (n m : ℕ) → IsBeginning taken posted → n ≡ counted (bytes_of taken) → m ≡ counted (bytes_of posted) → n ≤ m
under taken posted n m begins is its =
    let low : length (bytes_of taken) ≤ length (bytes_of posted) = taken_under taken posted begins in
    subst (λ k. k ≤ m) (sym is) (subst (λ k. counted (bytes_of taken) ≤ k) (sym its) (mins (length (bytes_of taken)) (length (bytes_of posted)) low))
  where
    mins : (a b : ℕ) → a ≤ b → min a (2 ^ 64 - 1) ≤ min b (2 ^ 64 - 1)
    mins a b low = grind arith
