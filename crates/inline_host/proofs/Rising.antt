-- Jobs in the order of their numbers, as a map, and their results.
use Rattle.std.proofs.Common.{◌≡◌, ◌<◌, ◌≤◌, ℕ, Bool, true, false, cond, List, [], ◌∷◌, ◌++◌, map, length, refl, sym, ap, subst, ◌∙◌, arith, append_assoc, eq-eqb}
use Rattle.std.specs.Prelude.{None, Some, ◌==◌}
use Rattle.std.specs.List.{AllZip}
use Rattle.std.specs.Cmp.{nat_cmp_is, nat_cmp_total, unsigned_tied}
use Rattle.std.specs.Ordering.{nat_cmp, eq_by_cmp}
use Rattle.std.specs.declared.cmp.Ordering.TheVariants.{Greater}
use Rattle.std.specs.FinMap as map
use Rattle.std.specs.FinMap.Entries.{by_order}
use Rattle.std.proofs.lemmas.Bool.{ne_eqb, eqb-true}
use Rattle.std.proofs.lemmas.List.{append-nil, nil_from_length}
use Rattle.analysis_host.specs.Answers.{OutcomeSpec}
use Rattle.analysis_host.specs.SnapshotData.{SnapshotData}
use Rattle.analysis_host.specs.declared.ask.Ask.{Ask}
use Rattle.session_port.specs.Honest.{IsHonestMessage, AreHonest}
use Rattle.session_port.specs.Jobs.{Jobs, jobs_after, after_batch, final_of}
use Rattle.session_port.specs.Record.{AreRising, last_number, with_jobs}
use Rattle.inline_host.proofs.Fitting.{after_fitting, honest_end, is_some-final}
use Rattle.inline_host.specs.Results.{Finishes, IsOfProject}
use Rattle.session_port.specs.Runs.{AreUncancelled, IsUncancelled}
use Rattle.session_port.specs.declared.event.TaskMsg.{TaskMsg}
use Rattle.session_port.specs.declared.job.Job.{Job}

-- one more job at the end
pub AreRising-push : (low : ℕ) (jobs : List Job) (job : Job) → AreRising low jobs → last_number low jobs < job.number → AreRising low (jobs ++ job ∷ [])
AreRising-push low [] job rising above = (above, tt)
AreRising-push low (first ∷ jobs) job rising above = (rising.0, AreRising-push first.number jobs job rising.1 above)

pub last_number-push : (low : ℕ) (jobs : List Job) (job : Job) → last_number low (jobs ++ job ∷ []) ≡ job.number
last_number-push low [] job = refl
last_number-push low (first ∷ jobs) job = last_number-push first.number jobs job

pub with_jobs-push : (jobs : List Job) (job : Job) (out : Jobs) → with_jobs (jobs ++ job ∷ []) out ≡ map.insert (with_jobs jobs out) job.number job
with_jobs-push [] job out = refl
with_jobs-push (first ∷ jobs) job out = with_jobs-push jobs job (map.insert out first.number first)

-- the entries that jobs make
abbrev pub entries_of : List Job → List (ℕ × Job)
entries_of [] = []
entries_of (job ∷ jobs) = (job.number, job) ∷ entries_of jobs

-- no key is above this
abbrev AllUpTo : ℕ → List (ℕ × Job) → Type 0
AllUpTo high [] = Unit {0}
AllUpTo high (entry ∷ entries) = (entry.0 ≤ high) × AllUpTo high entries

AllUpTo-push : (low : ℕ) (entries : List (ℕ × Job)) (job : Job) → AllUpTo low entries → low < job.number → AllUpTo job.number (entries ++ (job.number, job) ∷ [])
AllUpTo-push low [] job up above = (omega arith, tt)
AllUpTo-push low (entry ∷ entries) job up above = (omega (arith, up.0), AllUpTo-push low entries job up.1 above)

put_last : (low : ℕ) (entries : List (ℕ × Job)) (job : Job) → AllUpTo low entries → low < job.number → map.put nat_cmp job.number job entries ≡ entries ++ (job.number, job) ∷ []
put_last low [] job up above = refl
put_last low (entry ∷ entries) job up above =
    let under : entry.0 < job.number = omega (arith, up.0) in
    ap (λ o. by_order o ((job.number, job) ∷ entry ∷ entries) ((entry.0, job) ∷ entries) (entry ∷ map.put nat_cmp job.number job entries)) (sym (nat_cmp_is job.number entry.0 Greater under))
    ∙ ap (λ rest. entry ∷ rest) (put_last low entries job up.1 above)

entries-with_jobs : (low : ℕ) (jobs : List Job) (out : Jobs) → AllUpTo low (map.entries out) → AreRising low jobs → map.entries (with_jobs jobs out) ≡ map.entries out ++ entries_of jobs
entries-with_jobs low [] out up rising = sym (append-nil (map.entries out))
entries-with_jobs low (job ∷ jobs) out up rising =
    let entries : map.entries (map.insert out job.number job) ≡ map.entries out ++ (job.number, job) ∷ [] =
    map.entries-insert nat_cmp_total out job.number job ∙ put_last low (map.entries out) job up rising.0 in
    entries-with_jobs job.number jobs (map.insert out job.number job) (subst (AllUpTo job.number) (sym entries) (AllUpTo-push low (map.entries out) job up rising.0)) rising.1
    ∙ ap (λ front. front ++ entries_of jobs) entries
    ∙ append_assoc (map.entries out) ((job.number, job) ∷ []) (entries_of jobs)

entries-empty : map.entries (map.empty {X = Job} {R = nat_cmp}) ≡ []
entries-empty = nil_from_length _ (sym (map.len-entries (map.empty {X = Job} {R = nat_cmp})) ∙ map.len-empty nat_cmp Job)

-- jobs whose numbers rise are the entries of their map, in their order
pub entries-rising : (low : ℕ) (jobs : List Job) → AreRising low jobs → map.entries (with_jobs jobs map.empty) ≡ entries_of jobs
entries-rising low jobs rising =
    entries-with_jobs low jobs map.empty (subst (AllUpTo low) (sym entries-empty) tt) rising
    ∙ ap (λ front. front ++ entries_of jobs) entries-empty

get-rising : (low : ℕ) (jobs : List Job) (number : ℕ) → AreRising low jobs → map.get (with_jobs jobs map.empty) number ≡ map.find nat_cmp number (entries_of jobs)
get-rising low jobs number rising = map.get-entries (with_jobs jobs map.empty) number ∙ ap (map.find nat_cmp number) (entries-rising low jobs rising)

find_under : (number low : ℕ) (jobs : List Job) → number ≤ low → AreRising low jobs → map.find nat_cmp number (entries_of jobs) ≡ None
find_under number low [] under rising = refl
find_under number low (job ∷ jobs) under rising =
    let other : (number == job.number) ≡ false = ne_eqb number job.number (λ is. absurd (omega (arith, rising.0, is))) in
    ap (λ b. cond b (Some job) (map.find nat_cmp number (entries_of jobs))) (unsigned_tied number job.number ∙ other)
    ∙ find_under number job.number jobs (omega (arith, rising.0)) rising.1

-- the first of the jobs is out at its number
get_first : (low : ℕ) (job : Job) (jobs : List Job) → AreRising low (job ∷ jobs) → map.get (with_jobs (job ∷ jobs) map.empty) job.number ≡ Some job
get_first low job jobs rising =
    get-rising low (job ∷ jobs) job.number rising
    ∙ ap (λ b. cond b (Some job) (map.find nat_cmp job.number (entries_of jobs))) (unsigned_tied job.number job.number ∙ eq-eqb job.number job.number refl)

-- without the first the others are out
remove_first : (low : ℕ) (job : Job) (jobs : List Job) → AreRising low (job ∷ jobs) → map.remove (with_jobs (job ∷ jobs) map.empty) job.number ≡ with_jobs jobs map.empty
remove_first low job jobs rising = map.same_map nat_cmp_total map.nat_cmp-IsAntisymmetric _ _ (λ number.
    map.get-remove nat_cmp_total (with_jobs (job ∷ jobs) map.empty) job.number number
    ∙ ap (λ found. cond (eq_by_cmp nat_cmp number job.number) None found) (get-rising low (job ∷ jobs) number rising)
    ∙ other number (eq_by_cmp nat_cmp number job.number) (sym (unsigned_tied number job.number))
    ∙ sym (get-rising job.number jobs number rising.1))
  where
    other : (number : ℕ) (b : Bool) → (number == job.number) ≡ b → cond b None (cond b (Some job) (map.find nat_cmp number (entries_of jobs))) ≡ map.find nat_cmp number (entries_of jobs)
    other number true same = sym (find_under number job.number jobs (omega (arith, eqb-true number job.number same)) rising.1)
    other number false same = refl

-- no job is out just where there are none
pub none_out : (jobs : List Job) → AreRising 0 jobs → with_jobs jobs map.empty ≡ map.empty → length jobs ≡ 0
none_out [] rising is = refl
none_out (job ∷ jobs) rising is = absurd (has_none (sym (get_first 0 job jobs rising) ∙ ap (λ out. map.get out job.number) is ∙ map.get-empty nat_cmp job.number))
  where
    has_none : Some job ≡ None → ⊥
    has_none e = cc

module _ (answer : SnapshotData → Ask → OutcomeSpec) where
  -- a result of the first job names it
  out_first : (low : ℕ) (job : Job) (jobs : List Job) (message : TaskMsg) → AreRising low (job ∷ jobs) → Finishes answer job message
      → map.get (with_jobs (job ∷ jobs) map.empty) message.job ≡ Some job
  out_first low job jobs message rising finishes = ap (map.get (with_jobs (job ∷ jobs) map.empty)) finishes.number ∙ get_first low job jobs rising

  -- it takes it off
  after_first : (low : ℕ) (job : Job) (jobs : List Job) (message : TaskMsg) → AreRising low (job ∷ jobs) → Finishes answer job message
      → jobs_after message (with_jobs (job ∷ jobs) map.empty) ≡ with_jobs jobs map.empty
  after_first low job jobs message rising finishes =
      after_fitting message (with_jobs (job ∷ jobs) map.empty) job (out_first low job jobs message rising finishes) finishes.fits
      (is_some-final (final_of message.body) IsUncancelled finishes.uncancelled)
      ∙ ap (λ number. map.remove (with_jobs (job ∷ jobs) map.empty) number) finishes.number
      ∙ remove_first low job jobs rising

  honest_first : (low : ℕ) (job : Job) (jobs : List Job) (message : TaskMsg) → AreRising low (job ∷ jobs) → Finishes answer job message
      → IsHonestMessage answer (with_jobs (job ∷ jobs) map.empty) message
  honest_first low job jobs message rising finishes =
      honest_end answer (with_jobs (job ∷ jobs) map.empty) message.job job (final_of message.body) (out_first low job jobs message rising finishes) finishes.result

  -- results of all the jobs, in their order, are honest
  are_honest : (low : ℕ) (jobs : List Job) (batch : List TaskMsg) → AreRising low jobs → AllZip (Finishes answer) jobs batch → AreHonest answer (with_jobs jobs map.empty) batch
  are_honest low [] [] rising finish = tt
  are_honest low [] (message ∷ batch) rising finish = absurd finish
  are_honest low (job ∷ jobs) [] rising finish = absurd finish
  are_honest low (job ∷ jobs) (message ∷ batch) rising finish = (
    honest_first low job jobs message rising finish.0,
    subst (λ out. AreHonest answer out batch) (sym (after_first low job jobs message rising finish.0)) (are_honest job.number jobs batch rising.1 finish.1),
  )

  -- no job is out after them
  all_finished : (low : ℕ) (jobs : List Job) (batch : List TaskMsg) → AreRising low jobs → AllZip (Finishes answer) jobs batch → after_batch batch (with_jobs jobs map.empty) ≡ map.empty
  all_finished low [] [] rising finish = refl
  all_finished low [] (message ∷ batch) rising finish = absurd finish
  all_finished low (job ∷ jobs) [] rising finish = absurd finish
  all_finished low (job ∷ jobs) (message ∷ batch) rising finish =
      ap (after_batch batch) (after_first low job jobs message rising finish.0) ∙ all_finished job.number jobs batch rising.1 finish.1

  numbers_of : (jobs : List Job) (batch : List TaskMsg) → AllZip (Finishes answer) jobs batch → map (λ message. message.job) batch ≡ map (λ entry. entry.0) (entries_of jobs)
  numbers_of [] [] finish = refl
  numbers_of [] (message ∷ batch) finish = absurd finish
  numbers_of (job ∷ jobs) [] finish = absurd finish
  numbers_of (job ∷ jobs) (message ∷ batch) finish = λ i. finish.0.number i ∷ numbers_of jobs batch finish.1 i

  -- they are there by number
  by_number : (jobs : List Job) (batch : List TaskMsg) → AreRising 0 jobs → AllZip (Finishes answer) jobs batch → map (λ message. message.job) batch ≡ map.keys (with_jobs jobs map.empty)
  by_number jobs batch rising finish = numbers_of jobs batch finish ∙ sym (ap (λ entries. map (λ entry. entry.0) entries) (entries-rising 0 jobs rising))

  -- one more result
  pub finish_push : (jobs : List Job) (batch : List TaskMsg) (job : Job) (message : TaskMsg) → AllZip (Finishes answer) jobs batch → Finishes answer job message → AllZip (Finishes answer) (jobs ++ job ∷ []) (batch ++ message ∷ [])
  finish_push [] [] job message finish last = (last, tt)
  finish_push [] (first ∷ batch) job message finish last = absurd finish
  finish_push (first ∷ jobs) [] job message finish last = absurd finish
  finish_push (first ∷ jobs) (done ∷ batch) job message finish last = (finish.0, finish_push jobs batch job message finish.1 last)

  all_uncancelled : (jobs : List Job) (batch : List TaskMsg) → AllZip (Finishes answer) jobs batch → AreUncancelled batch
  all_uncancelled [] [] finish = tt
  all_uncancelled [] (message ∷ batch) finish = absurd finish
  all_uncancelled (job ∷ jobs) [] finish = absurd finish
  all_uncancelled (job ∷ jobs) (message ∷ batch) finish = (finish.0.uncancelled, all_uncancelled jobs batch finish.1)

  of_project : (jobs : List Job) (batch : List TaskMsg) → AllZip (Finishes answer) jobs batch → AllZip IsOfProject (map (λ entry. entry.1) (entries_of jobs)) batch
  of_project [] [] finish = tt
  of_project [] (message ∷ batch) finish = absurd finish
  of_project (job ∷ jobs) [] finish = absurd finish
  of_project (job ∷ jobs) (message ∷ batch) finish = (finish.0.project, of_project jobs batch finish.1)

  -- what a batch of all the results is
  pub record AreAllResults (out : Jobs) (batch : List TaskMsg) : Type 0 where
    pub honest : AreHonest answer out batch
    pub all : after_batch batch out ≡ map.empty
    pub numbers : map (λ message. message.job) batch ≡ map.keys out
    pub uncancelled : AreUncancelled batch
    pub project : AllZip IsOfProject (map.values out) batch

  pub all_results : (jobs : List Job) (out : Jobs) (done batch : List TaskMsg) → with_jobs jobs map.empty ≡ out → batch ≡ done → AreRising 0 jobs
      → AllZip (Finishes answer) jobs done → AreAllResults out batch
  all_results jobs out done batch is same rising finish =
      let whole : AreAllResults (with_jobs jobs map.empty) done = record {
        honest = are_honest 0 jobs done rising finish;
        all = all_finished 0 jobs done rising finish;
        numbers = by_number jobs done rising finish;
        uncancelled = all_uncancelled jobs done finish;
        project = subst (λ entries. AllZip IsOfProject (map (λ entry. entry.1) entries) done) (sym (entries-rising 0 jobs rising)) (of_project jobs done finish);
      } in
      let at_out : AreAllResults out done = subst (λ o. AreAllResults o done) is whole in
      subst (λ messages. AreAllResults out messages) (sym same) at_out
