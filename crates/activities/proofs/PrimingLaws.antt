-- One job that primes runs, and of a batch's reports the last in a row stays.
use Rattle.std.proofs.Common.{◌≡◌, ℕ, ◌+◌, Bool, true, false, List, [], ◌∷◌, ◌++◌, refl, ap, sym, ◌∙◌, arith}
use Rattle.std.proofs.Common.{append_assoc}
use Rattle.std.specs.Prelude.{Option, Some, None, cond, ◌&&◌}
use Rattle.std.proofs.lemmas.Bool.{true≢false}
use Rattle.op_board.specs.QueueRuns.{running}
use Rattle.activities.proofs.Kept.{keep-append}
use Rattle.activities.specs.Priming.{Priming, is_due, is_report, behind, keep, keep_all, kept_of, ended, prime_told}
use Rattle.activities.specs.PrimingRuns.{PrimeAct, prime_step, priming_after, starts_one, jobs_started, ends_one}
use Rattle.activities.specs.PrimingRuns.{jobs_ended, without_passed}
use Rattle.activities.specs.PrimingRuns.PrimeAct.{Asks, Starts, Tells}
use Rattle.activities.specs.declared.priming.PrimeMsg.{PrimeMsg}
use Rattle.activities.specs.declared.priming.PrimeMsg.TheVariants as prime

abbrev queue_of : Option (List ℕ × Unit {0}) → Bool → Option (Unit {0}) → Priming
queue_of waiting in_progress last = record { waiting = waiting; in_progress = in_progress; last = last }

abbrev Balances : PrimeAct → Priming → Type 0
Balances act priming = starts_one act priming + running priming ≡ ends_one act priming +
    running (prime_step act priming)

balances_start : (waiting : Option (List ℕ × Unit {0})) (in_progress : Bool) (last : Option (Unit {0}))
    → Balances Starts (queue_of waiting in_progress last)
balances_start waiting true last = refl
balances_start None false last = refl
balances_start (Some request) false last = refl

balances_end : (cancelled : Bool) (waiting : Option (List ℕ × Unit {0})) (in_progress : Bool) (last : Option (Unit {0}))
    → Balances (Tells (prime.End cancelled)) (queue_of waiting in_progress last)
balances_end true waiting true last = refl
balances_end false waiting true last = refl
balances_end cancelled waiting false last = refl

balances : (act : PrimeAct) (priming : Priming) → Balances act priming
balances Asks priming = refl
balances Starts priming = balances_start priming.waiting priming.in_progress priming.last
balances (Tells prime.Begin) priming = refl
balances (Tells (prime.Report done total crates)) priming = refl
balances (Tells (prime.End cancelled)) priming = balances_end cancelled priming.waiting priming.in_progress priming.last

pub one_runs : (run : List PrimeAct) → jobs_started run ≡ jobs_ended run + running (priming_after run)
one_runs [] = refl
one_runs (act ∷ before) =
    let step = balances act (priming_after before) in
    let more = one_runs before in
    omega (arith, step, more)

due_again : (waiting : Option (List ℕ × Unit {0})) (in_progress : Bool) (last : Option (Unit {0})) → in_progress ≡ true
    → is_due (ended true (queue_of waiting in_progress last)) ≡ true
due_again waiting true last busy = refl
due_again waiting false last busy = absurd (true≢false (sym busy))

pub cancelled_is_due : (priming : Priming) → priming.in_progress ≡ true
    → is_due (prime_told (prime.End true) priming).state ≡ true
cancelled_is_due priming busy = due_again priming.waiting priming.in_progress priming.last busy

-- ---- the messages of a batch

-- the last of those that are kept is followed by messages, of which the first is a report behind a report, or not
passed : (both : Bool) (last message : PrimeMsg) (messages front kept : List PrimeMsg)
    → (is_report last && is_report message) ≡ both
    → ((front : List PrimeMsg) → keep_all messages (front ++ message ∷ []) ≡ front
    ++ without_passed (message ∷ messages))
    → kept ≡ front ++ behind last message
    → keep_all messages kept ≡ front ++ without_passed (last ∷ message ∷ messages)
passed true last message messages front kept is more split =
    ap (keep_all messages) split ∙ rw is (more front)
passed false last message messages front kept is more split =
    ap (keep_all messages) split
    ∙ rw is (ap (keep_all messages) (sym (append_assoc front (last ∷ []) (message ∷ [])))
    ∙ more (front ++ last ∷ [])
    ∙ append_assoc front (last ∷ []) (without_passed (message ∷ messages)))

last_stays : (report : Bool) (front : List PrimeMsg) (last : PrimeMsg) → front ++ last ∷ [] ≡ front
    ++ cond (report && false) [] (last ∷ [])
last_stays true front last = refl
last_stays false front last = refl

kept_behind : (messages front : List PrimeMsg) (last : PrimeMsg)
    → keep_all messages (front ++ last ∷ []) ≡ front ++ without_passed (last ∷ messages)
kept_behind [] front last = last_stays (is_report last) front last
kept_behind (message ∷ messages) front last =
    passed (is_report last && is_report message) last message messages front (keep message (front ++ last ∷ [])) refl
    (λ front. kept_behind messages front message) (keep-append message last front)

pub reports_give_way : (batch : List PrimeMsg) → kept_of batch ≡ without_passed batch
reports_give_way [] = refl
reports_give_way (message ∷ messages) = kept_behind messages [] message
