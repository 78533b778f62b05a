-- Runs of the calls on priming: what they did, one act after another. A run has its last act first.
use Rattle.std.specs.Prelude.{ℕ, ◌+◌, ◌&&◌, Bool, false, List, [], ◌∷◌, if◌then◌else◌}
use Rattle.activities.specs.Priming.{Priming, no_priming, asked, is_due, started, prime_told, is_report}
use Rattle.activities.specs.declared.priming.PrimeMsg.{PrimeMsg}
use Rattle.activities.specs.declared.priming.PrimeMsg.TheVariants as prime

pub data PrimeAct : Type 0 where
  -- a job is asked for
  Asks : PrimeAct
  -- the job that is asked for is to start
  Starts : PrimeAct
  Tells : PrimeMsg → PrimeAct

-- what an act leaves
abbrev pub prime_step : PrimeAct → Priming → Priming
prime_step Asks priming = asked priming
prime_step Starts priming = started priming
prime_step (Tells message) priming = (prime_told message priming).state

abbrev pub priming_after : List PrimeAct → Priming
priming_after [] = no_priming
priming_after (act ∷ before) = prime_step act (priming_after before)

-- a job starts
abbrev pub starts_one : PrimeAct → Priming → ℕ
starts_one Starts priming = if is_due priming then 1 else 0
starts_one other priming = 0

abbrev pub jobs_started : List PrimeAct → ℕ
jobs_started [] = 0
jobs_started (act ∷ before) = starts_one act (priming_after before) + jobs_started before

-- the job in progress ends
abbrev pub ends_one : PrimeAct → Priming → ℕ
ends_one (Tells (prime.End cancelled)) priming = if priming.in_progress then 1 else 0
ends_one other priming = 0

abbrev pub jobs_ended : List PrimeAct → ℕ
jobs_ended [] = 0
jobs_ended (act ∷ before) = ends_one act (priming_after before) + jobs_ended before

-- ---- the messages of a batch

abbrev pub is_report_next : List PrimeMsg → Bool
is_report_next [] = false
is_report_next (message ∷ rest) = is_report message

-- without each report that has a report right behind it
abbrev pub without_passed : List PrimeMsg → List PrimeMsg
without_passed [] = []
without_passed (message ∷ rest) =
    if is_report message && is_report_next rest then without_passed rest else message ∷ without_passed rest
