-- Priming: what later questions need is found out beforehand, one job at a time; and what is told of it.
use Rattle.std.specs.Prelude.{ℕ, Bool, List, [], ◌∷◌, ◌++◌, length, codes, Option, None, Some, is_some, min, ◌==◌}
use Rattle.std.specs.Prelude.{if◌then◌else◌, true, false, ◌&&◌}
use Rattle.std.specs.Fmt.{decimal}
use Rattle.notify.specs.Fraction.{hundredths}
use Rattle.op_board.specs.Queue.{Queue, new_queue, starts, after_start}
use Rattle.op_board.specs.QueueRuns.{queue_step}
use Rattle.op_board.specs.QueueRuns.QueueAct.{Requests, Ends}
use Rattle.activities.specs.Announced.{Announced, telling}
use Rattle.activities.specs.declared.priming.PrimeMsg.{PrimeMsg}
use Rattle.activities.specs.declared.priming.PrimeMsg.TheVariants as prime
use Rattle.activities.specs.declared.telling.Telling.{Telling}
use Rattle.activities.specs.declared.telling.Telling.TheVariants.{Begin, Report, End}

abbrev pub Priming : Type 0
Priming = Queue (Unit {0}) (Unit {0})

abbrev pub no_priming : Priming
no_priming = new_queue

-- ---- its start and its end

-- a job that primes is asked for; a newer cause takes the place of one that waits
abbrev pub ask : List ℕ → Priming → Priming
ask cause priming = queue_step (Requests (cause, tt)) priming

abbrev pub asked : Priming → Priming
asked priming = ask (codes "became quiescent") priming

-- a job is to start: one is asked for, and none is in progress
abbrev pub is_due : Priming → Bool
is_due priming = is_some (starts priming)

abbrev pub started : Priming → Priming
started priming = after_start priming

abbrev pub completed : Priming → Priming
completed priming = queue_step (Ends tt) priming

-- a job that was cancelled is asked for anew
abbrev pub asked_if : Bool → Priming → Priming
asked_if cancelled priming = if cancelled then ask (codes "restart after cancellation") priming else priming

-- the job in progress has ended
abbrev pub ended : Bool → Priming → Priming
ended cancelled priming = if priming.in_progress then asked_if cancelled (completed priming) else priming

-- ---- what is told of it

abbrev pub title : List ℕ
title = codes "Indexing"

abbrev pub token : Option (List ℕ)
token = Some (codes "rustAnalyzer/cachePriming")

-- how many crates are done, of how many, and the first of those that are worked on
abbrev pub share : ℕ → ℕ → List ℕ → List ℕ
share done total name = decimal done ++ (codes "/" ++ (decimal total ++ (codes " (" ++ name)))

-- how many more are worked on
abbrev pub more_text : ℕ → List ℕ
more_text count = if count == 0 then codes ")" else codes " + " ++ (decimal count ++ codes " more)")

abbrev pub crates_text : ℕ → ℕ → List (List ℕ) → Option (List ℕ)
crates_text done total [] = None
crates_text done total (name ∷ more) = Some (share done total name ++ more_text (length more))

-- more than all are done counts as all
abbrev pub reported : ℕ → ℕ → List (List ℕ) → Telling
reported done total crates =
    let capped = min done total in Report title token (crates_text capped total crates) (Some (hundredths capped total))

abbrev pub tellings_of : PrimeMsg → List Telling
tellings_of prime.Begin = Begin title token None (Some 0) ∷ []
tellings_of (prime.Report done total crates) = reported done total crates ∷ []
tellings_of (prime.End cancelled) = End title token None ∷ []

abbrev pub left_by : PrimeMsg → Priming → Priming
left_by prime.Begin priming = priming
left_by (prime.Report done total crates) priming = priming
left_by (prime.End cancelled) priming = ended cancelled priming

-- a message of a job that primes
abbrev pub prime_told : PrimeMsg → Priming → Announced Priming
prime_told message priming = telling (tellings_of message) (left_by message priming)

-- ---- the messages of a batch

abbrev pub is_report : PrimeMsg → Bool
is_report (prime.Report done total crates) = true
is_report other = false

-- a report right behind a report takes its place
abbrev pub behind : PrimeMsg → PrimeMsg → List PrimeMsg
behind last message = if is_report last && is_report message then message ∷ [] else last ∷ message ∷ []

-- a message comes behind those that were kept
abbrev pub keep : PrimeMsg → List PrimeMsg → List PrimeMsg
keep message [] = message ∷ []
keep message (last ∷ []) = behind last message
keep message (first ∷ next ∷ rest) = first ∷ keep message (next ∷ rest)

-- messages come one after another
abbrev pub keep_all : List PrimeMsg → List PrimeMsg → List PrimeMsg
keep_all [] kept = kept
keep_all (message ∷ messages) kept = keep_all messages (keep message kept)

-- what is left of a batch's messages
abbrev pub kept_of : List PrimeMsg → List PrimeMsg
kept_of batch = keep_all batch []
