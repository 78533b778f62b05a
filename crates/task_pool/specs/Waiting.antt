-- Jobs that wait for a thread, by their class.
use Rattle.std.specs.Prelude.{ℕ, Bool, true, false, List, [], ◌∷◌, ◌++◌, drop, slice_get, Option, None}
use Rattle.std.specs.Option.{option_or}
use Rattle.method_table.specs.declared.class.PoolClass.{PoolClass}
use Rattle.method_table.specs.declared.class.PoolClass.TheVariants.{Worker, Latency, Formatting}

-- the numbers of the jobs of each class, in the order in which they came
pub record WaitingData : Type 0 where
  pub latency : List ℕ
  pub workers : List ℕ
  pub formatting : List ℕ

abbrev pub none_waiting : WaitingData
none_waiting = record { latency = []; workers = []; formatting = [] }

abbrev pub all_waiting : WaitingData → List ℕ
all_waiting w = w.latency ++ (w.workers ++ w.formatting)

abbrev pub after_push : PoolClass → ℕ → WaitingData → WaitingData
after_push Latency number w = record w { latency = w.latency ++ number ∷ [] }
after_push Worker number w = record w { workers = w.workers ++ number ∷ [] }
after_push Formatting number w = record w { formatting = w.formatting ++ number ∷ [] }

-- where a thread is free, the oldest of latency, else the oldest of the others
abbrev pub for_thread : Bool → WaitingData → Option ℕ
for_thread true w = option_or (slice_get w.latency 0) (slice_get w.workers 0)
for_thread false w = None

-- where the thread for formatting is free, the oldest of formatting
abbrev pub for_formatter : Bool → WaitingData → Option ℕ
for_formatter true w = slice_get w.formatting 0
for_formatter false w = None

abbrev pub next_waiting : Bool → Bool → WaitingData → Option ℕ
next_waiting has_thread has_formatter w = option_or (for_formatter has_formatter w) (for_thread has_thread w)

abbrev pub without_latency : List ℕ → WaitingData → WaitingData
without_latency [] w = record w { workers = drop 1 w.workers }
without_latency (number ∷ numbers) w = record w { latency = numbers }

abbrev pub without_thread : Bool → WaitingData → WaitingData
without_thread true w = without_latency w.latency w
without_thread false w = w

abbrev pub without_formatting : List ℕ → Bool → WaitingData → WaitingData
without_formatting [] has_thread w = without_thread has_thread w
without_formatting (number ∷ numbers) has_thread w = record w { formatting = numbers }

-- what is next waits no more
abbrev pub after_take : Bool → Bool → WaitingData → WaitingData
after_take has_thread true w = without_formatting w.formatting has_thread w
after_take has_thread false w = without_thread has_thread w
