-- What the sink and the source in memory are.
use Rattle.std.specs.Prelude.{ℕ, ◌+◌, ◌-◌, ◌^◌, min, List, [], ◌∷◌, take, Option, None, Some, Result, Ok, Err, Contains}
use Rattle.session_port.specs.declared.cause.HostError.{HostError}
use Rattle.session_port.specs.declared.cause.HostError.TheVariants.{Failed, NoMemory}

-- calls, numbered from 1: the numbers of those that are to fail, how many were made, and how many of them failed
pub record PlanData : Type 0 where
  pub fails : List ℕ
  pub made : ℕ
  pub faults : ℕ

-- no call was made yet
abbrev pub no_calls : List ℕ → PlanData
no_calls fails = record { fails = fails; made = 0; faults = 0 }

-- one more, up to the greatest number of 64 bits
abbrev pub counted : ℕ → ℕ
counted n = min (n + 1) (2 ^ 64 - 1)

-- the number of the next call is listed
abbrev pub IsFailing : PlanData → Type 0
IsFailing plan = Contains plan.fails (counted plan.made)

-- how often calls failed, with this one
abbrev pub faults_after : {T : Type 0} → Result T HostError → ℕ → ℕ
faults_after (Ok x) faults = faults
faults_after (Err Failed) faults = counted faults
faults_after (Err NoMemory) faults = faults

-- the calls with one more, which answered this
abbrev pub after_call : {T : Type 0} → Result T HostError → PlanData → PlanData
after_call result plan = record {
  fails = plan.fails;
  made = counted plan.made;
  faults =
      faults_after result plan.faults;
}

-- the turns that were written, and the calls
pub record SinkData : Type 0 where
  pub turns : List (List ℕ)
  pub plan : PlanData

-- the bytes that are left, and the calls
pub record SourceData : Type 0 where
  pub left : List ℕ
  pub plan : PlanData

-- as long a piece as there may be, or the end
abbrev pub longest_piece : ℕ → List ℕ → Option (List ℕ)
longest_piece most [] = None
longest_piece most (byte ∷ bytes) = Some (take most (byte ∷ bytes))
