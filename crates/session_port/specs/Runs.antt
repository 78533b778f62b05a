-- How the run of a job ends.
use Rattle.std.specs.Prelude.{◌≡◌, ◌≤◌, ◌^◌, ◌-◌, ℕ, List, [], ◌∷◌, Option, None, Some}
use Rattle.analysis_host.specs.Answers.{OutcomeSpec, fault}
use Rattle.analysis_host.specs.Polls.{HasPolled}
use Rattle.session_port.specs.Jobs.{final_of}
use Rattle.session_port.specs.Results.{or_fault}
use Rattle.session_port.specs.declared.event.TaskMsg.{TaskMsg}
use Rattle.session_port.specs.declared.job.JobResult.{JobResult}
use Rattle.session_port.specs.declared.job.JobResult.TheVariants.{Value, Fault, Cancelled, NoMemory}

-- a fact of the number at which a run stopped, if it stopped
abbrev pub IfCancelled : JobResult → (ℕ → Type 0) → Type 0
IfCancelled (Value value) P = Unit {0}
IfCancelled (Fault code message) P = Unit {0}
IfCancelled (Cancelled saw) P = P saw
IfCancelled NoMemory P = Unit {0}

-- a fact of a run that had the memory it needs
abbrev pub UnlessNoMemory : JobResult → Type 0 → Type 0
UnlessNoMemory (Value value) P = P
UnlessNoMemory (Fault code message) P = P
UnlessNoMemory (Cancelled saw) P = P
UnlessNoMemory NoMemory P = Unit {0}

-- the run did not stop
abbrev pub IsUncancelled : JobResult → Type 0
IsUncancelled result = IfCancelled result (λ saw. ⊥)

-- a fact of the result that a message tells, which it does
abbrev pub IsFinal : Option JobResult → (JobResult → Type 0) → Type 0
IsFinal None P = ⊥
IsFinal (Some result) P = P result

abbrev pub AreUncancelled : List TaskMsg → Type 0
AreUncancelled [] = Unit {0}
AreUncancelled (message ∷ messages) = IsFinal (final_of message.body) IsUncancelled × AreUncancelled messages

-- at least one poll was made, and the count of them fits 64 bits
abbrev pub HasCounted : ℕ → ℕ → Type 0
HasCounted before now = HasPolled before now × now ≤ 2 ^ 64 - 1

-- a job ends without a value at a question: by the fault that it comes to, by a later revision, or where memory runs
-- out
abbrev pub StopsAt : OutcomeSpec → JobResult → Type 0
StopsAt finding (Value value) = ⊥
StopsAt finding (Fault code message) = finding ≡ fault code message
StopsAt finding (Cancelled saw) = Unit {0}
StopsAt finding NoMemory = Unit {0}

-- so does a job whose questions come to these, whatever else is made of their answers
abbrev pub StopsAsking : List OutcomeSpec → JobResult → Type 0
StopsAsking findings (Value value) = ⊥
StopsAsking findings (Fault code message) = (result : JobResult) → or_fault findings result ≡ Fault code message
StopsAsking findings (Cancelled saw) = Unit {0}
StopsAsking findings NoMemory = Unit {0}
