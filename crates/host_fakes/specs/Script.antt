-- What a script comes to.
use Rattle.std.specs.Prelude.{◌≡◌, ℕ, ◌++◌, Bool, true, false, not, nat_lt, ◌&&◌, List, [], ◌∷◌, Option, None, Some}
use Rattle.std.specs.Prelude.{option_and_then, if◌then◌else◌, cond, length, ◌==◌}
use Rattle.std.specs.FinMap as map
use Rattle.std.specs.Ordering.{nat_cmp}
use Rattle.std.specs.List.{AllZip}
use Rattle.std.specs.Option.{option_map, option_to_list, unwrap_or}
use Rattle.analysis_host.specs.Answers.{OutcomeSpec}
use Rattle.analysis_host.specs.SnapshotData.{SnapshotData}
use Rattle.analysis_host.specs.declared.ask.Ask.{Ask}
use Rattle.session_port.specs.Honest.{IsResultOf}
use Rattle.session_port.specs.Jobs.{Jobs, final_of, fits_job, fits_kind}
use Rattle.session_port.specs.Kinds.{asks_analysis}
use Rattle.host_fakes.specs.Memory.{PlanData, no_calls}
use Rattle.session_port.specs.Record.{HostCall}
use Rattle.session_port.specs.Runs.{IsFinal, IsUncancelled}
use Rattle.session_port.specs.declared.event.HostEvent.{HostEvent}
use Rattle.session_port.specs.declared.event.HostEvent.TheVariants.{Ended, Tasks}
use Rattle.session_port.specs.declared.event.TaskBody.TheVariants.{Final}
use Rattle.session_port.specs.declared.event.TaskMsg.{TaskMsg}
use Rattle.session_port.specs.declared.job.Job.{Job}
use Rattle.session_port.specs.declared.job.JobResult.{JobResult}
use Rattle.session_port.specs.declared.job.JobResult.TheVariants.{Cancelled}
use Rattle.host_fakes.specs.declared.script.ScriptStep.{ScriptStep}
use Rattle.host_fakes.specs.declared.script.ScriptStep.TheVariants.{Give, Finish, Cancel, Supply}

-- what comes next: an event as it stands, or the results of jobs, each with the number that it is out at
pub data Gift : Type 0 where
  event : HostEvent → Gift
  results : List (ℕ × Job) → Gift

-- a job, where the analysis is asked for it
abbrev pub if_asked : Job → Option Job
if_asked job = if asks_analysis job.kind then Some job else None

-- the job out with this number, where it is not the host's own
abbrev pub asked_at : ℕ → Jobs → Option Job
asked_at number out = option_and_then if_asked (map.get out number)

-- the jobs out without the one that was found
abbrev pub without_found : Option Job → ℕ → Jobs → Jobs
without_found None number out = out
without_found (Some job) number out = map.remove out number

-- the jobs out with these numbers that are not the host's own, each once
abbrev pub named : List ℕ → Jobs → List (ℕ × Job)
named [] out = []
named (number ∷ numbers) out =
    option_to_list (option_map (λ job. (number, job)) (asked_at number out)) ++ named numbers
    (without_found (asked_at number out) number out)

-- the jobs out but for those that are done
abbrev pub left_out : Jobs → map.FinMap nat_cmp Bool → Jobs
left_out out done = map.retain_keys out (λ number. not (map.contains_key done number))

-- a job that is out may see a later revision
abbrev pub can_see : Option Job → ℕ → Bool
can_see None saw = false
can_see (Some job) saw = nat_lt job.snapshot.revision saw

-- a result that says that a job stopped says that it saw a later revision
abbrev pub sees_later : ℕ → JobResult → Bool
sees_later revision (Cancelled saw) = nat_lt revision saw
sees_later revision other = true

-- a job of the host's own that is out may end so
abbrev pub can_end : Option Job → JobResult → Bool
can_end None result = false
can_end (Some job) result = not (asks_analysis job.kind) &&
    (fits_kind job.kind result && sees_later job.snapshot.revision result)

-- the message that a job has ended so
abbrev pub ended : ℕ → JobResult → TaskMsg
ended number result = record { job = number; body = Final result }

-- what a step gives, if anything. A made-up message of a job is never given
abbrev pub gift_of : Jobs → ScriptStep → Option Gift
gift_of out (Give (Tasks batch)) = None
gift_of out (Give other) = Some (event other)
gift_of out (Finish numbers) = Some (results (named numbers out))
gift_of out (Cancel number saw) = if can_see (map.get out number) saw then Some
    (event (Tasks (ended number (Cancelled saw) ∷ []))) else None
gift_of out (Supply number result) = if can_end (map.get out number) result then Some
    (event (Tasks (ended number result ∷ []))) else None

-- the first that a script gives, with the steps after it. After its last step the end comes
abbrev pub next_gift : Jobs → List ScriptStep → Gift × List ScriptStep
next_gift out [] = (event Ended, [])
next_gift out (step ∷ steps) = unwrap_or (option_map (λ gift. (gift, steps)) (gift_of out step)) (next_gift out steps)

-- the first of events that are given as they are
abbrev pub next_event : List HostEvent → HostEvent × List HostEvent
next_event [] = (Ended, [])
next_event (first ∷ events) = (first, events)

-- a message with the result of a run that nothing stopped, of its job's kind, whose JSON is plain
pub record FinishesAt (answer : SnapshotData → Ask → OutcomeSpec) (entry : ℕ × Job) (message : TaskMsg) : Type 0 where
  pub number : message.job ≡ entry.0
  pub result : IsFinal (final_of message.body) (IsResultOf answer entry.1)
  pub fits : fits_job entry.1 message.body ≡ true
  pub uncancelled : IsFinal (final_of message.body) IsUncancelled

abbrev pub IsGift : (SnapshotData → Ask → OutcomeSpec) → Gift → HostEvent → Type 0
IsGift answer (event given) coming = coming ≡ given
IsGift answer (results entries) coming = (batch : List TaskMsg) × (coming ≡ Tasks batch)
    × AllZip (FinishesAt answer) entries batch

-- what a step gave, if anything
abbrev pub IsGiven : (SnapshotData → Ask → OutcomeSpec) → Option Gift → Option HostEvent → Type 0
IsGiven answer None None = Unit {0}
IsGiven answer None (Some coming) = ⊥
IsGiven answer (Some gift) None = ⊥
IsGiven answer (Some gift) (Some coming) = IsGift answer gift coming

-- the event is the first that the script gives, and the steps after it are left
pub record IsNext (answer : SnapshotData → Ask → OutcomeSpec) (next : Gift × List ScriptStep) (coming : HostEvent)
    (left : List ScriptStep) : Type 0 where
  pub gift : IsGift answer next.0 coming
  pub rest : left ≡ next.1

-- the jobs out and the last number handed over, the steps left, the calls, and which of them are to fail
pub record ScriptData : Type 0 where
  pub out : Jobs
  pub last_job : ℕ
  pub steps : List ScriptStep
  pub calls : List HostCall
  pub plan : PlanData

abbrev pub new_script : List ScriptStep → List ℕ → ScriptData
new_script steps fails = record { out = map.empty; last_job = 0; steps = steps; calls = []; plan = no_calls fails }

-- the jobs out and the last number handed over, the events left, and the calls
pub record HostileData : Type 0 where
  pub out : Jobs
  pub last_job : ℕ
  pub events : List HostEvent
  pub calls : List HostCall

abbrev pub new_hostile : List HostEvent → HostileData
new_hostile events = record { out = map.empty; last_job = 0; events = events; calls = [] }

abbrev pub is_end : HostEvent → Bool
is_end Ended = true
is_end other = false

-- events without the ends that stand behind all others
abbrev pub without_ends : List HostEvent → List HostEvent
without_ends [] = []
without_ends (first ∷ later) =
    let rest = without_ends later in
    cond (is_end first && (length rest == 0)) [] (first ∷ rest)
