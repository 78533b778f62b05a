-- What the session asks of an event and of a command, each by one question.
use Rattle.std.specs.Prelude.{ℕ, List, [], Bool, true, false, Option, None, Some}
use Rattle.session_port.specs.declared.command.Command.{Command}
use Rattle.session_port.specs.declared.command.Command.TheVariants.{Spawn, Revise}
use Rattle.session_port.specs.declared.event.HostEvent.{HostEvent}
use Rattle.session_port.specs.declared.event.HostEvent.TheVariants.{Bytes, Tasks, Flycheck, TestResult, DiscoverProject}
use Rattle.session_port.specs.declared.event.TaskMsg.{TaskMsg}
use Rattle.session_port.specs.declared.job.Job.{Job}

-- the bytes that an event brings
abbrev pub event_bytes : HostEvent → List ℕ
event_bytes (Bytes bytes) = bytes
event_bytes other = []

-- the messages of jobs that an event brings
abbrev pub batch_in : HostEvent → List TaskMsg
batch_in (Tasks batch) = batch
batch_in other = []

-- an event brings what checks, a test run or discoveries tell
abbrev pub is_news : HostEvent → Bool
is_news (Flycheck messages) = true
is_news (TestResult messages) = true
is_news (DiscoverProject messages) = true
is_news other = false

-- the job that a command hands over
abbrev pub job_of : Command → Option Job
job_of (Spawn job) = Some job
job_of other = None

-- the revision that a command tells
abbrev pub revision_of : Command → Option ℕ
revision_of (Revise revision) = Some revision
revision_of other = None
