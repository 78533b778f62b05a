-- What comes is honest.
use Rattle.std.proofs.Common.{List, ℕ, sym, subst}
use Rattle.analysis_host.specs.Answers.{OutcomeSpec}
use Rattle.analysis_host.specs.SnapshotData.{SnapshotData}
use Rattle.analysis_host.specs.declared.ask.Ask.{Ask}
use Rattle.inline_host.proofs.Fitting.{honest_end}
use Rattle.session_port.specs.Honest.{AreHonest, IsHonest}
use Rattle.session_port.specs.Jobs.{Jobs, final_of}
use Rattle.session_port.specs.declared.event.HostEvent.{HostEvent}
use Rattle.session_port.specs.declared.event.HostEvent.TheVariants as events
use Rattle.session_port.specs.declared.event.TaskMsg.{TaskMsg}
use Rattle.task_pool.specs.Threaded.{Comes, IsOneResult, ThreadedData}

one_result : (answer : SnapshotData → Ask → OutcomeSpec) (out : Jobs) (revision : ℕ) (batch : List TaskMsg) → IsOneResult answer out revision batch → AreHonest answer out batch
one_result answer out revision batch one =
    subst (λ messages. AreHonest answer out messages) (sym one.one)
    (honest_end answer out one.message.job one.job (final_of one.message.body) one.is_out one.is, tt)

pub honest : (answer : SnapshotData → Ask → OutcomeSpec) (h : ThreadedData) (event : HostEvent) → Comes answer h event → IsHonest answer h.out event
honest answer h (events.Bytes piece) comes = tt
honest answer h events.Ended comes = tt
honest answer h (events.Tasks batch) comes = one_result answer h.out h.revision batch comes.1
honest answer h (events.Vfs messages) comes = tt
honest answer h (events.DeferredTask tasks) comes = tt
honest answer h (events.Timer ticket) comes = tt
honest answer h (events.Flycheck messages) comes = tt
honest answer h (events.TestResult messages) comes = tt
honest answer h (events.DiscoverProject messages) comes = tt
