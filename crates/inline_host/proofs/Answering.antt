-- The answers to orders, and what else may come.
use Rattle.std.proofs.Common.{◌≡◌, false, ap, refl, sym, ◌∙◌}
use Rattle.std.specs.Prelude.{Option, None, Some, option_map, Result, Ok, Err, IfOk}
use Rattle.analysis_host.specs.Answers.{OutcomeSpec}
use Rattle.analysis_host.specs.SnapshotData.{SnapshotData}
use Rattle.analysis_host.specs.declared.ask.Ask.{Ask}
use Rattle.host_orders.specs.HostOrders.{next}
use Rattle.host_orders.specs.declared.due_reply.DueReply.{DueReply}
use Rattle.host_orders.specs.declared.due_reply.DueReply.TheVariants.{Loader, Deferred, Timer as DueTimer}
use Rattle.inline_host.specs.Coming.{Comes, source_before}
use Rattle.inline_host.specs.Framed.{FramedData}
use Rattle.inline_host.specs.Orders.{Orders, answer_of, next_answer}
use Rattle.session_port.specs.Events.{is_news}
use Rattle.session_port.specs.Jobs.{Jobs}
use Rattle.session_port.specs.declared.cause.HostError.{HostError}
use Rattle.session_port.specs.declared.command.DeferredTask.{DeferredTask}
use Rattle.session_port.specs.declared.event.HostEvent.{HostEvent}
use Rattle.session_port.specs.declared.event.HostEvent.TheVariants.{Bytes, Ended, Tasks, DeferredTask as DeferredTasks, Vfs}
use Rattle.session_port.specs.declared.event.HostEvent.TheVariants.{Flycheck, TestResult, DiscoverProject, Timer}

-- no order is answered by news
answer-news : (due : DueReply DeferredTask) → is_news (answer_of due) ≡ false
answer-news (Loader version) = refl
answer-news (Deferred tasks) = refl
answer-news (DueTimer ticket) = refl

due-news : (due : Option (DueReply DeferredTask)) (event : HostEvent) → option_map answer_of due ≡ Some event → is_news event ≡ false
due-news None event is = absurd cc
due-news (Some due) event is = let same : answer_of due ≡ event = cc in sym (ap is_news same) ∙ answer-news due

-- so none comes
coming-news : (answer : SnapshotData → Ask → OutcomeSpec) (out : Jobs) (orders : Orders) (before source : FramedData) (event : HostEvent)
    → Comes answer out orders before source event → is_news event ≡ false
coming-news answer out orders before source (Bytes piece) comes = refl
coming-news answer out orders before source Ended comes = refl
coming-news answer out orders before source (Tasks batch) comes = refl
coming-news answer out orders before source (DeferredTasks tasks) comes = refl
coming-news answer out orders before source (Vfs messages) comes = refl
coming-news answer out orders before source (Flycheck messages) comes = due-news (next orders) (Flycheck messages) comes.due
coming-news answer out orders before source (TestResult messages) comes = due-news (next orders) (TestResult messages) comes.due
coming-news answer out orders before source (DiscoverProject messages) comes = due-news (next orders) (DiscoverProject messages) comes.due
coming-news answer out orders before source (Timer ticket) comes = refl

pub result-news : (answer : SnapshotData → Ask → OutcomeSpec) (out : Jobs) (orders : Orders) (before after : FramedData) (result : Result HostEvent HostError)
    → IfOk result (λ event. Comes answer out orders before (source_before event after) event) → IfOk result (λ event. is_news event ≡ false)
result-news answer out orders before after (Err e) comes = tt
result-news answer out orders before after (Ok event) comes = coming-news answer out orders before (source_before event after) event comes
