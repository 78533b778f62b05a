-- What a step of the desk has done.
use Rattle.std.specs.Prelude.{length, List, None, Option, ℕ, ◌++◌, ◌+◌, ◌≡◌}
use Rattle.std.specs.List.{filter_map}
use Rattle.lsp_frame.specs.declared.message.Request.{Request}
use Rattle.session_port.specs.Jobs.{Jobs}
use Rattle.session_port.specs.Record.{spawned}
use Rattle.session_port.specs.declared.command.Command.{Command}
use Rattle.project_model.specs.declared.check_scope.CheckScope.{CheckScope}
use Rattle.session_port.specs.declared.command.Command.TheVariants.{Defer, Spawn, Log}
use Rattle.session_port.specs.declared.command.Command.TheVariants as commands
use Rattle.session_port.specs.declared.command.DiscoverArg.{DiscoverArg}
use Rattle.session_port.specs.declared.command.DeferredTask.{DeferredTask}
use Rattle.session_port.specs.declared.command.LogCode.{LogCode}
use Rattle.session_port.specs.declared.job.Job.{Job}
use Rattle.session_port.specs.TurnState.{TurnState}
use Rattle.desk.specs.Desk.{Desk}
use Rattle.desk.specs.Folds.{asked_among, pending_after, shutdown_after}
use Rattle.desk.specs.Reactions.{Reaction, responses_of}

-- neither a job nor a log line nor a task that is put off has the number that is asked of commands, nor has an order to
-- work beside the jobs
pub record PassesOver (number_of : Command → Option ℕ) : Type 0 where
  pub jobs : (job : Job) → number_of (Spawn job) ≡ None
  pub logs : (code : LogCode) (text : List ℕ) → number_of (Log code text) ≡ None
  pub defers : (task : DeferredTask) → number_of (Defer task) ≡ None
  pub sets : (checks : List (ℕ × List ℕ)) → number_of (commands.SetChecks checks) ≡ None
  pub restarts : (id : ℕ) (scope : CheckScope) → number_of (commands.RestartCheck id scope) ≡ None
  pub cancels : (id : ℕ) → number_of (commands.CancelCheck id) ≡ None
  pub runs : (include exclude : Option (List (List ℕ))) → number_of (commands.RunTest include exclude) ≡ None
  pub stops : number_of commands.StopTest ≡ None
  pub discovers : (arg : DiscoverArg) → number_of (commands.Discover arg) ≡ None

-- between these two these messages were written and no other, and these jobs handed over, and this request, if any, was
-- read by the turn that is counted. These jobs
-- of earlier turns are out, nothing was ordered but jobs, log lines and tasks that are put off, and the turns stay
pub record Settled (request : Option Request) (w v : TurnState Desk) (done : Reaction) (jobs : Jobs) : Type 0 where
  pub written : v.out.messages ≡ w.out.messages ++ done.messages
  pub spawns : spawned v.out.commands ≡ spawned w.out.commands ++ done.jobs
  -- each of the jobs is for a request
  pub asked : asked_among done.jobs ≡ done.jobs
  pub others : (number_of : Command → Option ℕ) → PassesOver number_of
      → filter_map number_of v.out.commands ≡ filter_map number_of w.out.commands
  pub turns : v.state.turns ≡ w.state.turns
  pub pending : v.state.pending ≡ pending_after w.state.turns request (responses_of done) w.state.pending
  pub out : v.state.jobs ≡ jobs
  pub last_job : v.state.last_job ≡ w.state.last_job + length done.jobs
  pub shutdown : v.state.shutdown ≡ shutdown_after request (responses_of done) w.state.shutdown
