-- How far some work is, as a client is told that shows it (LSP 3.17, "Work Done Progress").
use Rattle.std.specs.Prelude.{ℕ, ◌++◌, Bool, List, codes, Option, None, Some, is_some, Result, Ok, Err}
use Rattle.std.specs.Prelude.{if◌then◌else◌}
use Rattle.session_port.specs.TurnState.{TurnState, and_then, written}
use Rattle.session_port.specs.declared.fault.Counter.{Counter}
use Rattle.notify.specs.declared.outgo.Outgo.TheVariants.{CreateProgress}
use Rattle.notify.specs.declared.outgo.Outgo.TheVariants.{Progress as ProgressTold}
use Rattle.notify.specs.declared.outgo.ProgressValue.{ProgressValue}
use Rattle.notify.specs.declared.outgo.ProgressValue.TheVariants as values
use Rattle.notify.specs.declared.progress.Progress.{Progress}
use Rattle.notify.specs.declared.progress.Progress.TheVariants as states
use Rattle.ra_config.specs.Config.{ConfigData}
use Rattle.client.specs.Client.{Client}
use Rattle.client.specs.Steps.{asked_for, notification_of}
use Rattle.client.specs.declared.handler.ReqHandler.TheVariants.{Ignore}
use Rattle.client.specs.declared.work.WorkProgress.{WorkProgress}

-- the token of some work: its own, where it can be cancelled, else one by its title
abbrev pub token_by : List ℕ → Option (List ℕ) → List ℕ
token_by title None = codes "rustAnalyzer/" ++ title
token_by title (Some token) = token

abbrev pub token_of : WorkProgress → List ℕ
token_of work = token_by work.title work.cancel_token

-- what is told of it
abbrev pub value_at : Progress → WorkProgress → ProgressValue
value_at states.Begin work = values.Begin (is_some work.cancel_token) work.message work.percentage work.title
value_at states.Report work = values.Report (is_some work.cancel_token) work.message work.percentage
value_at states.End work = values.End work.message

-- the client is asked to show a token, where the work of it begins
unfoldable pub token_shown : Progress → List ℕ → TurnState Client → Result (TurnState Client) Counter
token_shown states.Begin token w = asked_for (CreateProgress token) Ignore w
token_shown states.Report token w = Ok w
token_shown states.End token w = Ok w

unfoldable pub progress_shown : WorkProgress → TurnState Client → Result (TurnState Client) Counter
progress_shown work w = and_then (token_shown work.state (token_of work) w)
    (λ v. Ok (written (notification_of (ProgressTold (token_of work) (value_at work.state work))) v))

-- the client shows progress
abbrev pub shows_progress : ConfigData → Bool
shows_progress settings = settings.capabilities.work_done_progress

-- a client that shows progress is told how far some work is
unfoldable pub progress_reported : WorkProgress → TurnState Client → Result (TurnState Client) Counter
progress_reported work w = if shows_progress w.state.settings then progress_shown work w else Ok w
