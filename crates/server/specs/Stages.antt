-- How a handshake goes on: what it waits for, and what it answers each input (LSP 3.17, "Server lifecycle").
use Rattle.std.specs.Prelude.{ℕ, true, false, List, [], ◌∷◌, ◌++◌, Option, None, Some, option_to_list, Result, Ok, Err}
use Rattle.analysis_host.specs.declared.server_info.ServerInfo.{ServerInfo}
use Rattle.lsp_frame.specs.declared.message.Message.{Message}
use Rattle.lsp_frame.specs.declared.message.RequestId.{RequestId}
use Rattle.lsp_frame.specs.declared.message.Response.{Response}
use Rattle.lsp_frame.specs.Handshake.{step_of}
use Rattle.lsp_frame.specs.declared.step.Step.{Step}
use Rattle.lsp_frame.specs.declared.step.Step.TheVariants.{Initialize, Refuse, Ignore, Initialized, Exit}
use Rattle.ra_config.specs.Config.{ConfigData}
use Rattle.ra_config.specs.Initialize.{initial_config}
use Rattle.ra_config.specs.declared.initialize.ConfigFault.{ConfigFault}
use Rattle.ra_config.specs.declared.initialize.ConfigFault.TheVariants.{NoRoot}
use Rattle.session_laws.specs.Event.TheVariants.{Lsp, Task, Vfs, Deferred, News, Timer}
use Rattle.session_laws.specs.Input.{Input}
use Rattle.session_laws.specs.Input.TheVariants.{Start, Next}
use Rattle.server.specs.Replies.{welcome, no_workspace}

-- what a handshake goes by: how many threads the settings name, and what the server says of itself
pub record Setup : Type 0 where
  pub threads : ℕ
  pub info : ServerInfo

-- what a handshake waits for: an `initialize`, or `initialized` with the settings of the `initialize` that was
-- accepted; or it is over
pub data Stage : Type 0 where
  awaits_initialize : Stage
  awaits_initialized : ConfigData → Stage
  begun : ConfigData → Stage

-- what an input is answered, and what the handshake waits for then
pub record Outcome : Type 0 where
  pub reply : Option Response
  pub stage : Stage

-- nothing is answered
abbrev pub quiet : Stage → Outcome
quiet stage = record { reply = None; stage = stage }

abbrev pub with_reply : Response → Stage → Outcome
with_reply response stage = record { reply = Some response; stage = stage }

-- an `initialize` is accepted where settings come of its params; else it is refused, and the handshake begins anew
abbrev pub by_settings : ServerInfo → RequestId → Result ConfigData ConfigFault → Outcome
by_settings info id (Ok config) = with_reply (welcome info id config) (awaits_initialized config)
by_settings info id (Err NoRoot) = with_reply (no_workspace id) awaits_initialize

-- `initialized` begins the session
abbrev pub begin : Stage → Stage
begin awaits_initialize = awaits_initialize
begin (awaits_initialized config) = begun config
begin (begun config) = begun config

-- what a step comes to; `exit` is no input
abbrev pub by_step : Setup → Stage → Step → Outcome
by_step setup stage (Initialize id params) = by_settings setup.info id (initial_config params setup.threads)
by_step setup stage (Refuse response) = with_reply response stage
by_step setup stage Ignore = quiet stage
by_step setup stage Initialized = quiet (begin stage)
by_step setup stage Exit = quiet stage

-- what a message comes to
abbrev pub by_message : Setup → Stage → Message → Outcome
by_message setup awaits_initialize message = by_step setup awaits_initialize (step_of false message)
by_message setup (awaits_initialized config) message = by_step setup (awaits_initialized config) (step_of true message)
by_message setup (begun config) message = quiet (begun config)

-- what an input comes to: what is no message is passed over
abbrev pub by_input : Setup → Stage → Input → Outcome
by_input setup stage Start = quiet stage
by_input setup stage (Next (Lsp message)) = by_message setup stage message
by_input setup stage (Next (Task batch)) = quiet stage
by_input setup stage (Next (Vfs messages)) = quiet stage
by_input setup stage (Next (Deferred tasks)) = quiet stage
by_input setup stage (Next (News news)) = quiet stage
by_input setup stage (Next (Timer ticket)) = quiet stage

-- what the handshake waits for after inputs, each on what those before it leave
abbrev pub stage_after : Setup → Stage → List Input → Stage
stage_after setup stage [] = stage
stage_after setup stage (input ∷ inputs) = stage_after setup (by_input setup stage input).stage inputs

-- what they are answered
abbrev pub replies_to : Setup → Stage → List Input → List Response
replies_to setup stage [] = []
replies_to setup stage (input ∷ inputs) =
    option_to_list (by_input setup stage input).reply ++ replies_to setup (by_input setup stage input).stage inputs
