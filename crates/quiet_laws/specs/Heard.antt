-- Quiet by the lists alone: what the inputs and the commands of all turns so far say.
use Rattle.std.specs.Prelude.{◌≡◌, ◌≤◌, ℕ, ◌==◌, Bool, false, List, [], ◌∷◌, Option, None, Some, if◌then◌else◌}
use Rattle.std.specs.List.{filter_map}
use Rattle.session_port.specs.Jobs.{Jobs}
use Rattle.session_port.specs.declared.command.Command.{Command}
use Rattle.session_port.specs.declared.command.Command.TheVariants.{Timer as SetTimer}
use Rattle.session_port.specs.declared.event.LoaderMsg.{LoaderMsg}
use Rattle.session_port.specs.declared.event.LoaderMsg.TheVariants.{Changed, Loaded, Progress}
use Rattle.session_model.specs.Documents.{loading_after}
use Rattle.session_model.specs.Places.{last_of}
use Rattle.session_model.specs.Run.{Turn}
use Rattle.session_model.specs.declared.input.Event.TheVariants.{Vfs, Timer}
use Rattle.session_model.specs.declared.input.Input.{Input}
use Rattle.session_model.specs.declared.input.Input.TheVariants.{Next}
use Rattle.session_laws.specs.Invariant.{IsNoneOut, is_build, is_fetch, is_load}
use Rattle.session_laws.specs.Ordered.{loader_version}

pub record Heard : Type 0 where
  -- the last progress of the loader was not its end
  pub loading : Bool
  -- the version of the settings that it spoke of, else 0
  pub progress_version : ℕ
  -- the timer that was ordered last, where it was not given since
  pub timer : Option ℕ
  -- the version of the settings that the loader was given last, else 0
  pub loader_version : ℕ

abbrev pub nothing_heard : Heard
nothing_heard = record { loading = false; progress_version = 0; timer = None; loader_version = 0 }

-- ---- the loader's progress

-- the version that a message speaks of, else the one before
abbrev pub progress_after_message : LoaderMsg → ℕ → ℕ
progress_after_message (Changed files) version = version
progress_after_message (Loaded files) version = version
progress_after_message (Progress total done dir version) before = version

abbrev pub progress_after_messages : List LoaderMsg → ℕ → ℕ
progress_after_messages [] version = version
progress_after_messages (message ∷ later) version =
    progress_after_messages later (progress_after_message message version)

abbrev pub progress_after : Input → ℕ → ℕ
progress_after (Next (Vfs messages)) version = progress_after_messages messages version
progress_after other version = version

-- ---- timers

abbrev pub is_ticket : ℕ → Option ℕ → Bool
is_ticket ticket None = false
is_ticket ticket (Some other) = other == ticket

-- where the timer is given that was ordered last, none is to come
abbrev pub timer_left : Input → Option ℕ → Option ℕ
timer_left (Next (Timer ticket)) timer = if is_ticket ticket timer then None else timer
timer_left other timer = timer

-- the ticket of a timer that is ordered
abbrev pub timer_of : Command → Option ℕ
timer_of (SetTimer ticket) = Some ticket
timer_of other = None

-- the last of these, else the one before
abbrev pub newest : List ℕ → Option ℕ → Option ℕ
newest [] before = before
newest (number ∷ numbers) before = newest numbers (Some number)

-- ---- turns

abbrev pub heard_after : Turn → Heard → Heard
heard_after turn heard = record {
  loading = loading_after turn.input heard.loading;
  progress_version = progress_after turn.input heard.progress_version;
  timer = newest (filter_map timer_of turn.commands) (timer_left turn.input heard.timer);
  loader_version = last_of (filter_map loader_version turn.commands) heard.loader_version;
}

abbrev pub heard_after_all : List Turn → Heard → Heard
heard_after_all [] heard = heard
heard_after_all (turn ∷ turns) heard = heard_after_all turns (heard_after turn heard)

-- no files are loading, no timer is to come, no job out fetches workspaces, makes build data or loads macros, and the
-- loader has come to the settings that it was given last. Projects are not discovered yet, so none is counted
pub record IsQuietBy (heard : Heard) (out : Jobs) : Type 0 where
  pub loading : heard.loading ≡ false
  pub timer : heard.timer ≡ None
  pub fetches : IsNoneOut is_fetch out
  pub builds : IsNoneOut is_build out
  pub loads : IsNoneOut is_load out
  pub loader : heard.loader_version ≤ heard.progress_version
