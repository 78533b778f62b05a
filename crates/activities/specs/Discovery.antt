-- Discoveries of projects: how many are ordered and in progress, and what is told of them.
use Rattle.std.specs.Prelude.{ℕ, ◌+◌, ◌-◌, ◌==◌, Bool, List, [], ◌∷◌, ◌++◌, codes, Option, None, Some, if◌then◌else◌}
use Rattle.std.specs.Prelude.{Result, Ok, is_some, ◌&&◌}
use Rattle.ra_config.specs.Config.{ConfigData}
use Rattle.session_port.specs.TurnState.{and_then, next_number}
use Rattle.session_port.specs.declared.command.DiscoverArg.{DiscoverArg}
use Rattle.session_port.specs.declared.command.LogCode.TheVariants.{DiscoverWithoutSettings, DiscoverError}
use Rattle.session_port.specs.declared.fault.Counter.{Counter}
use Rattle.session_port.specs.declared.fault.Counter.TheVariants.{Discoveries}
use Rattle.session_port.specs.declared.news.DiscoverMsg.{DiscoverMsg}
use Rattle.session_port.specs.declared.news.DiscoverMsg.TheVariants.{Finished, Progress, Error}
use Rattle.activities.specs.Settings.{discovery_label}
use Rattle.activities.specs.Announced.{Announced, telling, behind}
use Rattle.activities.specs.declared.telling.Telling.{Telling}
use Rattle.activities.specs.declared.telling.Telling.TheVariants.{Begin, Report, End, ShowError, Log, Discover}

pub record Discovery : Type 0 where
  -- how many were ordered
  pub given : ℕ
  -- how many of them are in progress
  pub active : ℕ

-- none is in progress, and so many were ordered before
abbrev pub no_discovery_at : ℕ → Discovery
no_discovery_at given = record { given = given; active = 0 }

-- ---- its order

-- the first one in progress begins the work that is told under this label
abbrev pub begins : List ℕ → Discovery → List Telling
begins label discovery = if discovery.active == 0 then Begin label None None None ∷ [] else []

abbrev pub one_more : ℕ → Discovery → Discovery
one_more number discovery = record { given = number; active = discovery.active + 1 }

-- a discovery is ordered for this, unless all numbers were given
abbrev pub ordered : List ℕ → DiscoverArg → Discovery → Result (Announced Discovery) Counter
ordered label arg discovery =
    and_then (next_number discovery.given Discoveries)
    (λ number. Ok (telling (begins label discovery ++ Discover arg ∷ []) (one_more number discovery)))

-- ---- its end

abbrev pub one_less : Discovery → Discovery
one_less discovery = record discovery { active = discovery.active - 1 }

-- behind the last one in progress the work has ended
abbrev pub ends : List ℕ → Option (List ℕ) → Discovery → List Telling
ends label message discovery = if discovery.active == 0 then End label None message ∷ [] else []

-- the error, and on a second line its source where it has one
abbrev pub error_log : List ℕ → Option (List ℕ) → List ℕ
error_log error None = error
error_log error (Some source) = error ++ (10 ∷ source)

abbrev pub error_shown : List ℕ → List ℕ
error_shown error = codes "Project discovery failed: " ++ error

-- ---- what is told of it

-- how far one is, while some are in progress
abbrev pub reported : List ℕ → List ℕ → Discovery → List Telling
reported label message discovery = if discovery.active == 0 then [] else Report label None (Some message) None ∷ []

-- an error is logged and shown; where it has a source, with the button that opens the logs, if the client has it
abbrev pub shown : Bool → List ℕ → Option (List ℕ) → List Telling
shown opens_logs error source =
    Log DiscoverError (error_log error source) ∷ ShowError (error_shown error) (is_some source && opens_logs) ∷ []

-- one has ended; behind the last one in progress the work has ended, with this message
abbrev pub ended : List ℕ → Option (List ℕ) → Discovery → Announced Discovery
ended label message discovery = telling (ends label message (one_less discovery)) (one_less discovery)

-- a message of a discovery that is told under this label
abbrev pub told_under : List ℕ → Bool → DiscoverMsg → Discovery → Announced Discovery
told_under label opens_logs (Progress message) discovery = telling (reported label message discovery) discovery
told_under label opens_logs (Finished project buildfile) discovery = ended label None discovery
told_under label opens_logs (Error error source) discovery =
    behind (shown opens_logs error source) (ended label (Some (error_shown error)) discovery)

abbrev pub told_if : Option (List ℕ) → Bool → DiscoverMsg → Discovery → Announced Discovery
told_if None opens_logs message discovery = telling (Log DiscoverWithoutSettings [] ∷ []) discovery
told_if (Some label) opens_logs message discovery = told_under label opens_logs message discovery

-- a message of a discovery; where none is set it is only logged
abbrev pub discovery_told : ConfigData → DiscoverMsg → Discovery → Announced Discovery
discovery_told settings message discovery =
    told_if (discovery_label settings) settings.capabilities.open_server_logs message discovery
