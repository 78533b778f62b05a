-- Runs of the calls on discoveries: what they did, one act after another. A run has its last act first.
use Rattle.std.specs.Prelude.{ℕ, ◌+◌, ◌==◌, Bool, true, false, List, [], ◌∷◌, Option, None, Some, Result, Ok, Err}
use Rattle.std.specs.Prelude.{is_ok}
use Rattle.std.specs.Prelude.{if◌then◌else◌}
use Rattle.std.specs.List.{count_by}
use Rattle.ra_config.specs.Config.{ConfigData}
use Rattle.session_port.specs.declared.command.DiscoverArg.{DiscoverArg}
use Rattle.session_port.specs.declared.fault.Counter.{Counter}
use Rattle.session_port.specs.declared.news.DiscoverMsg.{DiscoverMsg}
use Rattle.session_port.specs.declared.news.DiscoverMsg.TheVariants.{Progress}
use Rattle.activities.specs.Discovery.{Discovery, no_discovery_at, ordered, discovery_told}
use Rattle.activities.specs.Settings.{discovery_label}
use Rattle.activities.specs.Announced.{Announced, silent}
use Rattle.activities.specs.declared.telling.Telling.{Telling}
use Rattle.activities.specs.declared.telling.Telling.TheVariants.{Begin, End}

pub data DiscoveryAct : Type 0 where
  -- a discovery is ordered, under this label
  Orders : List ℕ → DiscoverArg → DiscoveryAct
  Tells : ConfigData → DiscoverMsg → DiscoveryAct

-- an order that a counter refuses leaves all as it was
abbrev pub or_silent : Discovery → Result (Announced Discovery) Counter → Announced Discovery
or_silent discovery (Ok told) = told
or_silent discovery (Err counter) = silent discovery

-- what an act does
abbrev pub discovery_step : DiscoveryAct → Discovery → Announced Discovery
discovery_step (Orders label arg) discovery = or_silent discovery (ordered label arg discovery)
discovery_step (Tells settings message) discovery = discovery_told settings message discovery

-- after a run, where so many were ordered before
abbrev pub discovery_after : ℕ → List DiscoveryAct → Discovery
discovery_after given [] = no_discovery_at given
discovery_after given (act ∷ before) = (discovery_step act (discovery_after given before)).state

-- a discovery was ordered
abbrev pub orders_one : DiscoveryAct → Discovery → ℕ
orders_one (Orders label arg) discovery = if is_ok (ordered label arg discovery) then 1 else 0
orders_one (Tells settings message) discovery = 0

abbrev pub orders_given : ℕ → List DiscoveryAct → ℕ
orders_given given [] = 0
orders_given given (act ∷ before) = orders_one act (discovery_after given before) + orders_given given before

abbrev pub ends_under : Option (List ℕ) → DiscoverMsg → ℕ
ends_under None message = 0
ends_under (Some label) (Progress message) = 0
ends_under (Some label) other = 1

-- a discovery has ended, by the settings of the message
abbrev pub ends_one : DiscoveryAct → ℕ
ends_one (Orders label arg) = 0
ends_one (Tells settings message) = ends_under (discovery_label settings) message

abbrev pub ends_heard : List DiscoveryAct → ℕ
ends_heard [] = 0
ends_heard (act ∷ before) = ends_one act + ends_heard before

abbrev pub is_begin : Telling → Bool
is_begin (Begin title token message percentage) = true
is_begin other = false

abbrev pub is_end : Telling → Bool
is_end (End title token message) = true
is_end other = false

-- how often the work was told to begin
abbrev pub begins_told : ℕ → List DiscoveryAct → ℕ
begins_told given [] = 0
begins_told given (act ∷ before) =
    count_by is_begin (discovery_step act (discovery_after given before)).tellings + begins_told given before

-- the ends that an act tells while some are in progress
abbrev pub ends_in : Discovery → List Telling → ℕ
ends_in discovery tellings = if discovery.active == 0 then 0 else count_by is_end tellings

-- how often the work was told to have ended while some were in progress
abbrev pub ends_told : ℕ → List DiscoveryAct → ℕ
ends_told given [] = 0
ends_told given (act ∷ before) =
    ends_in (discovery_after given before) (discovery_step act (discovery_after given before)).tellings
    + ends_told given before

-- the work goes on: none or once
abbrev pub going_on : Discovery → ℕ
going_on discovery = if discovery.active == 0 then 0 else 1
