-- How the logic stores what contracts see of hosts.
use Rattle.std.specs.Prelude.{◌≡◌, ◌⊎◌, ℕ, Bool, List, Option, refl}
use Rattle.std.specs.Coded.{Coded, code_by, coded×, coded⊎, coded_ℕ, coded_bool, coded_list, coded_option}
use Rattle.std.specs.FinMap as map
use Rattle.std.proofs.Common.{inl, inr}
use Rattle.session_port.specs.Jobs.{Jobs}
use Rattle.session_port.specs.Record.{HostCall, gave, took}
use Rattle.inline_host.specs.Inline.{InlineData}
use Rattle.inline_host.specs.Orders.{Orders}
use Rattle.session_port.specs.declared.command.Command.{Command}
use Rattle.session_port.specs.declared.command.DeferredTask.{DeferredTask}
use Rattle.session_port.specs.declared.event.HostEvent.{HostEvent}
use Rattle.session_port.specs.declared.job.Job.{Job}

-- a call, as one of two
abbrev pub split : HostCall → HostEvent ⊎ List Command
split (gave event) = inl event
split (took commands) = inr commands

abbrev pub join : HostEvent ⊎ List Command → HostCall
join (inl event) = gave event
join (inr commands) = took commands

abbrev pub join-split : (call : HostCall) → join (split call) ≡ call
join-split (gave event) = refl
join-split (took commands) = refl

-- given how their parts are stored
abbrev pub call_code : Coded HostEvent → Coded Command → Coded HostCall
call_code event command = code_by (HostEvent ⊎ List Command) (coded⊎ event (coded_list command)) split join join-split

abbrev pub jobs_code : Coded Job → Coded (Jobs × ℕ)
jobs_code job = coded× (map.code coded_ℕ job) coded_ℕ

abbrev pub orders_code : Coded DeferredTask → Coded Orders
orders_code task =
    code_by (List ℕ × (List DeferredTask × Option ℕ))
    (coded× (coded_list coded_ℕ) (coded× (coded_list task) (coded_option coded_ℕ)))
    (λ o. (o.loaders, (o.deferred, o.timer))) (λ p. record { loaders = p.0; deferred = p.1.0; timer = p.1.1 })
    (λ _. refl)

abbrev pub inline_code : Coded Job → Coded DeferredTask → Coded HostCall → Coded InlineData
inline_code job task call =
    code_by (((Jobs × ℕ) × Orders) × ((List ℕ × Option (List ℕ)) × ((ℕ × Bool) × Option (List HostCall))))
    (coded× (coded× (jobs_code job) (orders_code task))
    (coded× (coded× (coded_list coded_ℕ) (coded_option (coded_list coded_ℕ)))
    (coded× (coded× coded_ℕ coded_bool) (coded_option (coded_list call)))))
    (λ h. (((h.out, h.last_job), h.orders), ((h.held, h.left), ((h.faults, h.poisoned), h.calls))))
    (λ p. record {
      out = p.0.0.0;
      last_job = p.0.0.1;
      orders = p.0.1;
      held = p.1.0.0;
      left = p.1.0.1;
      faults =
          p.1.1.0.0;
      poisoned = p.1.1.0.1;
      calls = p.1.1.1;
    }) (λ _. refl)
