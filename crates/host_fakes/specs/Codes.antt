-- How the logic stores what contracts see of hosts that follow a list.
use Rattle.std.specs.Prelude.{ℕ, List, refl}
use Rattle.std.specs.Coded.{Coded, code_by, coded×, coded_ℕ, coded_list}
use Rattle.inline_host.specs.Codes.{jobs_code}
use Rattle.host_fakes.specs.Memory.{PlanData}
use Rattle.session_port.specs.Jobs.{Jobs}
use Rattle.session_port.specs.Record.{HostCall}
use Rattle.host_fakes.specs.Script.{ScriptData, HostileData}
use Rattle.session_port.specs.declared.event.HostEvent.{HostEvent}
use Rattle.session_port.specs.declared.job.Job.{Job}
use Rattle.host_fakes.specs.declared.script.ScriptStep.{ScriptStep}

abbrev pub plan_code : Coded PlanData
plan_code =
    code_by (List ℕ × (ℕ × ℕ)) (coded× (coded_list coded_ℕ) (coded× coded_ℕ coded_ℕ))
    (λ p. (p.fails, (p.made, p.faults))) (λ p. record { fails = p.0; made = p.1.0; faults = p.1.1 }) (λ _. refl)

-- given how their parts are stored
abbrev pub script_code : Coded Job → Coded ScriptStep → Coded HostCall → Coded ScriptData
script_code job step call =
    code_by ((Jobs × ℕ) × ((List ScriptStep × PlanData) × List HostCall))
    (coded× (jobs_code job) (coded× (coded× (coded_list step) plan_code) (coded_list call)))
    (λ h. ((h.out, h.last_job), ((h.steps, h.plan), h.calls)))
    (λ p. record { out = p.0.0; last_job = p.0.1; steps = p.1.0.0; plan = p.1.0.1; calls = p.1.1 }) (λ _. refl)

abbrev pub hostile_code : Coded Job → Coded HostEvent → Coded HostCall → Coded HostileData
hostile_code job event call =
    code_by ((Jobs × ℕ) × (List HostEvent × List HostCall))
    (coded× (jobs_code job) (coded× (coded_list event) (coded_list call)))
    (λ h. ((h.out, h.last_job), (h.events, h.calls)))
    (λ p. record { out = p.0.0; last_job = p.0.1; events = p.1.0; calls = p.1.1 }) (λ _. refl)
