-- How the logic stores what contracts see of the host.
use Rattle.std.specs.Prelude.{ℕ, Bool, List, Option, refl}
use Rattle.std.specs.Coded.{Coded, code_by, coded×, coded_ℕ, coded_bool, coded_list, coded_option}
use Rattle.inline_host.specs.Codes.{jobs_code, orders_code}
use Rattle.inline_host.specs.Orders.{Orders}
use Rattle.session_port.specs.Jobs.{Jobs}
use Rattle.session_port.specs.Record.{HostCall}
use Rattle.session_port.specs.declared.command.DeferredTask.{DeferredTask}
use Rattle.session_port.specs.declared.job.Job.{Job}
use Rattle.task_pool.specs.Crews.{CrewData}
use Rattle.task_pool.specs.Threaded.{ThreadedData}
use Rattle.task_pool.specs.Waiting.{WaitingData}

abbrev pub waiting_code : Coded WaitingData
waiting_code =
    code_by (List ℕ × (List ℕ × List ℕ)) (coded× (coded_list coded_ℕ) (coded× (coded_list coded_ℕ) (coded_list coded_ℕ)))
    (λ w. (w.latency, (w.workers, w.formatting))) (λ p. record { latency = p.0; workers = p.1.0; formatting = p.1.1 }) (λ _. refl)

-- given how its parts are stored
abbrev pub crew_code : Coded Job → Coded CrewData
crew_code job =
    code_by ((Jobs × ℕ) × ((Option (List ℕ) × List ℕ) × ℕ))
    (coded× (jobs_code job) (coded× (coded× (coded_option (coded_list coded_ℕ)) (coded_list coded_ℕ)) coded_ℕ))
    (λ c. ((c.out, c.last_job), ((c.held, c.taken), c.revision)))
    (λ p. record { out = p.0.0; last_job = p.0.1; held = p.1.0.0; taken = p.1.0.1; revision = p.1.1 })
    (λ _. refl)

abbrev pub threaded_code : Coded Job → Coded DeferredTask → Coded HostCall → Coded ThreadedData
threaded_code job task call =
    code_by ((CrewData × (WaitingData × Orders)) × (Option (List HostCall) × (ℕ × Bool)))
    (coded× (coded× (crew_code job) (coded× waiting_code (orders_code task))) (coded× (coded_option (coded_list call)) (coded× coded_ℕ coded_bool)))
    (λ h. ((record { out = h.out; last_job = h.last_job; held = h.held; taken = h.taken; revision = h.revision }, (h.waiting, h.orders)), (h.calls, (h.faults, h.poisoned))))
    (λ p. record { out = p.0.0.out; last_job = p.0.0.last_job; waiting = p.0.1.0; orders = p.0.1.1; held = p.0.0.held; taken = p.0.0.taken; revision = p.0.0.revision; calls = p.1.0; faults = p.1.1.0; poisoned = p.1.1.1 })
    (λ _. refl)
