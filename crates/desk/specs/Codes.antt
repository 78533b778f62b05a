-- How the logic stores what contracts see of a desk.
use Rattle.std.specs.Prelude.{ℕ, Bool, refl}
use Rattle.std.specs.Coded.{Coded, code_by, coded×, coded_ℕ, coded_bool}
use Rattle.std.specs.FinMap as map
use Rattle.lsp_frame.specs.Pending.{Pending, pending_code}
use Rattle.session_port.specs.Jobs.{Jobs}
use Rattle.session_port.specs.declared.job.Job.{Job}
use Rattle.desk.specs.Desk.{Desk}

-- given how jobs are stored
abbrev pub desk_code : Coded Job → Coded Desk
desk_code job =
    code_by ((ℕ × ℕ) × (Pending × (Jobs × Bool)))
    (coded× (coded× coded_ℕ coded_ℕ) (coded× pending_code (coded× (map.code coded_ℕ job) coded_bool)))
    (λ d. ((d.turns, d.last_job), (d.pending, (d.jobs, d.shutdown))))
    (λ p. record { turns = p.0.0; last_job = p.0.1; pending = p.1.0; jobs = p.1.1.0; shutdown = p.1.1.1 }) (λ _. refl)
