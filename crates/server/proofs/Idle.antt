-- A host to which no job was handed.
use Rattle.std.proofs.Common.{◌≡◌, List, [], ◌∷◌, refl, ap, ◌∙◌}
use Rattle.std.specs.FinMap as map
use Rattle.std.specs.Ordering.{nat_cmp}
use Rattle.session_port.specs.Jobs.{after_batch, jobs_after}
use Rattle.session_port.specs.declared.event.TaskMsg.{TaskMsg}

-- it has none out after a batch
pub batch-none : (batch : List TaskMsg) → after_batch batch map.empty ≡ map.empty {R = nat_cmp}
batch-none [] = refl
batch-none (message ∷ batch) =
    let none : jobs_after message map.empty ≡ map.empty = rw (map.get-empty nat_cmp message.job) refl in
    ap (after_batch batch) none ∙ batch-none batch
