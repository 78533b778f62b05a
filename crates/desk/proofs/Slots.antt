-- What a job for a part of a request is, by its row.
use Rattle.std.proofs.Common.{◌≡◌, refl, ap}
use Rattle.std.specs.Prelude.{List, None, Option, Result, Some, ℕ}
use Rattle.std.specs.Option.{option_map}
use Rattle.session_port.proofs.Facts.{slot-facts}
use Rattle.session_port.specs.Kinds.{slot_of, ticket_of_job}
use Rattle.session_port.specs.declared.job.JobKind.{JobKind}
use Rattle.session_port.specs.declared.job.JobKind.TheVariants.{Request, Part, Diagnostics, Tests, Indexed, ProcMacroSources, CheckScope}
use Rattle.session_port.specs.declared.job.JobKind.TheVariants.{Prime, FetchWorkspaces, FetchBuildData, LoadProcMacros}
use Rattle.session_port.specs.declared.job.JobResult.{JobResult}
use Rattle.session_port.specs.declared.kinds.Slot.{Slot}
use Rattle.desk.specs.WorkEnds.{work_end_of}

none-some : {X P : Type 0} (x : X) → None ≡ Some x → P
none-some x e = absurd cc

-- it is for the request of its slot
pub ticket_of_slot : (kind : JobKind) (slot : Slot) → slot_of kind ≡ Some slot → ticket_of_job kind ≡ Some slot.ticket
ticket_of_slot kind slot is = ap (option_map (λ (s : Slot). s.ticket)) is

-- and ends none of the session's own work
pub slot_ends_nothing : (kind : JobKind) (slot : Slot) (result : JobResult) → slot_of kind ≡ Some slot → work_end_of kind result ≡ None
slot_ends_nothing (Request ticket row params) slot result is = refl
slot_ends_nothing (Part ticket part row params files) slot result is = refl
slot_ends_nothing (Diagnostics generation pass files) slot result is = none-some slot is
slot_ends_nothing (Tests files) slot result is = none-some slot is
slot_ends_nothing (Indexed file path) slot result is = none-some slot is
slot_ends_nothing (ProcMacroSources files) slot result is = none-some slot is
slot_ends_nothing (CheckScope file path) slot result is = none-some slot is
slot_ends_nothing Prime slot result is = none-some slot is
slot_ends_nothing (FetchWorkspaces projects detached path force) slot result is = none-some slot is
slot_ends_nothing (FetchBuildData version) slot result is = none-some slot is
slot_ends_nothing (LoadProcMacros paths ignored) slot result is = none-some slot is
