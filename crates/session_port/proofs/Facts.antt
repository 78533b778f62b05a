-- What follows from the row of a kind of job.
use Rattle.std.proofs.Common.{◌≡◌, ℕ, List, Bool, true, false, refl, sym, ap, ◌∙◌}
use Rattle.std.specs.Prelude.{Option, None, Some, option_and_then, ◌&&◌}
use Rattle.std.specs.Option.{option_map}
use Rattle.docs_vfs.specs.declared.file_kinds.FileId.{FileId}
use Rattle.session_port.specs.Jobs.{final_of, fits_job, fits_kind, is_sound, is_told, plain_result, plain_value}
use Rattle.session_port.specs.Kinds.{AskedFor, asked_for, facts_of, for_slot, is_priming, is_same_kind, kind_of, listed_files, slot_at, slot_of, ticket_of_job}
use Rattle.session_port.specs.Kinds.{value_kind}
use Rattle.session_port.specs.declared.event.TaskBody.{TaskBody}
use Rattle.session_port.specs.declared.event.TaskBody.TheVariants.{Begin, Report, PrimeReport, Final}
use Rattle.session_port.specs.declared.job.Job.{Job}
use Rattle.session_port.specs.declared.job.JobKind.{JobKind}
use Rattle.session_port.specs.declared.job.JobKind.TheVariants.{Request, Part, Diagnostics, Tests, Indexed, ProcMacroSources, CheckScope}
use Rattle.session_port.specs.declared.job.JobKind.TheVariants.{Prime, FetchWorkspaces, FetchBuildData, LoadProcMacros}
use Rattle.session_port.specs.declared.job.JobResult.{JobResult}
use Rattle.session_port.specs.declared.job.JobResult.TheVariants.{Value, Fault, Cancelled, NoMemory}
use Rattle.session_port.specs.declared.job.JobValue.{JobValue}
use Rattle.session_port.specs.declared.job.JobValue.TheVariants as values
use Rattle.session_port.specs.declared.kinds.JobFacts.{JobFacts}
use Rattle.session_port.specs.declared.kinds.Slot.{Slot}
use Rattle.session_port.specs.declared.kinds.ValueKind.{ValueKind}
use Rattle.session_port.specs.declared.kinds.ValueKind.TheVariants as kinds

none-some : {X P : Type 0} (x : X) → None ≡ Some x → P
none-some x e = absurd cc

-- a job for a part of a request has the row of such a job
pub slot-facts : (kind : JobKind) (slot : Slot) → slot_of kind ≡ Some slot → facts_of kind ≡ for_slot slot.ticket slot.part
slot-facts (Request ticket row params) slot is = let same : slot_at ticket 0 ≡ slot = cc in ap (λ (s : Slot). for_slot s.ticket s.part) same
slot-facts (Part ticket part row params files) slot is = let same : slot_at ticket part ≡ slot = cc in ap (λ (s : Slot). for_slot s.ticket s.part) same
slot-facts (Diagnostics generation pass files) slot is = none-some slot is
slot-facts (Tests files) slot is = none-some slot is
slot-facts (Indexed file path) slot is = none-some slot is
slot-facts (ProcMacroSources files) slot is = none-some slot is
slot-facts (CheckScope file path) slot is = none-some slot is
slot-facts Prime slot is = none-some slot is
slot-facts (FetchWorkspaces projects detached path force) slot is = none-some slot is
slot-facts (FetchBuildData version) slot is = none-some slot is
slot-facts (LoadProcMacros paths ignored) slot is = none-some slot is

abbrev pub ticket_in : AskedFor → ℕ
ticket_in r = r.ticket

-- the request that a job keeps is the one that it is for
pub same-ticket : (kind : JobKind) → ticket_of_job kind ≡ option_map ticket_in (asked_for kind)
same-ticket (Request ticket row params) = refl
same-ticket (Part ticket part row params files) = refl
same-ticket (Diagnostics generation pass files) = refl
same-ticket (Tests files) = refl
same-ticket (Indexed file path) = refl
same-ticket (ProcMacroSources files) = refl
same-ticket (CheckScope file path) = refl
same-ticket Prime = refl
same-ticket (FetchWorkspaces projects detached path force) = refl
same-ticket (FetchBuildData version) = refl
same-ticket (LoadProcMacros paths ignored) = refl

-- a job for a part of a request is for the request, and a job for a request is for some part of it
pub slot-ticket : (kind : JobKind) (ticket part : ℕ) → slot_of kind ≡ Some (slot_at ticket part) → ticket_of_job kind ≡ Some ticket
slot-ticket kind ticket part is = ap (option_map (λ (slot : Slot). slot.ticket)) is

pub some-slot : (o : Option Slot) (ticket : ℕ) → option_map (λ (slot : Slot). slot.ticket) o ≡ Some ticket → (part : ℕ) × (o ≡ Some (slot_at ticket part))
some-slot None ticket is = none-some ticket is
some-slot (Some slot) ticket is = let same : slot.ticket ≡ ticket = cc in (slot.part, ap (λ t. Some (slot_at t slot.part)) same)

pub ticket-slot : (kind : JobKind) (ticket : ℕ) → ticket_of_job kind ≡ Some ticket → (part : ℕ) × (slot_of kind ≡ Some (slot_at ticket part))
ticket-slot kind ticket is = some-slot (slot_of kind) ticket is

-- ---- what such a job may say

plain_of : (value : JobValue) (wanted : ValueKind) (sound : Bool) → wanted ≡ kinds.Json → (is_same_kind (kind_of value) wanted && sound) ≡ true
    → is_same_kind (kind_of value) kinds.Json ≡ true
plain_of value wanted sound is fit = ap (is_same_kind (kind_of value)) (sym is) ∙ both (is_same_kind (kind_of value) wanted) sound fit
  where
    both : (a b : Bool) → (a && b) ≡ true → a ≡ true
    both true b h = refl
    both false b h = h

-- the value of a job for a part of a request is plain JSON
plain_value_fits : (value : JobValue) (wanted : ValueKind) (files : List FileId) → wanted ≡ kinds.Json
    → (is_same_kind (kind_of value) wanted && is_sound files value) ≡ true
    → plain_value value ≡ true
plain_value_fits (values.Json value) wanted files is fit = second (is_same_kind kinds.Json wanted) (is_sound files (values.Json value)) fit
  where
    second : (a b : Bool) → (a && b) ≡ true → b ≡ true
    second true b h = h
    second false b h = absurd cc
plain_value_fits (values.Diagnostics lists) wanted files is fit = plain_of (values.Diagnostics lists) wanted (is_sound files (values.Diagnostics lists)) is fit
plain_value_fits (values.Tests tests) wanted files is fit = plain_of (values.Tests tests) wanted (is_sound files (values.Tests tests)) is fit
plain_value_fits (values.Roots paths) wanted files is fit = plain_of (values.Roots paths) wanted true is fit
plain_value_fits values.Primed wanted files is fit = plain_of values.Primed wanted true is fit
plain_value_fits (values.Workspaces results) wanted files is fit = plain_of (values.Workspaces results) wanted true is fit
plain_value_fits (values.BuildData results) wanted files is fit = plain_of (values.BuildData results) wanted true is fit
plain_value_fits (values.ProcMacros macros) wanted files is fit = plain_of (values.ProcMacros macros) wanted true is fit

pub plain_fits : (kind : JobKind) (slot : Slot) (result : JobResult) → slot_of kind ≡ Some slot → fits_kind kind result ≡ true → plain_result result ≡ true
plain_fits kind slot (Value value) is fit = plain_value_fits
    value (value_kind kind) (listed_files kind) (ap (λ (f : JobFacts). f.value) (slot-facts kind slot is))
    fit
plain_fits kind slot (Fault code message) is fit = refl
plain_fits kind slot (Cancelled saw) is fit = refl
plain_fits kind slot NoMemory is fit = refl

-- such a job says no more than how it ended
pub ends-of_slot : (job : Job) (slot : Slot) (body : TaskBody) → slot_of job.kind ≡ Some slot → fits_job job body ≡ true
    → (result : JobResult) × (final_of body ≡ Some result)
ends-of_slot job slot Begin is fit = let told : is_told (facts_of job.kind) ≡ false = ap is_told (slot-facts job.kind slot is) in absurd cc
ends-of_slot job slot (Report text) is fit =
    let told : (facts_of job.kind).asks_analysis ≡ true = ap (λ (f : JobFacts). f.asks_analysis) (slot-facts job.kind slot is) in absurd cc
ends-of_slot job slot (PrimeReport done total crates) is fit =
    let told : is_priming (facts_of job.kind).group ≡ false = ap (λ (f : JobFacts). is_priming f.group) (slot-facts job.kind slot is) in absurd cc
ends-of_slot job slot (Final result) is fit = (result, refl)
