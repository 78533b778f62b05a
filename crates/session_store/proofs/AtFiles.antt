-- A call of the files, as a step of the session.
use Rattle.std.proofs.Common.{◌≡◌, ℕ, List, sym, subst}
use Rattle.std.specs.Prelude.{ℤ, Result}
use Rattle.docs_vfs.specs.declared.source_roots.Root.{Root}
use Rattle.text_core.specs.declared.change.ContentChange.{ContentChange}
use Rattle.text_core.specs.declared.position.PositionEncoding.{PositionEncoding}
use Rattle.session_port.proofs.Parts.{within_meets}
use Rattle.session_port.specs.Refines.{Refines}
use Rattle.session_port.specs.TurnState.{TurnState}
use Rattle.session_port.specs.Written.{Written}
use Rattle.session_port.specs.declared.fault.Counter.{Counter}
use Rattle.session_port.specs.declared.fault.TurnError.{TurnError}
use Rattle.session_model.specs.SessionFiles.{SessionFiles}
use Rattle.session_model.specs.FilesSteps.{changed_document, opened_document}
use Rattle.session_model.specs.Machine.{at_files, files_in, with_files}
use Rattle.session_model.specs.State.{State}

pub files_meets : {T : Type 0} (step : TurnState SessionFiles → Result (TurnState SessionFiles) Counter) (result : Result T TurnError) (before after : State)
    (files files_now : SessionFiles) (out out_now : Written)
    → before.files ≡ files → after ≡ record before { files = files_now } → Refines result (step (record { state = files; out = out })) files_now out_now
    → Refines result (at_files step (record { state = before; out = out })) after out_now
files_meets step result before after files files_now out out_now was is h =
    subst (λ (s : State). Refines result (at_files step (record { state = before; out = out })) s out_now) (sym is)
    (within_meets files_in with_files step result (record { state = before; out = out }) files_now out_now
    (subst (λ (f : SessionFiles). Refines result (step (record { state = f; out = out })) files_now out_now) (sym was) h))

-- a document that is opened under these prefixes, with this version
pub opened_as : {T : Type 0} (result : Result T TurnError) (excludes asked : List (List ℕ)) (path : List ℕ) (version told : ℤ) (text : List ℕ)
    (w : TurnState SessionFiles) (files : SessionFiles) (out : Written)
    → excludes ≡ asked → version ≡ told → Refines result (opened_document excludes path version text w) files out
    → Refines result (opened_document asked path told text w) files out
opened_as result excludes asked path version told text w files out same is h =
    subst (λ (xs : List (List ℕ)). Refines result (opened_document xs path told text w) files out)
    same (subst (λ (v : ℤ). Refines result (opened_document excludes path v text w) files out) is h)

-- a document that is changed by these columns, with this version
pub changed_as : {T : Type 0} (result : Result T TurnError) (columns asked : PositionEncoding) (path : List ℕ) (version told : ℤ) (changes : List ContentChange)
    (w : TurnState SessionFiles) (files : SessionFiles) (out : Written)
    → columns ≡ asked → version ≡ told → Refines result (changed_document columns path version changes w) files out
    → Refines result (changed_document asked path told changes w) files out
changed_as result columns asked path version told changes w files out same is h =
    subst (λ (c : PositionEncoding). Refines result (changed_document c path told changes w) files out)
    same (subst (λ (v : ℤ). Refines result (changed_document columns path v changes w) files out) is h)

-- a step by these roots
pub roots_as : {T : Type 0} (step : List Root → TurnState SessionFiles → Result (TurnState SessionFiles) Counter) (result : Result T TurnError)
    (roots asked : List Root) (w : TurnState SessionFiles)
    (files : SessionFiles) (out : Written) → roots ≡ asked → Refines result (step roots w) files out → Refines result (step asked w) files out
roots_as step result roots asked w files out same h = subst (λ (xs : List Root). Refines result (step xs w) files out) same h
