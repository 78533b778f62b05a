-- What follows from files that have changed, where some have, and a step behind another.
use Rattle.std.proofs.Common.{◌≡◌, List, [], ◌∷◌, refl, subst, sym}
use Rattle.std.specs.Prelude.{Ok, Result}
use Rattle.docs_vfs.specs.declared.file_kinds.ChangedFile.{ChangedFile}
use Rattle.session_port.specs.Refines.{Refines}
use Rattle.session_port.specs.TurnState.{TurnState, and_then}
use Rattle.session_port.specs.Written.{Written}
use Rattle.session_port.specs.declared.fault.Counter.{Counter}
use Rattle.session_port.specs.declared.fault.TurnError.{TurnError}
use Rattle.session_model.specs.Diagnosing.{deleted_cleared}
use Rattle.session_model.specs.Machine.{at_board, effects_done, files_followed}
use Rattle.session_model.specs.State.{State}
use Rattle.session_model.specs.Timing.{effects_for}

pub some_followed : (changed : List ChangedFile) (w : TurnState State) → ((changed ≡ []) → ⊥)
    → files_followed changed w ≡ effects_done (effects_for w.state.client.settings changed w.state.workspaces) (at_board (deleted_cleared changed) w)
unfolding files_followed
some_followed [] w some = absurd (some refl)
some_followed (change ∷ changes) w some = refl

-- a step behind one that no counter can refuse
pub behind_total : {T : Type 0} (result : Result T TurnError) (next : TurnState State → Result (TurnState State) Counter) (mid w : TurnState State) (state : State)
    (out : Written) → (let made : Result (TurnState State) Counter = Ok mid in made ≡ Ok w) → Refines result (next w) state out
    → Refines result (next mid) state out
behind_total result next mid w state out is h =
    subst (λ (made : Result (TurnState State) Counter). Refines result (and_then made next) state out) (sym is) h
