-- A turn tells the revision that it comes to once, where it is another, and revisions rise.
use Rattle.std.proofs.Common.{◌≡◌, ◌≤◌, ◌<◌, ◌==◌, ℕ, List, [], ◌∷◌, ◌++◌, Bool, true, false, refl, sym, ap, ◌∙◌, subst, arith, append-nil}
use Rattle.std.specs.Prelude.{None, Result, Ok, Err, IfOk, if◌then◌else◌}
use Rattle.std.specs.List.{cons_option, filter_map}
use Rattle.std.proofs.lemmas.Bool.Decides.{nat_tests}
use Rattle.std.proofs.lemmas.List.Elements.{filter_map-append}
use Rattle.std.proofs.lemmas.Result.{IfOk-at_ok}
use Rattle.session_port.specs.Events.{revision_of}
use Rattle.session_port.specs.declared.command.Command.{Command}
use Rattle.session_port.specs.declared.command.Command.TheVariants.{Revise, Timer as SetTimer}
use Rattle.session_port.specs.declared.fault.Counter.{Counter}
use Rattle.session_port.specs.TurnState.{TurnState, ordered}
use Rattle.session_port.specs.Written.{Written}
use Rattle.desk.specs.Meaning.{Meaning}
use Rattle.desk_laws.proofs.Results.{IfOk-and_then, IfOk-weaker}
use Rattle.workspaces.specs.Fetches.{fires}
use Rattle.workspaces.specs.Workspaces.{Workspaces}
use Rattle.workspaces.specs.declared.follows.Follows.{Follows}
use Rattle.session_model.specs.Machine.{at_workspaces, turn_closed, desk_kept, loader_set, revised, roots_renewed, step, switch_done, switch_taken, timer_set}
use Rattle.session_model.specs.Run.{Runs, Steps, Turn, turn_start}
use Rattle.session_model.specs.State.{State}
use Rattle.session_model.specs.Switching.{switch_made}
use Rattle.session_model.specs.declared.facts.FactsBefore.{FactsBefore}
use Rattle.session_model.specs.declared.input.Input.{Input}
use Rattle.session_model.specs.declared.input.Input.TheVariants.{Start, Next}
use Rattle.session_laws.specs.Ordered.{AreAbove, revisions_told, told_if_other}
use Rattle.session_laws.proofs.LetIn.{turns-let-in}
use Rattle.session_laws.proofs.Passing.{Passes}
use Rattle.session_laws.proofs.Turns.{Begins}
use Rattle.session_laws.proofs.Walk.{Owed, event-owes, kept-owes, owed-by, switched-owes, walk}

-- ---- what passes tells no revision

-- the revisions that have been told
abbrev revisions : TurnState State → List ℕ
revisions w = filter_map revision_of w.out.commands

abbrev SameRevisions : TurnState State → TurnState State → Type 0
SameRevisions w v = revisions v ≡ revisions w

passes-revisions : (old new : Written) → Passes old new → filter_map revision_of new.commands ≡ filter_map revision_of old.commands
passes-revisions old new passes = passes revision_of (record {
  jobs = λ job. refl;
  logs = λ code text. refl;
  defers = λ task. refl;
  sets = λ checks. refl;
  restarts = λ id scope. refl;
  cancels = λ id. refl;
  runs = λ include exclude. refl;
  stops = refl;
  discovers = λ arg. refl;
})

other-passes : (command : Command) (w : TurnState State) → revision_of command ≡ None → SameRevisions w (ordered command w)
unfolding ordered
other-passes command w none = filter_map-append revision_of w.out.commands (command ∷ []) ∙ ap (λ revision. revisions w ++ cons_option revision []) none
    ∙ append-nil _

same-revisions : Owed SameRevisions
same-revisions = owed-by SameRevisions (λ w v u p q. q ∙ p) (λ w v p. passes-revisions w.out v.out p.out) (λ ticket w. other-passes _ w refl)

-- ---- a turn

-- none has been told
abbrev TellsNone : TurnState State → Type 0
TellsNone w = revisions w ≡ []

-- the revision that the turn comes to is told, where it is another than this one
abbrev Tells : ℕ → TurnState State → Type 0
Tells before w = revisions w ≡ told_if_other before w.state.files.host.revision

loader-tells : (version : ℕ) (w : TurnState State) → SameRevisions w (roots_renewed (loader_set version w))
unfolding roots_renewed loader_set
loader-tells version w = other-passes _ w refl

switched-tells : (made : Result (Follows × Workspaces) Counter) (w : TurnState State) → IfOk (switch_taken made w) (SameRevisions w)
unfolding switch_taken
switched-tells (Err counter) w = tt
switched-tells (Ok made) w = switched-owes SameRevisions same-revisions loader-tells made (at_workspaces (λ before. made.1) w)

switch-tells : (w : TurnState State) → TellsNone w → IfOk (switch_done w) TellsNone
unfolding switch_done
switch-tells w none =
    let made = switch_made w.state.client.settings w.state.files w.state.workspaces in
    IfOk-weaker (switch_taken made w) (SameRevisions w) TellsNone (switched-tells made w) (λ v same. same ∙ none)

timer-tells : (before : ℕ) (w : TurnState State) (b : Bool) → Tells before w → Tells before (if b then ordered (SetTimer w.state.desk.turns) w else w)
unfolding ordered
timer-tells before w true tells = filter_map-append revision_of w.out.commands _ ∙ append-nil _ ∙ tells
timer-tells before w false tells = tells

revised-tells : (before : ℕ) (w : TurnState State) (b : Bool) → (w.state.files.host.revision == before) ≡ b → TellsNone w
    → Tells before (if b then w else ordered (Revise w.state.files.host.revision) w)
unfolding ordered
revised-tells before w true is none = none ∙ ap (λ same. if same then [] else w.state.files.host.revision ∷ []) (sym is)
revised-tells before w false is none =
    filter_map-append revision_of w.out.commands _ ∙ ap (λ (ns : List ℕ). ns ++ w.state.files.host.revision ∷ []) none
    ∙ ap (λ same. if same then [] else w.state.files.host.revision ∷ []) (sym is)

timer-told : (before : ℕ) (w : TurnState State) → Tells before w → Tells before (timer_set w)
unfolding timer_set
timer-told before w tells = timer-tells before w (fires w.state.desk.turns w.state.workspaces.fetches.waiting) tells

revised-told : (before : ℕ) (w : TurnState State) → TellsNone w → Tells before (revised before w)
unfolding revised
revised-told before w none = revised-tells before w (w.state.files.host.revision == before) refl none

closed-tells : (facts : FactsBefore) (w : TurnState State) → TellsNone w → IfOk (turn_closed facts w) (Tells facts.revision)
closed-tells facts w none =
    IfOk-and_then (desk_kept facts.ordered w) (λ v. Ok (timer_set (revised facts.revision v))) (SameRevisions w) (Tells facts.revision)
    (kept-owes SameRevisions same-revisions facts.ordered w)
    (λ v same. timer-told facts.revision (revised facts.revision v) (revised-told facts.revision v (same ∙ none)))

step-tells : (meaning : Meaning) (s : State) (input : Input) → IfOk (step meaning input (turn_start s)) (Tells s.files.host.revision)
step-tells meaning s input =
    walk SameRevisions same-revisions meaning s input TellsNone TellsNone (Tells s.files.host.revision) (λ w v none same. same ∙ none) switch-tells
    (first input)
    (λ w facts keeps none. subst (λ (f : FactsBefore). IfOk (turn_closed facts w) (Tells f.revision)) keeps (closed-tells facts w none))
  where
    first : (input : Input) → Begins meaning s input TellsNone TellsNone
    first Start = refl
    first (Next event) = event-owes SameRevisions same-revisions (λ path w. other-passes _ w refl) meaning event
        (λ is v client out parents passes. passes-revisions v.out out passes) (turn_start s)

pub turns-tell : (meaning : Meaning) (old : State) (turn : Turn) (new : State) → Steps meaning old turn new
    → filter_map revision_of turn.commands ≡ told_if_other old.files.host.revision new.files.host.revision
turns-tell meaning old turn new steps = IfOk-at_ok (Tells old.files.host.revision) steps (step-tells meaning old turn.input)

-- ---- a run

above-lower : (low high : ℕ) (ns : List ℕ) → low ≤ high → AreAbove high ns → AreAbove low ns
above-lower low high [] le above = tt
above-lower low high (n ∷ ns) le above = (below low high n le above.0, above.1)
  where
    below : (low high n : ℕ) → low ≤ high → high < n → low < n
    below low high n p q = omega (arith, p, q)

told-above : (old new : ℕ) (b : Bool) (ns : List ℕ) → (new == old) ≡ b → old ≤ new → AreAbove new ns → AreAbove old ((if b then [] else new ∷ []) ++ ns)
told-above old new true ns is le above = above-lower old new ns le above
told-above old new false ns is le above = (higher old new is le, above)
  where
    higher : (old new : ℕ) → (new == old) ≡ false → old ≤ new → old < new
    higher old new is le = grind (arith, nat_tests)

revision-rises : (meaning : Meaning) (old : State) (turn : Turn) (new : State) → Steps meaning old turn new → old.files.host.revision ≤ new.files.host.revision
revision-rises meaning old turn new steps = let entered = (turns-let-in meaning old turn new steps).enters.revision in omega (arith, entered)

-- over all runs
pub revisions-rise : (meaning : Meaning) (s : State) (turns : List Turn) (last : State) → Runs meaning s turns last
    → AreAbove s.files.host.revision (revisions_told turns)
revisions-rise meaning s [] last runs = tt
revisions-rise meaning s (turn ∷ turns) last (mid, steps, runs) =
    subst (λ (ns : List ℕ). AreAbove s.files.host.revision (ns ++ revisions_told turns)) (sym (turns-tell meaning s turn mid steps))
    (told-above s.files.host.revision mid.files.host.revision (mid.files.host.revision == s.files.host.revision) (revisions_told turns) refl
    (revision-rises meaning s turn mid steps)
    (revisions-rise meaning mid turns last runs))
