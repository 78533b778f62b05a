-- A second run over the events of a first one.
use Rattle.std.proofs.Common.{◌≡◌, ◌≤◌, ◌<◌, ℕ, zero, suc, ◌+◌, ◌^◌, List, [], ◌∷◌, ◌++◌, Bool, map, refl, sym, ap, ◌∙◌, subst, arith, append-nil, inl, inr}
use Rattle.std.specs.Prelude.{◌⊎◌, ⊤, Option, Some, Result, replicate}
use Rattle.std.proofs.lemmas.List.{append_cancel_left}
use Rattle.lsp_frame.specs.Reader.{Reader}
use Rattle.ra_config.specs.Config.{ConfigData}
use Rattle.session_port.specs.Record.{HostCall, given_in, grown}
use Rattle.session_port.specs.declared.event.HostEvent.{HostEvent}
use Rattle.session_port.specs.declared.event.HostEvent.TheVariants.{Ended}
use Rattle.session_laws.specs.Course.{Course, Stop, stops, session_course, bytes_brought}
use Rattle.session_laws.specs.Meaning.{Meaning}
use Rattle.session_laws.specs.Run.{Turn, Told, IsRun, Runs, empty_reader, taking, turn_bytes}
use Rattle.session_laws.specs.State.{State, fresh}
use Rattle.session_laws.specs.SessionError.{SessionError}
use Rattle.session_laws.proofs.Stretches.{bytes-append}
use Rattle.session_replay.specs.Again.{GivesAgain, IsDecided, IsUndisturbed, ToldRun, written}
use Rattle.session_replay.proofs.AgainRuns.{Behind, Heard, Stopped, behind-no_turn, behind-stopped, decided-stopped, result_at, run-tells, undisturbed-behind}
use Rattle.session_replay.proofs.AgainTurns.{GoesOn, one-goes_on, takes-no_stop}

-- the sink tells what was written
pub run-written : (meaning : Meaning) (config : ConfigData) (reader : Reader) (old new : Told) (honest : Bool) (result : Result ⊤ SessionError)
    (run : IsRun meaning config reader old new honest result) → new.turns ≡ grown old.turns (map turn_bytes (written run))
run-written meaning config reader old new honest result run =
    ap (λ (told : Told). told.turns) (run-tells meaning config reader old new honest result run).told

-- ---- the events of both

some-same : (xs ys : List HostCall) → Some xs ≡ Some ys → xs ≡ ys
some-same xs ys e = cc

-- the calls that were told more are those of the run
calls-same : (old new : Option (List HostCall)) (before calls mine : List HostCall) → new ≡ grown old mine → old ≡ Some before
    → new ≡ Some (before ++ calls) → mine ≡ calls
calls-same old new before calls mine grew was is = append_cancel_left before mine calls
    (some-same (before ++ mine) (before ++ calls) (sym (grew ∙ ap (λ o. grown o mine) was) ∙ is))

-- a run by the calls that its host tells
told-heard : (meaning : Meaning) (config : ConfigData) (result : Result ⊤ SessionError) (a : ToldRun meaning config result)
    → Heard meaning config empty_reader a.calls (written a.run) result
told-heard meaning config result a =
    let tells = run-tells meaning config empty_reader a.old a.new a.honest result a.run in
    subst (λ (calls : List HostCall). Heard meaning config empty_reader calls (written a.run) result)
    (calls-same a.old.calls a.new.calls a.before a.calls tells.calls (ap (λ (told : Told). told.calls) tells.told) a.told_before a.told_behind) tells.heard

ends-bring : (n : ℕ) → bytes_brought (replicate n Ended) ≡ 0
ends-bring zero = refl
ends-bring (suc n) = omega (arith, ends-bring n)

-- the second run was given no more bytes than the first
bring-less : (first second left : List HostEvent) (ends : ℕ) → second ++ left ≡ first ++ replicate ends Ended → bytes_brought second ≤ bytes_brought first
bring-less first second left ends same =
    let all : bytes_brought second + bytes_brought left ≡ bytes_brought first + bytes_brought (replicate ends Ended) =
    sym (bytes-append second left) ∙ ap bytes_brought same ∙ bytes-append first (replicate ends Ended) in
    omega (arith, all, ends-bring ends)

-- both courses with all the events
courses-same : (meaning : Meaning) (config : ConfigData) (reader : Reader) (first second : List HostCall) (ts us : List Turn) (r q : Result ⊤ SessionError)
    (a : Heard meaning config reader first ts r) (b : Heard meaning config reader second us q) (g : GivesAgain first second)
    → taking ts (a.on (replicate g.ends Ended)) ≡ taking us (b.on g.left)
courses-same meaning config reader first second ts us r q a b g =
    sym (a.course (replicate g.ends Ended)) ∙ ap (session_course reader.place reader.held) (sym g.is) ∙ b.course g.left

-- ---- the turns of both

-- the second run has not ended before the first
no-longer : (meaning : Meaning) (state now : State) (ts us more : List Turn) (on : List HostEvent → Course) (left : List HostEvent) (later : Course)
    (q : Result ⊤ SessionError)
    → Behind meaning state on q → ts ≡ us ++ more → Runs meaning state more now → on left ≡ taking more later → (ts ≡ us) × (on left ≡ later)
no-longer meaning state now ts us [] on left later q behind is runs course = (is ∙ append-nil us, course)
no-longer meaning state now ts us (t ∷ more) on left later q behind is (mid, steps, runs) course =
    behind-no_turn meaning state on q left t mid (taking more later) behind course steps

front-of : (meaning : Meaning) (state now : State) (ts us : List Turn) (on : List HostEvent → Course) (left : List HostEvent) (later : Course)
    (q : Result ⊤ SessionError)
    → Behind meaning state on q → GoesOn meaning ts us now state later (on left) ⊎ GoesOn meaning us ts state now (on left) later
    → (more : List Turn) × (us ≡ ts ++ more)
front-of meaning state now ts us on left later q behind (inl h) = (h.more, h.is)
front-of meaning state now ts us on left later q behind (inr h) =
    ([], sym (no-longer meaning state now ts us h.more on left later q behind h.is h.runs h.course).0 ∙ sym (append-nil ts))

-- the first run has stopped, so the second goes no further
no-further : (ts us more : List Turn) (stop : Stop) (later : Course) → us ≡ ts ++ more → stops stop ≡ taking more later → (us ≡ ts) × (later ≡ stops stop)
no-further ts us [] stop later is course = (is ∙ append-nil ts, sym course)
no-further ts us (t ∷ more) stop later is course = takes-no_stop t.input (taking more later) stop (sym course)

whole-of : (meaning : Meaning) (state now : State) (ts us : List Turn) (on : List HostEvent → Course) (left : List HostEvent) (later : Course) (stop : Stop)
    (q : Result ⊤ SessionError)
    → Behind meaning state on q → later ≡ stops stop
    → GoesOn meaning ts us now state later (on left) ⊎ GoesOn meaning us ts state now (on left) later → (us ≡ ts) × (q ≡ result_at stop)
whole-of meaning state now ts us on left later stop q behind is (inl h) =
    let same = no-further ts us h.more stop (on left) h.is (sym is ∙ h.course) in (same.0, behind-stopped meaning state on q left stop behind same.1)
whole-of meaning state now ts us on left later stop q behind is (inr h) =
    let same = no-longer meaning state now ts us h.more on left later q behind h.is h.runs h.course in
    (sym same.0, behind-stopped meaning state on q left stop behind (same.1 ∙ is))

-- ---- the law

behind-second : (meaning : Meaning) (config : ConfigData) (first second : Result ⊤ SessionError) (a : ToldRun meaning config first)
    (b : ToldRun meaning config second) → GivesAgain a.calls b.calls → bytes_brought (given_in a.calls) < 2 ^ 64 → IsUndisturbed second
    → Behind meaning (told-heard meaning config second b).state (told-heard meaning config second b).on second
behind-second meaning config first second a b g few calm =
    undisturbed-behind meaning config empty_reader b.calls (written b.run) second (told-heard meaning config second b) calm
    (omega (arith, few, bring-less (given_in a.calls) (given_in b.calls) g.left g.ends g.is))

either-goes_on : (meaning : Meaning) (config : ConfigData) (first second : Result ⊤ SessionError) (a : ToldRun meaning config first)
    (b : ToldRun meaning config second) (g : GivesAgain a.calls b.calls)
    → let h = told-heard meaning config first a in let k = told-heard meaning config second b in
    GoesOn meaning (written a.run) (written b.run) h.state k.state (h.on (replicate g.ends Ended)) (k.on g.left)
    ⊎ GoesOn meaning (written b.run) (written a.run) k.state h.state (k.on g.left) (h.on (replicate g.ends Ended))
either-goes_on meaning config first second a b g =
    let h = told-heard meaning config first a in let k = told-heard meaning config second b in
    one-goes_on meaning (fresh config) h.state k.state (written a.run) (written b.run) (h.on (replicate g.ends Ended)) (k.on g.left) h.runs k.runs
    (courses-same meaning config empty_reader a.calls b.calls (written a.run) (written b.run) first second h k g)

-- a replay has the turns of the run, and may have more
pub replay-front : (meaning : Meaning) (config : ConfigData) (first second : Result ⊤ SessionError) (a : ToldRun meaning config first)
    (b : ToldRun meaning config second) → GivesAgain a.calls b.calls → bytes_brought (given_in a.calls) < 2 ^ 64 → IsUndisturbed second
    → (more : List Turn) × (written b.run ≡ written a.run ++ more)
replay-front meaning config first second a b g few calm =
    let h = told-heard meaning config first a in let k = told-heard meaning config second b in
    front-of meaning k.state h.state (written a.run) (written b.run) k.on g.left (h.on (replicate g.ends Ended)) second
    (behind-second meaning config first second a b g few calm) (either-goes_on meaning config first second a b g)

-- where the events have decided how the run ended, it has the same turns and the same end
pub replay-whole : (meaning : Meaning) (config : ConfigData) (first second : Result ⊤ SessionError) (a : ToldRun meaning config first)
    (b : ToldRun meaning config second) → GivesAgain a.calls b.calls → bytes_brought (given_in a.calls) < 2 ^ 64 → IsUndisturbed second → IsDecided first
    → (written b.run ≡ written a.run) × (second ≡ first)
replay-whole meaning config first second a b g few calm decided =
    let h = told-heard meaning config first a in let k = told-heard meaning config second b in
    let end : Stopped first h.on = decided-stopped meaning config empty_reader a.calls (written a.run) first h decided in
    let both = whole-of meaning k.state h.state (written a.run) (written b.run) k.on g.left (h.on (replicate g.ends Ended)) end.stop second
    (behind-second meaning config first second a b g few calm) (end.is (replicate g.ends Ended)) (either-goes_on meaning config first second a b g) in
    (both.0, both.1 ∙ sym end.result_is)
