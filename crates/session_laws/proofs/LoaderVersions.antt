-- The loader is given settings whose versions rise by one.
use Rattle.std.proofs.Common.{◌≡◌, ◌+◌, ℕ, zero, suc, List, [], ◌∷◌, ◌++◌, Bool, refl, sym, ap, ◌∙◌, subst, arith, append-nil}
use Rattle.std.specs.Prelude.{None, Result, Ok, Err, IfOk}
use Rattle.std.specs.List.{cons_option, filter_map, range_with_len}
use Rattle.std.proofs.lemmas.List.Elements.{filter_map-append}
use Rattle.std.proofs.lemmas.Result.{IfOk-at_ok}
use Rattle.ra_config.specs.Config.{ConfigData}
use Rattle.session_port.specs.declared.command.Command.{Command}
use Rattle.session_port.specs.declared.fault.Counter.{Counter}
use Rattle.session_port.specs.TurnState.{TurnState, ordered}
use Rattle.session_port.specs.Written.{Written}
use Rattle.desk.specs.Meaning.{Meaning}
use Rattle.desk_laws.proofs.Results.{IfOk-and_then, IfOk-weaker}
use Rattle.workspaces.specs.Workspaces.{Workspaces}
use Rattle.workspaces.specs.declared.follows.Follows.{Follows}
use Rattle.workspaces.specs.declared.follows.Follows.TheVariants.{Nothing, CrateData, Wait, GoOn}
use Rattle.session_model.specs.Crates.{builds_crates}
use Rattle.session_model.specs.Machine.{at_workspaces, turn_closed, crates_built, switch_followed, loader_set, roots_renewed, step, switch_done, switch_taken}
use Rattle.session_model.specs.Machine.{event_taken, warned, watchers_registered}
use Rattle.session_model.specs.Run.{Runs, Turn, turn_start}
use Rattle.session_model.specs.State.{State, fresh}
use Rattle.session_model.specs.Switching.{switch_made}
use Rattle.session_model.specs.declared.facts.FactsBefore.{FactsBefore}
use Rattle.session_model.specs.declared.input.Input.{Input}
use Rattle.session_model.specs.declared.input.Input.TheVariants.{Start, Next}
use Rattle.session_laws.specs.Ordered.{loader_version, loader_versions}
use Rattle.session_laws.proofs.Passing.{Passes}
use Rattle.session_laws.proofs.Made.{IsNext, Outcome, switch-makes}
use Rattle.activities.specs.Work.{graph_told}
use Rattle.session_model.specs.Machine.{tellings_told}
use Rattle.session_laws.proofs.Saying.{asked_if-owes, told-owe, warned-owes}
use Rattle.session_laws.proofs.Turns.{Begins}
use Rattle.session_laws.proofs.Walk.{Owed, built-owes, closed-owes, event-owes, owed-by, walk}

-- ---- numbers that rise by one

-- one more behind some
range-more : (first n : ℕ) → range_with_len first (suc n) ≡ range_with_len first n ++ (first + n) ∷ []
range-more first zero = ap (λ k. k ∷ []) (omega arith)
range-more first (suc n) =
    let place : first + 1 + n ≡ first + suc n = omega arith in
    ap (λ ks. first ∷ ks) (range-more (first + 1) n ∙ ap (λ k. range_with_len (first + 1) n ++ k ∷ []) place)

-- some behind others
range-on : (first n m : ℕ) → range_with_len first n ++ range_with_len (first + n) m ≡ range_with_len first (n + m)
range-on first zero m = λ i. range_with_len (start i) (length i)
  where
    start : first + 0 ≡ first
    start = omega arith

    length : m ≡ 0 + m
    length = omega arith
range-on first (suc n) m =
    let place : first + suc n ≡ first + 1 + n = omega arith in
    let count : suc (n + m) ≡ suc n + m = omega arith in
    ap (λ ks. first ∷ ks) (ap (λ k. range_with_len (first + 1) n ++ range_with_len k m) place ∙ range-on (first + 1) n m) ∙ ap (range_with_len first) count

-- ---- what passes gives the loader no settings

-- the versions that have been given
abbrev given_in : TurnState State → List ℕ
given_in w = filter_map loader_version w.out.commands

abbrev version_in : TurnState State → ℕ
version_in w = w.state.workspaces.loader_version

-- the version stays, and none is given
record SameVersions (w v : TurnState State) : Type 0 where
  version : version_in v ≡ version_in w
  given : given_in v ≡ given_in w

passes-versions : (old new : Written) → Passes old new → filter_map loader_version new.commands ≡ filter_map loader_version old.commands
passes-versions old new passes = passes loader_version (record {
  jobs = λ job. refl;
  logs = λ code text. refl;
  defers = λ task. refl;
  sets = λ checks. refl;
  restarts = λ id scope. refl;
  cancels = λ id. refl;
  runs = λ include exclude. refl;
  stops = refl;
  discovers = λ arg. refl;
})

other-passes : (command : Command) (w : TurnState State) → loader_version command ≡ None → SameVersions w (ordered command w)
unfolding ordered
other-passes command w none = record {
  version = refl;
  given = filter_map-append loader_version w.out.commands (command ∷ []) ∙ ap (λ version. given_in w ++ cons_option version []) none ∙ append-nil _;
}

same-versions : Owed SameVersions
same-versions =
    owed-by SameVersions (λ w v u p q. record { version = q.version ∙ p.version; given = q.given ∙ p.given })
    (λ w v p. record { version = ap (λ (versions : ℕ × ℕ). versions.1) p.versions; given = passes-versions w.out v.out p.out })
    (λ ticket w. other-passes _ w refl)

-- ---- a turn

-- since this version so many were given, each one more than the one before it
record Rises (before : ℕ) (w : TurnState State) : Type 0 where
  count : ℕ
  version : version_in w ≡ before + count
  given : given_in w ≡ range_with_len (before + 1) count

rises-same : (before : ℕ) (w v : TurnState State) → Rises before w → SameVersions w v → Rises before v
rises-same before w v rises same = record { count = rises.count; version = same.version ∙ rises.version; given = same.given ∙ rises.given }

next-place : (before count version : ℕ) → version ≡ before + count + 1 → version ≡ before + 1 + count
next-place before count version is = omega (arith, is)

next-count : (before count version : ℕ) → version ≡ before + count + 1 → version ≡ before + suc count
next-count before count version is = omega (arith, is)

-- the loader is given the next version
given-next : (before count version : ℕ) (w : TurnState State) → version ≡ before + count + 1 → version_in w ≡ before + count + 1
    → given_in w ≡ range_with_len (before + 1) count
    → Rises before (roots_renewed (loader_set version w))
unfolding roots_renewed loader_set ordered
given-next before count version w next now rises = record {
  count = suc count;
  version = next-count before count (version_in w) now;
  given = filter_map-append loader_version w.out.commands _ ∙ (λ i. rises i ++ next-place before count version next i ∷ [])
      ∙ sym (range-more (before + 1) count);
}

-- it is told that crate data is built
graph-rises : (before : ℕ) (w : TurnState State) → Rises before w → IfOk (tellings_told graph_told w) (Rises before)
graph-rises before w rises =
    IfOk-weaker (tellings_told graph_told w) (SameVersions w) (Rises before) (told-owe SameVersions same-versions.saying graph_told w)
    (λ v same. rises-same before w v rises same)

-- what follows a switch that has left these workspaces
follows-rise : (before count : ℕ) (follows : Follows) (w : TurnState State) → IsNext (before + count) follows (version_in w)
    → given_in w ≡ range_with_len (before + 1) count
    → IfOk (switch_followed follows w) (Rises before)
unfolding switch_followed watchers_registered
follows-rise before count Nothing w next rises = record { count = count; version = next; given = rises }
follows-rise before count CrateData w next rises = graph-rises before w (record { count = count; version = next; given = rises })
follows-rise before count (Wait msrv) w next rises =
    rises-same before w (warned msrv w) (record { count = count; version = next; given = rises }) (warned-owes SameVersions same-versions.saying msrv w)
follows-rise before count (GoOn msrv version initial) w next rises =
    let v : TurnState State = warned msrv w in
    let warns = warned-owes SameVersions same-versions.saying msrv w in
    IfOk-and_then (watchers_registered v) (λ u. tellings_told graph_told (roots_renewed (loader_set version u))) (SameVersions v) (Rises before)
    (asked_if-owes SameVersions same-versions.saying _ _ v)
    (λ u same. graph-rises before (roots_renewed (loader_set version u))
    (given-next before count version u next.0 (same.version ∙ warns.version ∙ next.1) (same.given ∙ warns.given ∙ rises)))

made-rises : (before : ℕ) (made : Result (Follows × Workspaces) Counter) (w : TurnState State) → (r : Rises before w) → Outcome w.state.workspaces made
    → IfOk (switch_taken made w) (Rises before)
unfolding switch_taken
made-rises before (Err counter) w rises outcome = tt
made-rises before (Ok made) w rises makes =
    let now : TurnState State = at_workspaces (λ before. made.1) w in
    let builds : Bool = builds_crates w.state.client.settings made.0 in
    IfOk-and_then (switch_followed made.0 now) (crates_built builds) (Rises before) (Rises before)
    (follows-rise before rises.count made.0 now (subst (λ n. IsNext n made.0 made.1.loader_version) rises.version makes.next) rises.given)
    (λ v r. IfOk-weaker (crates_built builds v) (SameVersions v) (Rises before) (built-owes SameVersions same-versions builds v)
    (λ u same. rises-same before v u r same))

switch-rises : (before : ℕ) (w : TurnState State) → Rises before w → IfOk (switch_done w) (Rises before)
unfolding switch_done
switch-rises before w rises =
    made-rises before (switch_made w.state.client.settings w.state.files w.state.workspaces) w rises
    (switch-makes w.state.client.settings w.state.files w.state.workspaces)

begun-rises : (s : State) → Rises s.workspaces.loader_version (turn_start s)
begun-rises s = record { count = 0; version = omega arith; given = refl }

closed-rises : (before : ℕ) (facts : FactsBefore) (w : TurnState State) → Rises before w → IfOk (turn_closed facts w) (Rises before)
closed-rises before facts w rises =
    IfOk-weaker (turn_closed facts w) (SameVersions w) (Rises before) (closed-owes SameVersions same-versions (λ revision v. other-passes _ v refl) facts w)
    (λ v same. rises-same before w v rises same)

step-rises : (meaning : Meaning) (s : State) (input : Input) → IfOk (step meaning input (turn_start s)) (Rises s.workspaces.loader_version)
step-rises meaning s input =
    let before = s.workspaces.loader_version in
    walk SameVersions same-versions meaning s input (Rises before) (Rises before) (Rises before) (rises-same before) (switch-rises before) (first input)
    (λ w facts kept rises. closed-rises before facts w rises)
  where
    first : (input : Input) → Begins meaning s input (Rises s.workspaces.loader_version) (Rises s.workspaces.loader_version)
    first Start = begun-rises s
    first (Next event) =
        IfOk-weaker (event_taken meaning event (turn_start s)) (SameVersions (turn_start s)) (Rises s.workspaces.loader_version)
        (event-owes SameVersions same-versions (λ path w. other-passes _ w refl) meaning event
        (λ is v client out parents passes. record { version = refl; given = passes-versions v.out out passes }) (turn_start s))
        (λ v same. rises-same s.workspaces.loader_version (turn_start s) v (begun-rises s) same)

-- ---- a run

record RunRises (before : ℕ) (turns : List Turn) (last : State) : Type 0 where
  count : ℕ
  version : last.workspaces.loader_version ≡ before + count
  given : loader_versions turns ≡ range_with_len (before + 1) count

counts-on : (before now last n m : ℕ) → now ≡ before + n → last ≡ now + m → last ≡ before + (n + m)
counts-on before now last n m p q = omega (arith, p, q)

starts-on : (before now n : ℕ) → now ≡ before + n → now + 1 ≡ before + 1 + n
starts-on before now n p = omega (arith, p)

runs-rise : (meaning : Meaning) (s : State) (turns : List Turn) (last : State) → Runs meaning s turns last → RunRises s.workspaces.loader_version turns last
runs-rise meaning s [] last runs = record {
  count = 0;
  version = ap (λ (t : State). t.workspaces.loader_version) runs ∙ omega arith;
  given = refl;
}
runs-rise meaning s (turn ∷ turns) last (mid, steps, runs) =
    let before = s.workspaces.loader_version in
    let here : Rises before (record { state = mid; out = record { messages = turn.messages; commands = turn.commands } }) =
    IfOk-at_ok (Rises before) steps (step-rises meaning s turn.input) in
    let rest : RunRises mid.workspaces.loader_version turns last = runs-rise meaning mid turns last runs in
    let start = starts-on before mid.workspaces.loader_version here.count here.version in
    record {
      count = here.count + rest.count;
      version = counts-on before mid.workspaces.loader_version last.workspaces.loader_version here.count rest.count here.version rest.version;
      given = (λ i. here.given i ++ rest.given i) ∙ ap (λ k. range_with_len (before + 1) here.count ++ range_with_len k rest.count) start
          ∙ range-on (before + 1) here.count rest.count;
    }

-- over all runs from the beginning
pub versions-rise : (meaning : Meaning) (settings : ConfigData) (turns : List Turn) (last : State) → Runs meaning (fresh settings) turns last
    → loader_versions turns ≡ range_with_len 1 last.workspaces.loader_version
versions-rise meaning settings turns last runs =
    let r : RunRises 0 turns last = runs-rise meaning (fresh settings) turns last runs in
    r.given ∙ ap (range_with_len 1) (none-before r.count last.workspaces.loader_version r.version)
  where
    none-before : (n last : ℕ) → last ≡ 0 + n → n ≡ last
    none-before n last is = omega (arith, is)
