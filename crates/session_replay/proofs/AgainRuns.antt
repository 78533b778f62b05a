-- What a run has written, and where its course stands at its end.
use Rattle.std.proofs.Common.{◌≡◌, ◌≤◌, ◌<◌, ℕ, ◌+◌, ◌^◌, List, [], ◌∷◌, ◌++◌, Bool, refl, sym, ap, ◌∙◌, arith, append-nil, append_assoc, inl, inr}
use Rattle.std.specs.Prelude.{◌⊎◌, ⊤, Result, Ok, Err}
use Rattle.std.specs.FinMap as maps
use Rattle.lsp_frame.specs.Reader.{Reader}
use Rattle.ra_config.specs.Config.{ConfigData}
use Rattle.session_port.specs.Jobs.{Jobs}
use Rattle.session_port.specs.Record.{HostCall, took, given_in}
use Rattle.session_port.specs.declared.command.Command.TheVariants.{Stop as StopCommand}
use Rattle.session_port.specs.declared.event.HostEvent.{HostEvent}
use Rattle.session_port.specs.declared.event.HostEvent.TheVariants.{Bytes, Ended}
use Rattle.session_port.specs.declared.fault.Counter.{Counter}
use Rattle.session_laws.specs.Course.{Course, Stop, takes, stops, exit, bad_frame, bad_message, client_gone, session_course, bytes_brought, stop_of}
use Rattle.session_laws.specs.Input.{Input}
use Rattle.session_laws.specs.Machine.{step}
use Rattle.session_laws.specs.Meaning.{Meaning}
use Rattle.session_laws.specs.Run.{Turn, Told, BreaksOffWritten, Ends, IsRun, Runs, Steps, Stretch, fed_bytes, giving, taking, telling_more, turn_start}
use Rattle.session_laws.specs.State.{State, fresh}
use Rattle.session_laws.specs.SessionError.{SessionError}
use Rattle.session_laws.specs.SessionError.TheVariants.{ClientExited, BadFrame, BadMessage, HostFault, WriteFault, Exhausted, NoMemory}
use Rattle.session_laws.proofs.Asking.{given-append, given-giving, taking-append}
use Rattle.session_laws.proofs.Stretches.{bytes-append, runs-append, telling-append, telling-none}
use Rattle.session_replay.specs.Again.{IsDecided, IsUndisturbed, last_written, written}
use Rattle.session_replay.proofs.AgainCourse.{stopped-session}
use Rattle.session_replay.proofs.AgainTurns.{takes-input, takes-no_stop, stops-same, taking-later, taking-stop, refused-none}

-- the machine refuses the next input
pub record Refuses (meaning : Meaning) (counter : Counter) (state : State) (on : List HostEvent → Course) : Type 0 where
  pub input : Input
  pub later : List HostEvent → Course
  pub course : (more : List HostEvent) → on more ≡ takes input (later more)
  pub refused : step meaning input (turn_start state) ≡ Err counter

-- where the course stands at the end of a run that nothing disturbed
abbrev pub StandsBy : Meaning → Reader → List HostCall → State → (List HostEvent → Course) → Result ⊤ SessionError → Type 0
StandsBy meaning reader calls state on (Ok x) = on [] ≡ stops exit
StandsBy meaning reader calls state on (Err ClientExited) = on [] ≡ stops client_gone
StandsBy meaning reader calls state on (Err (BadFrame at)) = on [] ≡ stops (bad_frame at)
StandsBy meaning reader calls state on (Err (BadMessage at)) = on [] ≡ stops (bad_message at)
StandsBy meaning reader calls state on (Err HostFault) = Unit {0}
StandsBy meaning reader calls state on (Err WriteFault) = Unit {0}
StandsBy meaning reader calls state on (Err (Exhausted counter)) = Refuses meaning counter state on
    ⊎ (2 ^ 64 ≤ fed_bytes reader + bytes_brought (given_in calls))
StandsBy meaning reader calls state on (Err NoMemory) = Unit {0}

-- a run by its calls and its turns
pub record Heard (meaning : Meaning) (config : ConfigData) (reader : Reader) (calls : List HostCall) (turns : List Turn) (result : Result ⊤ SessionError)
    : Type 0 where
  pub state : State
  pub runs : Runs meaning (fresh config) turns state
  pub on : List HostEvent → Course
  pub course : (more : List HostEvent) → session_course reader.place reader.held (given_in calls ++ more) ≡ taking turns (on more)
  pub stands : StandsBy meaning reader calls state on result

-- and these are told of it
pub record TellsRun (meaning : Meaning) (config : ConfigData) (reader : Reader) (old new : Told) (turns : List Turn) (result : Result ⊤ SessionError)
    : Type 0 where
  pub calls : List HostCall
  pub told : new ≡ telling_more calls turns old
  pub heard : Heard meaning config reader calls turns result

-- a stretch, and these calls and turns behind it
tells : (meaning : Meaning) (config : ConfigData) (reader : Reader) (old mid new : Told) (honest : Bool) (result : Result ⊤ SessionError)
    (last now : State) (to on : List HostEvent → Course) (used : ℕ) (out : Jobs) (extra : List HostCall) (turns : List Turn)
    → (st : Stretch meaning (fresh config) last (session_course reader.place reader.held) to (fed_bytes reader) used old mid honest maps.empty out)
    → Runs meaning last turns now → ((more : List HostEvent) → to (given_in extra ++ more) ≡ taking turns (on more))
    → new ≡ telling_more extra turns mid → StandsBy meaning reader (st.calls ++ extra) now on result
    → TellsRun meaning config reader old new (st.turns ++ turns) result
tells meaning config reader old mid new honest result last now to on used out extra turns st runs course told stands = record {
  calls = st.calls ++ extra;
  told = told ∙ ap (telling_more extra turns) st.told ∙ telling-append st.calls extra st.turns turns old;
  heard = record {
    state = now;
    runs = runs-append meaning (fresh config) last now st.turns turns st.runs runs;
    on = on;
    course = λ more. ap (λ (es : List HostEvent). session_course reader.place reader.held (es ++ more)) (given-append st.calls extra)
        ∙ ap (session_course reader.place reader.held) (append_assoc (given_in st.calls) (given_in extra) more)
        ∙ st.course (given_in extra ++ more) ∙ ap (taking st.turns) (course more) ∙ sym (taking-append st.turns turns (on more));
    stands = stands;
  };
}

-- these events behind it, and no turn
tells-events : (meaning : Meaning) (config : ConfigData) (reader : Reader) (old mid new : Told) (honest : Bool) (result : Result ⊤ SessionError)
    (last : State) (to : List HostEvent → Course) (used : ℕ) (out : Jobs) (events : List HostEvent)
    → (st : Stretch meaning (fresh config) last (session_course reader.place reader.held) to (fed_bytes reader) used old mid honest maps.empty out)
    → new ≡ telling_more (giving events) [] mid → StandsBy meaning reader (st.calls ++ giving events) last (λ more. to (events ++ more)) result
    → TellsRun meaning config reader old new (st.turns ++ []) result
tells-events meaning config reader old mid new honest result last to used out events st told stands =
    tells meaning config reader old mid new honest result last last to (λ more. to (events ++ more)) used out (giving events) [] st refl
    (λ more. ap (λ (es : List HostEvent). to (es ++ more)) (given-giving events)) told stands

-- nothing behind it
tells-still : (meaning : Meaning) (config : ConfigData) (reader : Reader) (old mid new : Told) (honest : Bool) (result : Result ⊤ SessionError)
    (last : State) (to : List HostEvent → Course) (used : ℕ) (out : Jobs)
    → (st : Stretch meaning (fresh config) last (session_course reader.place reader.held) to (fed_bytes reader) used old mid honest maps.empty out)
    → new ≡ mid → StandsBy meaning reader (st.calls ++ []) last to result → TellsRun meaning config reader old new (st.turns ++ []) result
tells-still meaning config reader old mid new honest result last to used out st same stands =
    tells-events meaning config reader old mid new honest result last to used out [] st (same ∙ sym (telling-none mid)) stands

-- a turn that was written behind it
tells-written : (meaning : Meaning) (config : ConfigData) (reader : Reader) (old mid new : Told) (honest : Bool) (result : Result ⊤ SessionError)
    (last : State) (to : List HostEvent → Course) (used : ℕ) (out : Jobs)
    → (st : Stretch meaning (fresh config) last (session_course reader.place reader.held) to (fed_bytes reader) used old mid honest maps.empty out)
    → (broken : BreaksOffWritten meaning last to mid new honest out)
    → StandsBy meaning reader (st.calls ++ giving broken.events) broken.next broken.brings.later result
    → TellsRun meaning config reader old new (st.turns ++ broken.turn ∷ []) result
tells-written meaning config reader old mid new honest result last to used out st broken stands =
    tells meaning config reader old mid new honest result last broken.next to broken.brings.later used out (giving broken.events) (broken.turn ∷ []) st
    (broken.next, broken.steps, refl)
    (λ more. ap (λ (es : List HostEvent). to (es ++ more)) (given-giving broken.events) ∙ broken.brings.course more) broken.told stands

-- the bytes of the stretch, and of what was given behind it
bytes-behind : (calls : List HostCall) (events : List HostEvent)
    → bytes_brought (given_in (calls ++ giving events)) ≡ bytes_brought (given_in calls) + bytes_brought events
bytes-behind calls events = ap bytes_brought (given-append calls (giving events)) ∙ bytes-append (given_in calls) (given_in (giving events))
    ∙ ap (λ (es : List HostEvent). bytes_brought (given_in calls) + bytes_brought es) (given-giving events)

ends-tell : (meaning : Meaning) (config : ConfigData) (reader : Reader) (old mid new : Told) (honest : Bool) (result : Result ⊤ SessionError)
    (last : State) (to : List HostEvent → Course) (used : ℕ) (out : Jobs)
    → (st : Stretch meaning (fresh config) last (session_course reader.place reader.held) to (fed_bytes reader) used old mid honest maps.empty out)
    → (ends : Ends meaning last to used mid new honest out result)
    → TellsRun meaning config reader old new (st.turns ++ last_written ⊤ meaning last to used mid new honest out result ends) result
ends-tell meaning config reader old mid new honest (Ok x) last to used out st h =
    tells meaning config reader old mid new honest (Ok x) last last to to used out (took (StopCommand ∷ []) ∷ []) [] st refl (λ more. refl) h.1 h.0
ends-tell meaning config reader old mid new honest (Err ClientExited) last to used out st h =
    tells-events meaning config reader old mid new honest (Err ClientExited) last to used out (Ended ∷ []) st h.2 h.1
ends-tell meaning config reader old mid new honest (Err (BadFrame at)) last to used out st h =
    tells-still meaning config reader old mid new honest (Err (BadFrame at)) last to used out st h.told h.course
ends-tell meaning config reader old mid new honest (Err (BadMessage at)) last to used out st h =
    tells-still meaning config reader old mid new honest (Err (BadMessage at)) last to used out st h.told h.course
ends-tell meaning config reader old mid new honest (Err HostFault) last to used out st (inl (inl h)) =
    tells-still meaning config reader old mid new honest (Err HostFault) last to used out st h.told tt
ends-tell meaning config reader old mid new honest (Err HostFault) last to used out st (inl (inr h)) =
    tells-still meaning config reader old mid new honest (Err HostFault) last to used out st h.told tt
ends-tell meaning config reader old mid new honest (Err HostFault) last to used out st (inr h) =
    tells-written meaning config reader old mid new honest (Err HostFault) last to used out st h tt
ends-tell meaning config reader old mid new honest (Err WriteFault) last to used out st h =
    tells-events meaning config reader old mid new honest (Err WriteFault) last to used out h.events st h.told tt
ends-tell meaning config reader old mid new honest (Err (Exhausted counter)) last to used out st (inl h) =
    tells-events meaning config reader old mid new honest (Err (Exhausted counter)) last to used out h.events st h.told
    (inl (record { input = h.input; later = h.brings.later; course = h.brings.course; refused = h.needed }))
ends-tell meaning config reader old mid new honest (Err (Exhausted counter)) last to used out st (inr h) =
    tells-events meaning config reader old mid new honest (Err (Exhausted counter)) last to used out (Bytes h.bytes ∷ []) st h.told
    (inr (omega (arith, h.needed, st.counted, bytes-behind st.calls (Bytes h.bytes ∷ []))))
ends-tell meaning config reader old mid new honest (Err NoMemory) last to used out st (inl h) =
    tells-events meaning config reader old mid new honest (Err NoMemory) last to used out h.events st h.told tt
ends-tell meaning config reader old mid new honest (Err NoMemory) last to used out st (inr h) =
    tells-written meaning config reader old mid new honest (Err NoMemory) last to used out st h tt

-- each run tells what it has written
pub run-tells : (meaning : Meaning) (config : ConfigData) (reader : Reader) (old new : Told) (honest : Bool) (result : Result ⊤ SessionError)
    (run : IsRun meaning config reader old new honest result) → TellsRun meaning config reader old new (written run) result
run-tells meaning config reader old new honest result run =
    ends-tell meaning config reader old run.told_last new honest result run.last run.to run.used_last run.out_last run.stretch run.ends

-- ---- what more events change

-- a course that has stopped stays so
stays-stopped : (meaning : Meaning) (config : ConfigData) (reader : Reader) (calls : List HostCall) (turns : List Turn) (result : Result ⊤ SessionError)
    (h : Heard meaning config reader calls turns result) (stop : Stop) → h.on [] ≡ stops stop → (more : List HostEvent) → h.on more ≡ stops stop
stays-stopped meaning config reader calls turns result h stop is more =
    let here : session_course reader.place reader.held (given_in calls) ≡ taking turns (stops stop) =
    ap (session_course reader.place reader.held) (sym (append-nil (given_in calls))) ∙ h.course [] ∙ ap (taking turns) is in
    taking-later turns (h.on more) (stops stop)
    (sym (h.course more)
    ∙ stopped-session (given_in calls) more reader.place reader.held stop (ap stop_of here ∙ taking-stop turns (stops stop)) ∙ here)

-- how a run ends where its course stops
abbrev pub result_at : Stop → Result ⊤ SessionError
result_at exit = Ok tt
result_at (bad_frame at) = Err (BadFrame at)
result_at (bad_message at) = Err (BadMessage at)
result_at client_gone = Err ClientExited

-- the course has stopped, and the run has ended so
pub record Stopped (result : Result ⊤ SessionError) (on : List HostEvent → Course) : Type 0 where
  pub stop : Stop
  pub is : (more : List HostEvent) → on more ≡ stops stop
  pub result_is : result ≡ result_at stop

has-stopped : (meaning : Meaning) (config : ConfigData) (reader : Reader) (calls : List HostCall) (turns : List Turn) (result : Result ⊤ SessionError)
    (h : Heard meaning config reader calls turns result) (stop : Stop) → h.on [] ≡ stops stop → result ≡ result_at stop → Stopped result h.on
has-stopped meaning config reader calls turns result h stop is result_is =
    record { stop = stop; is = stays-stopped meaning config reader calls turns result h stop is; result_is = result_is }

pub decided-stopped : (meaning : Meaning) (config : ConfigData) (reader : Reader) (calls : List HostCall) (turns : List Turn) (result : Result ⊤ SessionError)
    (h : Heard meaning config reader calls turns result) → IsDecided result → Stopped result h.on
decided-stopped meaning config reader calls turns (Ok x) h is = has-stopped meaning config reader calls turns (Ok x) h exit h.stands refl
decided-stopped meaning config reader calls turns (Err ClientExited) h is =
    has-stopped meaning config reader calls turns (Err ClientExited) h client_gone h.stands refl
decided-stopped meaning config reader calls turns (Err (BadFrame at)) h is =
    has-stopped meaning config reader calls turns (Err (BadFrame at)) h (bad_frame at) h.stands refl
decided-stopped meaning config reader calls turns (Err (BadMessage at)) h is =
    has-stopped meaning config reader calls turns (Err (BadMessage at)) h (bad_message at) h.stands refl
decided-stopped meaning config reader calls turns (Err HostFault) h is = absurd is
decided-stopped meaning config reader calls turns (Err WriteFault) h is = absurd is
decided-stopped meaning config reader calls turns (Err (Exhausted counter)) h is = absurd is
decided-stopped meaning config reader calls turns (Err NoMemory) h is = absurd is

-- what comes behind a run that nothing disturbed: nothing, or an input that the machine refuses
abbrev pub Behind : Meaning → State → (List HostEvent → Course) → Result ⊤ SessionError → Type 0
Behind meaning state on result = Stopped result on ⊎ ((counter : Counter) × Refuses meaning counter state on)

exhausted-behind : (meaning : Meaning) (reader : Reader) (calls : List HostCall) (counter : Counter) (state : State) (on : List HostEvent → Course)
    (result : Result ⊤ SessionError)
    → fed_bytes reader + bytes_brought (given_in calls) < 2 ^ 64
    → Refuses meaning counter state on ⊎ (2 ^ 64 ≤ fed_bytes reader + bytes_brought (given_in calls)) → Behind meaning state on result
exhausted-behind meaning reader calls counter state on result few (inl h) = inr (counter, h)
exhausted-behind meaning reader calls counter state on result few (inr many) = absurd (omega (arith, few, many))

pub undisturbed-behind : (meaning : Meaning) (config : ConfigData) (reader : Reader) (calls : List HostCall) (turns : List Turn)
    (result : Result ⊤ SessionError) (h : Heard meaning config reader calls turns result) → IsUndisturbed result
    → fed_bytes reader + bytes_brought (given_in calls) < 2 ^ 64 → Behind meaning h.state h.on result
undisturbed-behind meaning config reader calls turns (Ok x) h calm few = inl (decided-stopped meaning config reader calls turns (Ok x) h tt)
undisturbed-behind meaning config reader calls turns (Err ClientExited) h calm few =
    inl (decided-stopped meaning config reader calls turns (Err ClientExited) h tt)
undisturbed-behind meaning config reader calls turns (Err (BadFrame at)) h calm few =
    inl (decided-stopped meaning config reader calls turns (Err (BadFrame at)) h tt)
undisturbed-behind meaning config reader calls turns (Err (BadMessage at)) h calm few =
    inl (decided-stopped meaning config reader calls turns (Err (BadMessage at)) h tt)
undisturbed-behind meaning config reader calls turns (Err HostFault) h calm few = absurd calm
undisturbed-behind meaning config reader calls turns (Err WriteFault) h calm few = absurd calm
undisturbed-behind meaning config reader calls turns (Err (Exhausted counter)) h calm few =
    exhausted-behind meaning reader calls counter h.state h.on (Err (Exhausted counter)) few h.stands
undisturbed-behind meaning config reader calls turns (Err NoMemory) h calm few = absurd calm

-- so the machine takes no turn there
pub behind-no_turn : {P : Type 0} (meaning : Meaning) (state : State) (on : List HostEvent → Course) (result : Result ⊤ SessionError)
    (more : List HostEvent) (t : Turn) (mid : State) (later : Course) → Behind meaning state on result → on more ≡ takes t.input later
    → Steps meaning state t mid → P
behind-no_turn meaning state on result more t mid later (inl s) is steps = takes-no_stop t.input later s.stop (sym is ∙ s.is more)
behind-no_turn meaning state on result more t mid later (inr (counter, r)) is steps =
    refused-none meaning state r.input counter t mid (takes-input r.input t.input (r.later more) later (sym (r.course more) ∙ is)) r.refused steps

-- and where the course has stopped, the run has ended so
pub behind-stopped : (meaning : Meaning) (state : State) (on : List HostEvent → Course) (result : Result ⊤ SessionError)
    (more : List HostEvent) (stop : Stop) → Behind meaning state on result → on more ≡ stops stop → result ≡ result_at stop
behind-stopped meaning state on result more stop (inl s) is = s.result_is ∙ ap result_at (stops-same s.stop stop (sym (s.is more) ∙ is))
behind-stopped meaning state on result more stop (inr (counter, r)) is = takes-no_stop r.input (r.later more) stop (sym (r.course more) ∙ is)
