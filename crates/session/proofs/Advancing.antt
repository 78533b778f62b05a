-- One step of the loop, and the first and the last of a run.
use Rattle.std.proofs.Common.{◌≡◌, ℕ, ◌+◌, ◌^◌, ◌<◌, ◌≤◌, List, [], ◌∷◌, ◌++◌, length, Bool, false, refl, sym, ap, ◌∙◌, subst, arith, length-append, inl}
use Rattle.std.specs.Prelude.{⊤, IfErr, IsTrue, OnOk, Result, Ok, Err}
use Rattle.std.specs.FinMap as maps
use Rattle.lsp_frame.specs.Reader.{Reader}
use Rattle.ra_config.specs.Config.{ConfigData}
use Rattle.session_port.specs.Jobs.{Jobs}
use Rattle.session_port.specs.Record.{gave}
use Rattle.session_port.specs.declared.event.HostEvent.{HostEvent}
use Rattle.session_port.specs.declared.event.HostEvent.TheVariants.{Bytes}
use Rattle.session_laws.specs.Course.{Course, takes, waits, session_course, bytes_brought}
use Rattle.session_laws.specs.Meaning.{Meaning}
use Rattle.session_laws.specs.Run.{Told, Brings, Stretch, IsRun, Ends, EndsBy, IsHonestInput, MayAsk, after_input, fed_bytes, giving, telling_more}
use Rattle.session_laws.specs.State.{State, fresh}
use Rattle.session_laws.specs.SessionError.{SessionError}
use Rattle.session_laws.specs.SessionError.TheVariants.{NoMemory}
use Rattle.session_laws.specs.Input.{Input}
use Rattle.session_laws.specs.Input.TheVariants.{Start}
use Rattle.session_laws.proofs.Counted.{IsLater, steps-fewer}
use Rattle.session_laws.proofs.Stretches.{stretch-turn, stretch-fed, stretch-none, stretch-on, telling-none}
use Rattle.session.specs.Looping.{AdvancesByEvent, Goes, RunsOn, TurnDone, Done}
use Rattle.session.specs.Reading.{IsFeedError, course_from}
use Rattle.session.proofs.Endings.{ends-feed, ends-turn, breaks_at_once}

-- the events brought the input
pub brings : (events : List HostEvent) (input : Input) (to later : List HostEvent → Course) → MayAsk to events
    → ((more : List HostEvent) → to (events ++ more) ≡ takes input (later more)) → Brings to events input
brings events input to later asked course = record { asked = asked; later = later; course = course }

-- a turn that is done is a stretch
pub done-stretch : (meaning : Meaning) (input : Input) (events : List HostEvent) (a b : State) (from to : List HostEvent → Course) (used : ℕ)
    (old mid new : Told) (honest : Bool) (out out_mid out_now : Jobs)
    → MayAsk from events → ((more : List HostEvent) → from (events ++ more) ≡ takes input (to more)) → bytes_brought events ≡ 0
    → mid ≡ telling_more (giving events) [] old → out_mid ≡ after_input input out → (IsTrue honest → IsHonestInput meaning out input)
    → Done meaning input a b mid new out_mid out_now → Stretch meaning a b from to used used old new honest out out_now
done-stretch meaning input events a b from to used old mid new honest out out_mid out_now asked course none given off fair d =
    stretch-turn meaning d.turn events a b from to used old mid new honest out out_mid out_now
    asked (λ more. course more ∙ ap (λ i. takes i (to more)) (sym d.input_is)) none given (off ∙ ap (λ i. after_input i out) (sym d.input_is))
    (λ h. subst (IsHonestInput meaning out) (sym d.input_is) (fair h)) d.steps d.read d.told d.out_is

-- the turn of an input
pub goes-turn : (meaning : Meaning) (input : Input) (events : List HostEvent) (a b : State) (reader reader_now : Reader) (old mid new : Told) (honest : Bool)
    (out out_mid out_now : Jobs)
    → MayAsk (course_from reader) events → ((more : List HostEvent) → course_from reader (events ++ more) ≡ takes input (course_from reader_now more))
    → bytes_brought events ≡ 0
    → mid ≡ telling_more (giving events) [] old → out_mid ≡ after_input input out → (IsTrue honest → IsHonestInput meaning out input)
    → IsLater input → fed_bytes reader_now ≡ fed_bytes reader
    → Done meaning input a b mid new out_mid out_now → Goes meaning a b reader reader_now old new honest out out_now
goes-turn meaning input events a b reader reader_now old mid new honest out out_mid out_now asked course none given off fair later same d = record {
  stretch = subst (λ n. Stretch meaning a b (course_from reader) (course_from reader_now) (fed_bytes reader) n old new honest out out_now) (sym same)
      (done-stretch meaning input events a b (course_from reader) (course_from reader_now) (fed_bytes reader) old mid new honest out out_mid out_now asked
      course none given off fair d);
  fewer = let h = steps-fewer meaning a d.turn b (subst IsLater (sym d.input_is) later) d.steps in omega (arith, h, same);
}

-- the same, or how it ended
pub advances-turn : (meaning : Meaning) (input : Input) (events : List HostEvent) (a b : State) (reader reader_now : Reader) (old mid new : Told)
    (honest : Bool) (out out_mid out_now : Jobs) (r : Result ⊤ SessionError)
    → MayAsk (course_from reader) events → ((more : List HostEvent) → course_from reader (events ++ more) ≡ takes input (course_from reader_now more))
    → bytes_brought events ≡ 0
    → mid ≡ telling_more (giving events) [] old → out_mid ≡ after_input input out → (IsTrue honest → IsHonestInput meaning out input)
    → IsLater input → fed_bytes reader_now ≡ fed_bytes reader
    → TurnDone meaning input a b mid new out_mid out_now r → AdvancesByEvent meaning a b reader reader_now old new honest out out_now r
advances-turn meaning input events a b reader reader_now old mid new honest out out_mid out_now (Ok x) asked course none given off fair later same d =
    goes-turn meaning input events a b reader reader_now old mid new honest out out_mid out_now asked course none given off fair later same d
advances-turn meaning input events a b reader reader_now old mid new honest out out_mid out_now (Err e) asked course none given off fair later same d =
    ends-turn meaning input events a b (course_from reader) (fed_bytes reader) old mid new honest out out_mid out_now
    e (brings events input (course_from reader) (course_from reader_now) asked course) given fair d

-- bytes that were fed
pub advances-fed : (meaning : Meaning) (bytes : List ℕ) (a : State) (reader reader_now : Reader) (old new : Told) (honest : Bool) (out out_now : Jobs)
    → course_from reader [] ≡ waits → ((more : List HostEvent)
    → course_from reader (Bytes bytes ∷ more) ≡ course_from (record { place = reader.place; held = reader.held ++ bytes; failed = false }) more)
    → new ≡ telling_more (gave (Bytes bytes) ∷ []) [] old → 0 < length bytes → fed_bytes reader + length bytes < 2 ^ 64
    → reader_now ≡ record { place = reader.place; held = reader.held ++ bytes; failed = false }
    → out_now ≡ out → Goes meaning a a reader reader_now old new honest out out_now
advances-fed meaning bytes a reader reader_now old new honest out out_now asked course given some fits is same =
    let longer : reader.place + length (reader.held ++ bytes) ≡ fed_bytes reader + length bytes = omega (arith, length-append reader.held bytes) in
    rw (is, same) (record {
      stretch = subst (λ n. Stretch meaning a a (course_from reader)
          (course_from (record { place = reader.place; held = reader.held ++ bytes; failed = false })) (fed_bytes reader) n old new honest out out) (sym longer)
          (stretch-fed meaning bytes a (course_from reader) (course_from (record { place = reader.place; held = reader.held ++ bytes; failed = false }))
          (fed_bytes reader) old new honest out asked course given);
      fewer = omega (arith, some, fits, longer);
    })

-- bytes that came: they were fed, or that is how the run ended
pub advances-feed : (meaning : Meaning) (bytes : List ℕ) (a : State) (reader reader_now : Reader) (old new : Told) (honest : Bool) (out out_now : Jobs)
    (r : Result ⊤ SessionError)
    → course_from reader [] ≡ waits → ((more : List HostEvent)
    → course_from reader (Bytes bytes ∷ more) ≡ course_from (record { place = reader.place; held = reader.held ++ bytes; failed = false }) more)
    → new ≡ telling_more (gave (Bytes bytes) ∷ []) [] old → 0 < length bytes → OnOk r (fed_bytes reader + length bytes < 2 ^ 64)
    → OnOk r (reader_now ≡ record { place = reader.place; held = reader.held ++ bytes; failed = false })
    → IfErr r (IsFeedError (fed_bytes reader) (length bytes))
    → out_now ≡ out → AdvancesByEvent meaning a a reader reader_now old new honest out out_now r
advances-feed meaning bytes a reader reader_now old new honest out out_now (Ok x) asked course given some fits is err same =
    advances-fed meaning bytes a reader reader_now old new honest out out_now asked course given some fits is same
advances-feed meaning bytes a reader reader_now old new honest out out_now (Err e) asked course given some fits is err same =
    ends-feed meaning bytes a (course_from reader) (fed_bytes reader) old new honest out e asked given err

-- the start
pub stretch-start : (meaning : Meaning) (config : ConfigData) (a b : State) (reader : Reader) (used : ℕ) (old new : Told) (honest : Bool) (out out_now : Jobs)
    → a ≡ fresh config → out ≡ maps.empty → Done meaning Start a b old new out out_now
    → Stretch meaning (fresh config) b (session_course reader.place reader.held) (course_from reader) used used old new honest maps.empty out_now
stretch-start meaning config a b reader used old new honest out out_now is none d =
    subst (λ o. Stretch meaning (fresh config) b (session_course reader.place reader.held) (course_from reader) used used old new honest o out_now) none
    (subst (λ s. Stretch meaning s b (session_course reader.place reader.held) (course_from reader) used used old new honest out out_now) is
    (done-stretch meaning Start [] a b (session_course reader.place reader.held) (course_from reader) used old old new honest out out out_now tt (λ more. refl)
    refl (sym (telling-none old)) refl (λ _. tt) d))

-- a run that ends in its first turn
pub run-first : (meaning : Meaning) (config : ConfigData) (a b : State) (reader : Reader) (old new : Told) (honest : Bool) (out out_now : Jobs) (T : Type 0)
    (e : SessionError)
    → a ≡ fresh config → TurnDone {T = ⊤} meaning Start a b old new out out_now (Err e) → IsRun {T = T} meaning config reader old new honest (Err e)
run-first meaning config a b reader old new honest out out_now T e is d =
    let from = session_course reader.place reader.held in
    record {
      last = fresh config;
      to = from;
      used_last = fed_bytes reader;
      told_last = old;
      out_last = maps.empty;
      stretch = stretch-none meaning (fresh config) from (fed_bytes reader) old honest maps.empty;
      ends = subst (λ s. EndsBy meaning s from (fed_bytes reader) old new honest maps.empty e) is
          (ends-turn meaning Start [] a b from (fed_bytes reader) old old new honest maps.empty out out_now
          e (brings [] Start from (course_from reader) tt (λ more. refl)) (sym (telling-none old)) (λ _. tt) d);
    }

-- memory ran out before any turn
pub run-none : (meaning : Meaning) (config : ConfigData) (reader : Reader) (old : Told) (honest : Bool) (T : Type 0)
    → IsRun {T = T} meaning config reader old old honest (Err NoMemory)
run-none meaning config reader old honest T = record {
  last = fresh config;
  to = session_course reader.place reader.held;
  used_last = fed_bytes reader;
  told_last = old;
  out_last = maps.empty;
  stretch = stretch-none meaning (fresh config) (session_course reader.place reader.held) (fed_bytes reader) old honest maps.empty;
  ends = inl (breaks_at_once (session_course reader.place reader.held) old old refl);
}

-- the rest of a run ends
pub runs-ended : (meaning : Meaning) (s now : State) (first reader : Reader) (old mid new : Told) (honest : Bool) (out out_mid : Jobs) (T : Type 0)
    (result : Result T SessionError)
    → Stretch meaning s now (course_from first) (course_from reader) (fed_bytes first) (fed_bytes reader) old mid honest out out_mid
    → Ends meaning now (course_from reader) (fed_bytes reader) mid new honest out_mid result → RunsOn meaning s first old new honest out result
runs-ended meaning s now first reader old mid new honest out out_mid T result stretch ends =
    record { last = now; reader_last = reader; told_last = mid; out_last = out_mid; stretch = stretch; ends = ends }

-- it breaks off
pub runs-broken : (meaning : Meaning) (s now : State) (first reader : Reader) (old mid new : Told) (honest honest_now : Bool) (out out_mid : Jobs) (T : Type 0)
    (e : SessionError)
    → Stretch meaning s now (course_from first) (course_from reader) (fed_bytes first) (fed_bytes reader) old mid honest out out_mid
    → honest_now ≡ honest → EndsBy meaning now (course_from reader) (fed_bytes reader) mid new honest_now out_mid e
    → RunsOn {T = T} meaning s first old new honest out (Err e)
runs-broken meaning s now first reader old mid new honest honest_now out out_mid T e stretch same ends =
    runs-ended meaning s now first reader old mid new honest out out_mid T (Err e)
    stretch (subst (λ (h : Bool). EndsBy meaning now (course_from reader) (fed_bytes reader) mid new h out_mid e) same ends)

-- a first turn and the rest are a whole run
pub run-whole : (meaning : Meaning) (config : ConfigData) (a b : State) (reader : Reader) (old mid new : Told) (honest honest_now : Bool) (out out_now : Jobs)
    (T : Type 0) (result : Result T SessionError)
    → a ≡ fresh config → out ≡ maps.empty → Done meaning Start a b old mid out out_now → honest_now ≡ honest
    → RunsOn meaning b reader mid new honest_now out_now result
    → IsRun meaning config reader old new honest result
run-whole meaning config a b reader old mid new honest honest_now out out_now T result is none d same on =
    let rest : RunsOn meaning b reader mid new honest out_now result = subst (λ (h : Bool). RunsOn meaning b reader mid new h out_now result) same on in
    let start = stretch-start meaning config a b reader (fed_bytes reader) old mid honest out out_now is none d in
    record {
      last = rest.last;
      to = course_from rest.reader_last;
      used_last = fed_bytes rest.reader_last;
      told_last = rest.told_last;
      out_last = rest.out_last;
      stretch = stretch-on _ _ _ _ _ _ _ _ _ _ _ _ _ _ _ _ _ _ start refl rest.stretch;
      ends = rest.ends;
    }
