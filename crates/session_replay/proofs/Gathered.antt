-- Bytes are gathered event by event.
use Rattle.std.proofs.Common.{◌≡◌, ℕ, ◌+◌, ◌≤◌, Bool, true, false, List, [], ◌∷◌, ◌++◌, length, refl, sym, ap, ◌∙◌, append-nil, append_assoc, length-append, arith}
use Rattle.std.specs.Prelude.{◌||◌, Option, None, Some, Ok, Err}
use Rattle.std.specs.List.{list_any}
use Rattle.host_fakes.specs.Script.{is_end}
use Rattle.session_port.specs.Events.{event_bytes}
use Rattle.session_port.specs.Record.{HostCall, gave, added, grown}
use Rattle.session_port.specs.declared.event.HostEvent.{HostEvent}
use Rattle.session_port.specs.declared.event.HostEvent.TheVariants.{Bytes, Ended, Tasks, DeferredTask, Vfs, Flycheck, TestResult, DiscoverProject, Timer}
use Rattle.session_laws.specs.Run.{giving}
use Rattle.session_laws.specs.SessionError.TheVariants.{ClientExited, BadFrame, BadMessage, HostFault, WriteFault, Exhausted, NoMemory}
use Rattle.session_replay.specs.Gathering.{Gathers, IsPieceError, bytes_in, most_bytes}
use Rattle.session_replay.specs.declared.error.ReplayError.{ReplayError}
use Rattle.session_replay.specs.declared.error.ReplayError.TheVariants.{Session, BadRecord, Unrecordable, TooLong}

-- so many events were taken, none of them an end, and these are their bytes
pub record Taken (old now : Option (List HostCall)) (bytes : List ℕ) (count : ℕ) : Type 0 where
  pub events : List HostEvent
  pub goes_on : list_any is_end events ≡ false
  pub told : now ≡ grown old (giving events)
  pub bytes_are : bytes ≡ bytes_in events
  pub counted : length events ≡ count

grown-nil : {X : Type 0} (r : Option (List X)) → r ≡ grown r []
grown-nil None = refl
grown-nil (Some xs) = ap Some (sym (append-nil xs))

grown-grown : {X : Type 0} (r : Option (List X)) (xs ys : List X) → grown (grown r xs) ys ≡ grown r (xs ++ ys)
grown-grown None xs ys = refl
grown-grown (Some entries) xs ys = ap Some (append_assoc entries xs ys)

giving-append : (es fs : List HostEvent) → giving (es ++ fs) ≡ giving es ++ giving fs
giving-append [] fs = refl
giving-append (e ∷ es) fs = ap (λ cs. gave e ∷ cs) (giving-append es fs)

any-append : (es : List HostEvent) (e : HostEvent) → list_any is_end es ≡ false → is_end e ≡ false → list_any is_end (es ++ e ∷ []) ≡ false
any-append [] e p q = rw q refl
any-append (x ∷ es) e p q = later (is_end x) (list_any is_end es) p (any-append es e) q
  where
    later : (a b : Bool) → (a || b) ≡ false → (b ≡ false → is_end e ≡ false → list_any is_end (es ++ e ∷ []) ≡ false) → is_end e ≡ false
        → (a || list_any is_end (es ++ e ∷ [])) ≡ false
    later true b p f q = absurd cc
    later false b p f q = f p q

bytes-append : (es fs : List HostEvent) → bytes_in (es ++ fs) ≡ bytes_in es ++ bytes_in fs
bytes-append [] fs = refl
bytes-append (e ∷ es) fs = ap (λ bs. event_bytes e ++ bs) (bytes-append es fs) ∙ sym (append_assoc (event_bytes e) (bytes_in es) (bytes_in fs))

length-more : (es : List HostEvent) (e : HostEvent) → length (es ++ e ∷ []) ≡ length es + 1
length-more [] e = refl
length-more (x ∷ es) e = omega (arith, length-more es e)

told-more : (old now new : Option (List HostCall)) (es : List HostEvent) (e : HostEvent) → now ≡ grown old (giving es) → new ≡ added now (gave e)
    → new ≡ grown old (giving (es ++ e ∷ []))
told-more old now new es e was is =
    is ∙ ap (λ r. added r (gave e)) was ∙ grown-grown old (giving es) (gave e ∷ []) ∙ ap (grown old) (sym (giving-append es (e ∷ [])))

pub taken-none : (calls : Option (List HostCall)) → Taken calls calls [] 0
taken-none calls = record { events = []; goes_on = refl; told = grown-nil calls; bytes_are = refl; counted = refl }

-- one event more, that is no end
pub taken-next : (old now new : Option (List HostCall)) (bytes : List ℕ) (count : ℕ) (event : HostEvent) → is_end event ≡ false → Taken old now bytes count
    → new ≡ added now (gave event) → Taken old new (bytes ++ event_bytes event) (count + 1)
taken-next old now new bytes count event goes taken is = record {
  events = taken.events ++ event ∷ [];
  goes_on = any-append taken.events event taken.goes_on goes;
  told = told-more old now new taken.events event taken.told is;
  bytes_are = ap (λ bs. bs ++ event_bytes event) taken.bytes_are
      ∙ ap (λ bs. bytes_in taken.events ++ bs) (sym (append-nil (event_bytes event))) ∙ sym (bytes-append taken.events (event ∷ []));
  counted = length-more taken.events event ∙ ap (λ n. n + 1) taken.counted;
}

-- the end came last
pub taken-end : (old now new : Option (List HostCall)) (bytes : List ℕ) (count : ℕ) (taken : Taken old now bytes count) → new ≡ added now (gave Ended)
    → new ≡ grown old (giving (taken.events ++ Ended ∷ []))
taken-end old now new bytes count taken is = told-more old now new taken.events Ended taken.told is

pub ended-is : (event : HostEvent) → is_end event ≡ true → event ≡ Ended
ended-is (Bytes x) e = absurd cc
ended-is Ended e = refl
ended-is (Tasks x) e = absurd cc
ended-is (DeferredTask x) e = absurd cc
ended-is (Vfs x) e = absurd cc
ended-is (Flycheck x) e = absurd cc
ended-is (TestResult x) e = absurd cc
ended-is (DiscoverProject x) e = absurd cc
ended-is (Timer x) e = absurd cc

-- the end was taken, so all bytes are gathered
pub gathers-end : (old now new : Option (List HostCall)) (bytes more : List ℕ) (count : ℕ) (event : HostEvent) (HostFailed : Type 0) → is_end event ≡ true
    → Taken old now bytes count → new ≡ added now (gave event) → more ≡ bytes ++ event_bytes event → length more ≤ most_bytes
    → Gathers old new HostFailed (Ok more)
gathers-end old now new bytes more count event HostFailed ends taken is all fits =
    let same : event ≡ Ended = ended-is event ends in
    record {
      events = taken.events;
      goes_on = taken.goes_on;
      by_result = (
        taken-end old now new bytes count taken (is ∙ ap (λ e. added now (gave e)) same),
        (all ∙ ap (λ e. bytes ++ event_bytes e) same ∙ append-nil bytes ∙ taken.bytes_are, fits),
      );
    }

more-bytes : (es : List HostEvent) (event : HostEvent) → length (bytes_in (es ++ event ∷ [])) ≡ length (bytes_in es) + length (event_bytes event)
more-bytes es event =
    ap length (bytes-append es (event ∷ []) ∙ ap (λ bs. bytes_in es ++ bs) (append-nil (event_bytes event))) ∙ length-append (bytes_in es) (event_bytes event)

-- an event was taken whose bytes could not be added
pub gathers-stopped : (old now new : Option (List HostCall)) (bytes : List ℕ) (count : ℕ) (event : HostEvent) (HostFailed : Type 0) (error : ReplayError)
    → (is_end event ≡ false) × IsPieceError (length bytes + length (event_bytes event)) error → Taken old now bytes count → new ≡ added now (gave event)
    → Gathers old new HostFailed (Err error)
gathers-stopped old now new bytes count event HostFailed (Session NoMemory) why taken is = record {
  events = taken.events ++ event ∷ [];
  goes_on = any-append taken.events event taken.goes_on why.0;
  by_result = told-more old now new taken.events event taken.told is;
}
gathers-stopped old now new bytes count event HostFailed TooLong why taken is = record {
  events = taken.events ++ event ∷ [];
  goes_on = any-append taken.events event taken.goes_on why.0;
  by_result = (
    told-more old now new taken.events event taken.told is,
    omega (arith, why.1, more-bytes taken.events event, ap length taken.bytes_are),
  );
}
gathers-stopped old now new bytes count event HostFailed (Session ClientExited) why taken is = absurd why.1
gathers-stopped old now new bytes count event HostFailed (Session (BadFrame at)) why taken is = absurd why.1
gathers-stopped old now new bytes count event HostFailed (Session (BadMessage at)) why taken is = absurd why.1
gathers-stopped old now new bytes count event HostFailed (Session HostFault) why taken is = absurd why.1
gathers-stopped old now new bytes count event HostFailed (Session WriteFault) why taken is = absurd why.1
gathers-stopped old now new bytes count event HostFailed (Session (Exhausted counter)) why taken is = absurd why.1
gathers-stopped old now new bytes count event HostFailed BadRecord why taken is = absurd why.1
gathers-stopped old now new bytes count event HostFailed Unrecordable why taken is = absurd why.1
