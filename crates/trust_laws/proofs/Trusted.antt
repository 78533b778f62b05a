-- The turns of a run show the present wherever the session rests.
use Rattle.std.proofs.Common.{◌≡◌, ◌++◌, ℕ, List, [], ◌∷◌, Bool, inl, inr, refl, sym, ap, ◌∙◌, subst, append-nil}
use Rattle.std.specs.Prelude.{IsTrue, Result, Ok, Err}
use Rattle.std.specs.FinMap as maps
use Rattle.lsp_frame.specs.Reader.{Reader}
use Rattle.ra_config.specs.Config.{ConfigData}
use Rattle.session_port.specs.Jobs.{Jobs}
use Rattle.session_port.specs.Record.{HostCall, gave, given_in, took}
use Rattle.session_port.specs.declared.command.Command.TheVariants.{Stop}
use Rattle.session_port.specs.declared.event.HostEvent.{HostEvent}
use Rattle.session_port.specs.declared.event.HostEvent.TheVariants.{Bytes, Ended}
use Rattle.desk.specs.Meaning.{Meaning}
use Rattle.session_model.specs.Course.{Course, session_course, takes}
use Rattle.session_model.specs.Run.{AllRead, AreHonestTurns, BreaksOffWritten, Ends, IsRun, Runs, Stretch, Told, Turn, fed_bytes, giving, out_after, taking}
use Rattle.session_model.specs.Run.{telling_more}
use Rattle.session_model.specs.OwnJobs.{before_quiet}
use Rattle.session_model.specs.State.{State, fresh, snapshot_of}
use Rattle.session_model.specs.declared.fault.SessionError.{SessionError}
use Rattle.session_model.specs.declared.fault.SessionError.TheVariants.{ClientExited, BadFrame, BadMessage, HostFault, WriteFault, Exhausted, NoMemory}
use Rattle.session_laws.proofs.Asking.{given-append, given-giving, taking-append}
use Rattle.session_laws.proofs.Stretches.{honest-append, read-append, runs-append, telling-append, telling-none}
use Rattle.trust_laws.specs.CameBack.{AllCameBack}
use Rattle.trust_laws.specs.Resting.{IsTrusted, ShowsPresent}
use Rattle.trust_laws.specs.Trusting.{ShowsFound}
use Rattle.trust_laws.proofs.Present.{shows-found}
use Rattle.trust_laws.proofs.Since.{as-at-batch}
use Rattle.trust_laws.proofs.Urls.{urls-differ}

honest-front : (meaning : Meaning) (xs ys : List Turn) (out : Jobs) → AreHonestTurns meaning out (xs ++ ys) → AreHonestTurns meaning out xs
honest-front meaning [] ys out honest = tt
honest-front meaning (x ∷ xs) ys out honest = (honest.0, honest-front meaning xs ys (out_after x out) honest.1)

-- where the session rests behind honest turns
rests-shows : (meaning : Meaning) (settings : ConfigData) (turns : List Turn) → AreHonestTurns meaning maps.empty turns → ShowsPresent meaning settings turns
rests-shows meaning settings turns honest r = record {
  as_at = as-at-batch meaning settings r.before r.first r.turn r.second r.after r.last r.ran r.steps r.runs r.asks r.none r.quiet;
  found = subst (λ (ts : List Turn). ShowsFound meaning (snapshot_of (before_quiet meaning r.turn.input r.first).state) ts r.last) (sym r.split)
      (shows-found meaning settings r.before r.first r.turn r.second r.after r.last r.ran r.steps r.runs r.asks r.none r.quiet r.shown r.next
      (subst (AreHonestTurns meaning maps.empty) r.split honest) (subst (λ ts. AllCameBack r.last.board.generation ts) r.split r.came) urls-differ r.bytes);
}

module _ (meaning : Meaning) (config : ConfigData) (reader : Reader) (old new : Told) (honest : Bool) where
  abbrev From : List HostEvent → Course
  From = session_course reader.place reader.held

  trusted : (calls : List HostCall) (turns : List Turn) (last : State) (left : Course) → new ≡ telling_more calls turns old
      → From (given_in calls) ≡ taking turns left → AllRead turns → Runs meaning (fresh config) turns last
      → (IsTrue honest → AreHonestTurns meaning maps.empty turns) → IsTrusted meaning config reader old new honest
  trusted calls turns last left told inputs read runs fair = record {
    calls = calls;
    turns = turns;
    told = told;
    left = left;
    inputs = inputs;
    read = read;
    last = last;
    runs = runs;
    shows = λ h before after split.
        rests-shows meaning config before (honest-front meaning before after maps.empty (subst (AreHonestTurns meaning maps.empty) split (fair h)));
  }

  module _ (mid : Told) (last : State) (to : List HostEvent → Course) (used : ℕ) (out : Jobs)
      (st : Stretch meaning (fresh config) last From to (fed_bytes reader) used old mid honest maps.empty out) where
    -- nothing more was written
    unwritten : (extra : List HostCall) → new ≡ telling_more extra [] mid → IsTrusted meaning config reader old new honest
    unwritten extra told =
        trusted (st.calls ++ extra) st.turns last (to (given_in extra))
        (told ∙ ap (telling_more extra []) st.told ∙ telling-append st.calls extra st.turns [] old
        ∙ ap (λ (ts : List Turn). telling_more (st.calls ++ extra) ts old) (append-nil st.turns))
        (ap From (given-append st.calls extra) ∙ st.course (given_in extra)) st.read st.runs st.honest_turns

    untold : new ≡ mid → IsTrusted meaning config reader old new honest
    untold same = unwritten [] (same ∙ sym (telling-none mid))

    -- one turn more was written
    written : BreaksOffWritten meaning last to mid new honest out → IsTrusted meaning config reader old new honest
    written b =
        let next : to b.events ≡ takes b.turn.input (b.brings.later []) = ap to (sym (append-nil b.events)) ∙ b.brings.course [] in
        trusted (st.calls ++ giving b.events) (st.turns ++ b.turn ∷ []) b.next (b.brings.later [])
        (b.told ∙ ap (telling_more (giving b.events) (b.turn ∷ [])) st.told ∙ telling-append st.calls (giving b.events) st.turns (b.turn ∷ []) old)
        (ap From (given-append st.calls (giving b.events) ∙ ap (λ (es : List HostEvent). given_in st.calls ++ es) (given-giving b.events)) ∙ st.course b.events
        ∙ ap (taking st.turns) next ∙ sym (taking-append st.turns (b.turn ∷ []) (b.brings.later [])))
        (read-append st.turns (b.turn ∷ []) st.read (b.read, tt))
        (runs-append meaning (fresh config) last b.next st.turns (b.turn ∷ []) st.runs (b.next, b.steps, refl))
        (λ h. honest-append meaning st.turns (b.turn ∷ []) maps.empty (st.honest_turns h)
        (subst (λ o. AreHonestTurns meaning o (b.turn ∷ [])) st.out_is (b.honest_turn h, tt)))

    ends-trusted : {T : Type 0} (result : Result T SessionError) → Ends meaning last to used mid new honest out result
        → IsTrusted meaning config reader old new honest
    ends-trusted (Ok x) h = unwritten (took (Stop ∷ []) ∷ []) h.1
    ends-trusted (Err ClientExited) h = unwritten (gave Ended ∷ []) h.2
    ends-trusted (Err (BadFrame at)) h = untold h.told
    ends-trusted (Err (BadMessage at)) h = untold h.told
    ends-trusted (Err HostFault) (inl (inl h)) = untold h.told
    ends-trusted (Err HostFault) (inl (inr h)) = untold h.told
    ends-trusted (Err HostFault) (inr b) = written b
    ends-trusted (Err WriteFault) h = unwritten (giving h.events) h.told
    ends-trusted (Err (Exhausted counter)) (inl r) = unwritten (giving r.events) r.told
    ends-trusted (Err (Exhausted counter)) (inr h) = unwritten (giving (Bytes h.bytes ∷ [])) h.told
    ends-trusted (Err NoMemory) (inl h) = unwritten (giving h.events) h.told
    ends-trusted (Err NoMemory) (inr b) = written b

pub run-trusted : (T : Type 0) (meaning : Meaning) (config : ConfigData) (reader : Reader) (old new : Told) (honest : Bool) (result : Result T SessionError)
    → IsRun meaning config reader old new honest result → IsTrusted meaning config reader old new honest
run-trusted T meaning config reader old new honest result run =
    ends-trusted meaning config reader old new honest run.told_last run.last run.to run.used_last run.out_last run.stretch result run.ends
