-- What the questions of a job come to, one after another.
use Rattle.std.proofs.Common.{◌≡◌, ◌≤◌, ◌<◌, ℕ, Bool, true, false, List, [], ◌∷◌, ◌++◌, map, refl, sym, ap, ◌∙◌, subst, append-nil, append_assoc, arith}
use Rattle.std.specs.List.{AllZip}
use Rattle.analysis_host.specs.Answers.{OutcomeSpec, answer, IsAnswerTo}
use Rattle.analysis_host.specs.SnapshotData.{SnapshotData}
use Rattle.analysis_host.specs.declared.ask.Answer.{Answer}
use Rattle.analysis_host.specs.declared.ask.Ask.{Ask}
use Rattle.session_port.specs.Honest.{IsEndBy, IsResultOf, findings_of}
use Rattle.session_port.specs.Jobs.{fits_kind}
use Rattle.session_port.specs.Kinds.{asks_analysis, asks_of}
use Rattle.session_port.specs.Results.{answers_in, joined, or_fault, result_of}
use Rattle.session_port.specs.Runs.{IfCancelled, StopsAt, StopsAsking}
use Rattle.session_port.specs.declared.job.Job.{Job}
use Rattle.session_port.specs.declared.job.JobKind.{JobKind}
use Rattle.session_port.specs.declared.job.JobValue.{JobValue}
use Rattle.session_port.specs.declared.job.JobResult.{JobResult}
use Rattle.session_port.specs.declared.job.JobResult.TheVariants.{Value, Fault, Cancelled, NoMemory}

-- answers to the questions that are left make the answers to all
abbrev pub Continues : List Ask → List Answer → List Ask → Type 0
Continues asks found left = (more : List Answer) → AllZip IsAnswerTo left more → AllZip IsAnswerTo asks (found ++ more)

pub continues_start : (asks : List Ask) → Continues asks [] asks
continues_start asks more zip = zip

pub continues_push : (asks : List Ask) (found : List Answer) (ask : Ask) (left : List Ask) (value : Answer)
    → Continues asks found (ask ∷ left) → IsAnswerTo ask value → Continues asks (found ++ value ∷ []) left
continues_push asks found ask left value on is more zip =
    subst (AllZip IsAnswerTo asks) (sym (append_assoc found (value ∷ []) more)) (on (value ∷ more) (is, zip))

pub continues_done : (asks : List Ask) (found : List Answer) (left : List Ask) → Continues asks found left → left ≡ []
    → AllZip IsAnswerTo asks found
continues_done asks found left on none =
    subst (AllZip IsAnswerTo asks) (append-nil found) (on [] (subst (λ rest. AllZip IsAnswerTo rest []) (sym none) tt))

-- one question alone
pub one_answered : (ask : Ask) (found : List Answer) (value : Answer) → found ≡ [] ++ value ∷ [] → IsAnswerTo ask value
    → AllZip IsAnswerTo (ask ∷ []) found
one_answered ask found value is its = subst (AllZip IsAnswerTo (ask ∷ [])) (sym is) (its, tt)

-- where all questions are answered, no fault stands for the result, and the answers are these
pub or_fault-answers : (found : List Answer) (result : JobResult) → or_fault (map answer found) result ≡ result
or_fault-answers [] result = refl
or_fault-answers (first ∷ rest) result = or_fault-answers rest result

pub answers_in-answers : (found : List Answer) → answers_in (map answer found) ≡ found
answers_in-answers [] = refl
answers_in-answers (first ∷ rest) = ap (λ others. first ∷ others) (answers_in-answers rest)

-- a fault behind answers stands for the result
or_fault-behind : (found : List Answer) (finding : OutcomeSpec) (left : List OutcomeSpec) (result : JobResult)
    → or_fault (map answer found ++ finding ∷ left) result ≡ or_fault (finding ∷ left) result
or_fault-behind [] finding left result = refl
or_fault-behind (first ∷ rest) finding left result = or_fault-behind rest finding left result

-- a job that stops at a question stops at all of them
pub stops_asking : (findings : List OutcomeSpec) (found : List Answer) (finding : OutcomeSpec) (left : List OutcomeSpec) (end : JobResult)
    → map answer found ++ finding ∷ left ≡ findings → StopsAt finding end → StopsAsking findings end
stops_asking findings found finding left (Value value) is stops = absurd stops
stops_asking findings found finding left (Fault code message) is stops = λ result.
    ap (λ (all : List OutcomeSpec). or_fault all result) (sym is) ∙ or_fault-behind found finding left result
    ∙ ap (λ (one : OutcomeSpec). or_fault (one ∷ left) result) stops
stops_asking findings found finding left (Cancelled saw) is stops = tt
stops_asking findings found finding left NoMemory is stops = tt

pub one_stops : (finding : OutcomeSpec) (end : JobResult) → StopsAt finding end → StopsAsking (finding ∷ []) end
one_stops finding end stops = stops_asking (finding ∷ []) [] finding [] end refl stops

-- ---- a job's result

asked_end : (b : Bool) (kind : JobKind) (findings : List OutcomeSpec) (result : JobResult) → b ≡ true → result ≡ result_of kind findings
    → IsEndBy b kind findings result
asked_end true kind findings result asked is = is
asked_end false kind findings result asked is = absurd cc

module _ (answers : SnapshotData → Ask → OutcomeSpec) (job : Job) (asks : List Ask) (asked : asks_analysis job.kind ≡ true) (are : asks ≡ asks_of job.kind) where
  -- the questions come to the same
  same_findings : map (answers job.snapshot) asks ≡ findings_of answers job
  same_findings = ap (map (answers job.snapshot)) are

  -- the answers to all its questions make its value
  pub value_is : (found : List Answer) (value : JobValue) → map (answers job.snapshot) asks ≡ map answer found → value ≡ joined job.kind found
      → IsResultOf answers job (Value value)
  value_is found value is made =
      let all : findings_of answers job ≡ map answer found = sym same_findings ∙ is in
      asked_end (asks_analysis job.kind) job.kind (findings_of answers job) (Value value) asked
      (ap Value (made ∙ ap (joined job.kind) (sym (answers_in-answers found)))
      ∙ sym (or_fault-answers found (Value (joined job.kind (answers_in (map answer found)))))
      ∙ ap (result_of job.kind) (sym all))

  -- where it ends without a value, that is its result too
  pub end_is : (floor : ℕ) (end : JobResult) → job.snapshot.revision ≤ floor → StopsAsking (map (answers job.snapshot) asks) end
      → IfCancelled end (λ saw. floor < saw) → IsResultOf answers job end
  end_is floor (Value value) later stops above = absurd stops
  end_is floor (Fault code message) later stops above =
      asked_end (asks_analysis job.kind) job.kind (findings_of answers job) (Fault code message) asked
      (sym (stops (Value (joined job.kind (answers_in (map (answers job.snapshot) asks)))))
      ∙ ap (result_of job.kind) same_findings)
  end_is floor (Cancelled saw) later stops above = omega (arith, later, above)
  end_is floor NoMemory later stops above = tt

-- an end without a value is one of every job
pub end_fits : (kind : JobKind) (findings : List OutcomeSpec) (end : JobResult) → StopsAsking findings end → fits_kind kind end ≡ true
end_fits kind findings (Value value) stops = absurd stops
end_fits kind findings (Fault code message) stops = refl
end_fits kind findings (Cancelled saw) stops = refl
end_fits kind findings NoMemory stops = refl
