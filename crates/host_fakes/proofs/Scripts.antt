-- What a script gives is honest, and how its results are made one by one.
use Rattle.std.proofs.Common.{◌≡◌, ℕ, Bool, true, false, cond, List, [], ◌∷◌, ◌++◌, refl, sym, ap, subst, ◌∙◌}
use Rattle.std.specs.Prelude.{Option, None, Some, is_some, not, option_and_then, if◌then◌else◌, ◌&&◌}
use Rattle.std.specs.FinMap as map
use Rattle.std.specs.List.{AllZip}
use Rattle.std.specs.Option.{option_map, option_to_list, unwrap_or}
use Rattle.std.specs.Cmp.{nat_cmp_total, unsigned_tied}
use Rattle.std.specs.Ordering.{nat_cmp, eq_by_cmp}
use Rattle.std.proofs.lemmas.Bool.{eqb-true, ltb-true}
use Rattle.analysis_host.specs.Answers.{OutcomeSpec}
use Rattle.analysis_host.specs.SnapshotData.{SnapshotData}
use Rattle.analysis_host.specs.declared.ask.Ask.{Ask}
use Rattle.session_port.specs.Honest.{AreHonest, IsEndBy, IsHonest, IsResultOf, findings_of}
use Rattle.session_port.specs.Jobs.{Jobs, jobs_after, final_of, fits_kind}
use Rattle.session_port.specs.Kinds.{asks_analysis}
use Rattle.session_port.specs.Results.{result_of}
use Rattle.session_port.specs.Runs.{IsUncancelled}
use Rattle.inline_host.proofs.Fitting.{after_fitting, honest_end, is_some-final}
use Rattle.host_fakes.specs.Script.{Gift, event, results, named, left_out, can_see, can_end, sees_later, ended, asked_at, if_asked, without_found, gift_of, next_gift, FinishesAt, IsGift}
use Rattle.session_port.specs.declared.event.HostEvent.{HostEvent}
use Rattle.session_port.specs.declared.event.HostEvent.TheVariants.{Bytes, Ended, Tasks, DeferredTask, Vfs, Flycheck, TestResult, DiscoverProject, Timer}
use Rattle.session_port.specs.declared.event.TaskMsg.{TaskMsg}
use Rattle.session_port.specs.declared.job.Job.{Job}
use Rattle.session_port.specs.declared.job.JobKind.{JobKind}
use Rattle.session_port.specs.declared.job.JobResult.{JobResult}
use Rattle.session_port.specs.declared.job.JobResult.TheVariants.{Value, Fault, Cancelled, NoMemory}
use Rattle.host_fakes.specs.declared.script.ScriptStep.{ScriptStep}
use Rattle.host_fakes.specs.declared.script.ScriptStep.TheVariants.{Give, Finish, Cancel, Supply}

turned : {X : Type 0} (b : Bool) (x : Option X) → cond (not b) x None ≡ cond b None x
turned true x = refl
turned false x = refl

-- a job is left out unless it is done
pub get_left : (out : Jobs) (done : map.FinMap nat_cmp Bool) (number : ℕ) → map.get (left_out out done) number ≡ cond (is_some (map.get done number)) None (map.get out number)
get_left out done number =
    map.get-retain_keys out (λ n. not (map.contains_key done n)) number
    (λ x tied. ap (λ n. not (map.contains_key done n)) (sym (map.nat_cmp-IsAntisymmetric number x tied)))
    ∙ turned (is_some (map.get done number)) (map.get out number)

pub left_none : (out : Jobs) → left_out out map.empty ≡ out
left_none out = map.same_map nat_cmp_total map.nat_cmp-IsAntisymmetric _ _ (λ number.
    get_left out map.empty number ∙ ap (λ found. cond (is_some found) None (map.get out number)) (map.get-empty nat_cmp number))

-- with one more done, it is no longer left
pub left_done : (out : Jobs) (done : map.FinMap nat_cmp Bool) (number : ℕ) → left_out out (map.insert done number true) ≡ map.remove (left_out out done) number
left_done out done number = map.same_map nat_cmp_total map.nat_cmp-IsAntisymmetric _ _ (λ q.
    get_left out (map.insert done number true) q
    ∙ ap (λ found. cond (is_some found) None (map.get out q)) (map.get-insert nat_cmp_total done number true q)
    ∙ one (eq_by_cmp nat_cmp q number) q
    ∙ ap (λ found. cond (eq_by_cmp nat_cmp q number) None found) (sym (get_left out done q))
    ∙ sym (map.get-remove nat_cmp_total (left_out out done) number q))
  where
    one : (b : Bool) (q : ℕ) → cond (is_some (cond b (Some true) (map.get done q))) None (map.get out q) ≡ cond b None (cond (is_some (map.get done q)) None (map.get out q))
    one true q = refl
    one false q = refl

remove_absent : (out : Jobs) (number : ℕ) → map.get out number ≡ None → map.remove out number ≡ out
remove_absent out number none = map.same_map nat_cmp_total map.nat_cmp-IsAntisymmetric _ _ (λ q.
    map.get-remove nat_cmp_total out number q ∙ same q (eq_by_cmp nat_cmp q number) refl)
  where
    same : (q : ℕ) (b : Bool) → eq_by_cmp nat_cmp q number ≡ b → cond b None (map.get out q) ≡ map.get out q
    same q true tied = sym (ap (map.get out) (eqb-true q number (sym (unsigned_tied q number) ∙ tied)) ∙ none)
    same q false tied = refl

-- a request's job is left out unless it is done
pub left_asked : (out : Jobs) (done : map.FinMap nat_cmp Bool) (number : ℕ) → asked_at number (left_out out done) ≡ cond (is_some (map.get done number)) None (asked_at number out)
left_asked out done number = ap (option_and_then if_asked) (get_left out done number) ∙ by_mark (is_some (map.get done number)) (map.get out number)
  where
    by_mark : (b : Bool) (found : Option Job) → option_and_then if_asked (cond b None found) ≡ cond b None (option_and_then if_asked found)
    by_mark true found = refl
    by_mark false found = refl

cond_same : {X : Type 0} (b : Bool) (x : X) → cond b x x ≡ x
cond_same true x = refl
cond_same false x = refl

-- no request's job is there, so none is left
pub asked_none : (out : Jobs) (done : map.FinMap nat_cmp Bool) (number : ℕ) → asked_at number out ≡ None → asked_at number (left_out out done) ≡ None
asked_none out done number none =
    left_asked out done number ∙ ap (λ (found : Option Job). cond (is_some (map.get done number)) None found) none ∙ cond_same (is_some (map.get done number)) None

-- what is done already is not left, and one that is done again changes nothing
pub done_again : (out : Jobs) (done : map.FinMap nat_cmp Bool) (number : ℕ) (mark : Bool) → map.get done number ≡ Some mark → left_out out (map.insert done number true) ≡ left_out out done
done_again out done number mark is =
    left_done out done number ∙ remove_absent (left_out out done) number (get_left out done number ∙ ap (λ found. cond (is_some found) None (map.get out number)) is)

-- a job that is found is out
pub asked_is : (number : ℕ) (out : Jobs) (job : Job) → asked_at number out ≡ Some job → map.get out number ≡ Some job
asked_is number out job is = by_job (map.get out number) is
  where
    by_job : (found : Option Job) → option_and_then if_asked found ≡ Some job → found ≡ Some job
    by_job None is = absurd cc
    by_job (Some other) is = by_kind (asks_analysis other.kind) is
      where
        by_kind : (b : Bool) → (if b then Some other else None) ≡ Some job → Some other ≡ Some job
        by_kind true is = is
        by_kind false is = absurd cc

module _ (answer : SnapshotData → Ask → OutcomeSpec) where
  -- results of the numbers that are left make the results of all
  abbrev pub Continues : List ℕ → Jobs → List TaskMsg → List ℕ → Jobs → Type 0
  Continues numbers out batch others left = (rest : List TaskMsg) → AllZip (FinishesAt answer) (named others left) rest → AllZip (FinishesAt answer) (named numbers out) (batch ++ rest)

  pub continues_start : (numbers : List ℕ) (out left : Jobs) → left ≡ out → Continues numbers out [] numbers left
  continues_start numbers out left is rest zip = subst (λ o. AllZip (FinishesAt answer) (named numbers o) rest) is zip

  -- results of jobs that are out are honest
  honest_named : (numbers : List ℕ) (out : Jobs) (batch : List TaskMsg) → AllZip (FinishesAt answer) (named numbers out) batch → AreHonest answer out batch
  honest_named [] out [] zip = tt
  honest_named [] out (message ∷ batch) zip = absurd zip
  honest_named (number ∷ numbers) out batch zip = by_job (asked_at number out) refl (honest_named numbers (without_found (asked_at number out) number out)) batch zip
    where
      by_job : (found : Option Job) → asked_at number out ≡ found
          → ((batch : List TaskMsg) → AllZip (FinishesAt answer) (named numbers (without_found found number out)) batch → AreHonest answer (without_found found number out) batch) → (batch : List TaskMsg)
          → AllZip (FinishesAt answer) (option_to_list (option_map (λ job. (number, job)) found) ++ named numbers (without_found found number out)) batch → AreHonest answer out batch
      by_job None none others batch zip = others batch zip
      by_job (Some job) some others [] zip = absurd zip
      by_job (Some job) some others (message ∷ batch) zip =
          let there : map.get out message.job ≡ Some job = ap (map.get out) zip.0.number ∙ asked_is number out job some in
          let ends : is_some (final_of message.body) ≡ true = is_some-final (final_of message.body) IsUncancelled zip.0.uncancelled in
          let off : jobs_after message out ≡ map.remove out number = after_fitting message out job there zip.0.fits ends ∙ ap (map.remove out) zip.0.number in (
            honest_end answer out message.job job (final_of message.body) there zip.0.result,
            subst (λ o. AreHonest answer o batch) (sym off) (others batch zip.1),
          )

  honest_stop : (found : Option Job) (out : Jobs) (number saw : ℕ) → map.get out number ≡ found → can_see found saw ≡ true → AreHonest answer out (ended number (Cancelled saw) ∷ [])
  honest_stop None out number saw is sees = cc
  honest_stop (Some job) out number saw is sees = (record { job = job; is_out = is; is_result = ltb-true _ _ sees }, tt)

  -- a job of the host's own may end with each result that fits it, and with a revision that is later
  own_end : (b : Bool) (kind : JobKind) (findings : List OutcomeSpec) (result : JobResult) → b ≡ false → fits_kind kind result ≡ true → IsEndBy b kind findings result
  own_end true kind findings result own fit = absurd cc
  own_end false kind findings result own fit = fit

  host_result : (job : Job) (result : JobResult) → asks_analysis job.kind ≡ false → fits_kind job.kind result ≡ true → sees_later job.snapshot.revision result ≡ true → IsResultOf answer job result
  host_result job (Value value) own fit later = own_end (asks_analysis job.kind) job.kind (findings_of answer job) (Value value) own fit
  host_result job (Fault code message) own fit later = own_end (asks_analysis job.kind) job.kind (findings_of answer job) (Fault code message) own refl
  host_result job (Cancelled saw) own fit later = ltb-true _ _ later
  host_result job NoMemory own fit later = tt

  all_three : (a b c : Bool) → (not a && (b && c)) ≡ true → (a ≡ false) × (b ≡ true) × (c ≡ true)
  all_three true b c is = absurd cc
  all_three false true true is = (refl, refl, refl)
  all_three false true false is = absurd cc
  all_three false false c is = absurd cc

  honest_supply : (found : Option Job) (out : Jobs) (number : ℕ) (result : JobResult) → map.get out number ≡ found → can_end found result ≡ true → AreHonest answer out (ended number result ∷ [])
  honest_supply None out number result is may = absurd cc
  honest_supply (Some job) out number result is may =
      let k = all_three (asks_analysis job.kind) (fits_kind job.kind result) (sees_later job.snapshot.revision result) may in
      (record { job = job; is_out = is; is_result = host_result job result k.0 k.1 k.2 }, tt)

  honest_event : (given coming : HostEvent) (out : Jobs) → IsHonest answer out given → coming ≡ given → IsHonest answer out coming
  honest_event given coming out honest is = subst (IsHonest answer out) (sym is) honest

  some_gift : (gift other : Gift) → Some gift ≡ Some other → gift ≡ other
  some_gift gift other is = cc

  -- an event that is given as it stands and tells of no job
  given_alone : (out : Jobs) (given : HostEvent) (gift : Gift) (coming : HostEvent) → IsHonest answer out given → Some (event given) ≡ Some gift → IsGift answer gift coming → IsHonest answer out coming
  given_alone out given gift coming honest is comes = honest_event given coming out honest (subst (λ g. IsGift answer g coming) (sym (some_gift _ _ is)) comes)

  honest_gift : (out : Jobs) (step : ScriptStep) (gift : Gift) (coming : HostEvent) → gift_of out step ≡ Some gift → IsGift answer gift coming → IsHonest answer out coming
  honest_gift out (Give (Bytes bytes)) gift coming is comes = given_alone out (Bytes bytes) gift coming tt is comes
  honest_gift out (Give Ended) gift coming is comes = given_alone out Ended gift coming tt is comes
  honest_gift out (Give (Tasks batch)) gift coming is comes = cc
  honest_gift out (Give (DeferredTask tasks)) gift coming is comes = given_alone out (DeferredTask tasks) gift coming tt is comes
  honest_gift out (Give (Vfs messages)) gift coming is comes = given_alone out (Vfs messages) gift coming tt is comes
  honest_gift out (Give (Flycheck messages)) gift coming is comes = given_alone out (Flycheck messages) gift coming tt is comes
  honest_gift out (Give (TestResult messages)) gift coming is comes = given_alone out (TestResult messages) gift coming tt is comes
  honest_gift out (Give (DiscoverProject messages)) gift coming is comes = given_alone out (DiscoverProject messages) gift coming tt is comes
  honest_gift out (Give (Timer ticket)) gift coming is comes = given_alone out (Timer ticket) gift coming tt is comes
  honest_gift out (Finish numbers) gift coming is comes =
      let given : IsGift answer (results (named numbers out)) coming = subst (λ g. IsGift answer g coming) (sym (some_gift _ _ is)) comes in
      subst (IsHonest answer out) (sym given.1) (honest_named numbers out given.0 given.2)
  honest_gift out (Cancel number saw) gift coming is comes = by_test (can_see (map.get out number) saw) refl is
    where
      by_test : (b : Bool) → can_see (map.get out number) saw ≡ b → cond b (Some (event (Tasks (ended number (Cancelled saw) ∷ [])))) None ≡ Some gift → IsHonest answer out coming
      by_test true sees is =
          honest_event (Tasks (ended number (Cancelled saw) ∷ [])) coming out (honest_stop (map.get out number) out number saw refl sees) (subst (λ g. IsGift answer g coming) (sym (some_gift _ _ is)) comes)
      by_test false sees is = cc
  honest_gift out (Supply number result) gift coming is comes = by_test (can_end (map.get out number) result) refl is
    where
      by_test : (b : Bool) → can_end (map.get out number) result ≡ b → cond b (Some (event (Tasks (ended number result ∷ [])))) None ≡ Some gift → IsHonest answer out coming
      by_test true may is =
          honest_event (Tasks (ended number result ∷ [])) coming out (honest_supply (map.get out number) out number result refl may) (subst (λ g. IsGift answer g coming) (sym (some_gift _ _ is)) comes)
      by_test false may is = cc

  pub honest_next : (out : Jobs) (steps : List ScriptStep) (coming : HostEvent) → IsGift answer (next_gift out steps).0 coming → IsHonest answer out coming
  honest_next out [] coming comes = honest_event Ended coming out tt comes
  honest_next out (step ∷ steps) coming comes = by_gift (honest_next out steps coming) (gift_of out step) refl comes
    where
      by_gift : (IsGift answer (next_gift out steps).0 coming → IsHonest answer out coming) → (found : Option Gift) → gift_of out step ≡ found → IsGift answer (unwrap_or (option_map (λ gift. (gift, steps)) found) (next_gift out steps)).0 coming → IsHonest answer out coming
      by_gift others None none comes = others comes
      by_gift others (Some gift) some comes = honest_gift out step gift coming some comes
