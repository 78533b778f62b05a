-- The ids of checks rise, only checks that are set restart, and a check ends under the title that it began with.
use Rattle.std.proofs.Common.{◌≡◌, ◌≢◌, ℕ, ◌+◌, ◌<◌, ◌^◌, Bool, true, false, List, [], ◌∷◌, ◌++◌, length, map, refl, ap}
use Rattle.std.proofs.Common.{sym, ◌∙◌, subst, arith, suc, zero, add-zero, All, get_or}
use Rattle.std.specs.Prelude.{cond, ◌==◌, ◌&&◌, ltb, Option, None, Some, unwrap_or, option_and_then, slice_get, Result}
use Rattle.std.specs.Prelude.{Ok, Err}
use Rattle.std.specs.FinMap as by_key
use Rattle.std.specs.Fmt.{decimal}
use Rattle.std.specs.Ordering.{nat_cmp, eq_by_cmp}
use Rattle.std.specs.Cmp.{nat_cmp_total, eq_by_cmp_equiv, Equal-is}
use Rattle.std.specs.Str.Parse.{digits_value, without_leading_plus}
use Rattle.std.proofs.lemmas.Bool.{cond-true, cond-false, true≢false, eq-eqb}
use Rattle.std.proofs.lemmas.Fmt.{parse-decimal}
use Rattle.std.proofs.lemmas.List.Elements.{All-nil, All-cons, All-head, All-tail, All-map}
use Rattle.std.proofs.lemmas.List.Folds.{list_any_at}
use Rattle.project_model.specs.declared.check_scope.CheckScope.TheVariants.{Workspace}
use Rattle.project_model.specs.declared.workspace.ProjectWorkspace.{ProjectWorkspace}
use Rattle.ra_config.specs.Config.{ConfigData}
use Rattle.session_port.specs.declared.news.CheckProgress.{CheckProgress}
use Rattle.session_port.specs.declared.news.CheckProgress.TheVariants.{DidStart, DidCheckCrate, DidCancel}
use Rattle.session_port.specs.declared.news.CheckProgress.TheVariants.{DidFailToRestart, DidFinish}
use Rattle.activities.specs.CheckNames.{command_set, title_by, token_of, token_front, number_in, is_numeral, id_in}
use Rattle.activities.specs.CheckRuns.{CheckAct, check_step, checks_after, those_of, Rises, IsOfWorkspace, IsOfSet}
use Rattle.activities.specs.CheckRuns.{GoesOn}
use Rattle.activities.specs.CheckRuns.CheckAct.{Sets, Progresses, RestartsAll, Saves, CancelsAll, Cancels}
use Rattle.activities.specs.Checks.{Checks, is_checked, is_given, checks_from, checks_for, progressed, restart, cancel}
use Rattle.activities.specs.Checks.{is_set, cancelled_at, cancelled_by, command_of, title_of, is_end}
use Rattle.activities.specs.Settings.{runs_once, words_set}
use Rattle.activities.specs.declared.telling.Telling.{Telling}
use Rattle.activities.specs.declared.telling.Telling.TheVariants.{Begin, Report, End, SetChecks, RestartCheck}
use Rattle.activities.specs.declared.telling.Telling.TheVariants.{CancelCheck}
use Rattle.activities.proofs.TestLaws.{either}
use Rattle.activities.proofs.Tokens.{behind-append, spells}

abbrev ids_of : List (ℕ × List ℕ) → List ℕ
ids_of set = map (λ (check : ℕ × List ℕ). check.0) set

-- ---- the ids rise

module _ (overridden : Bool) where
  above : (low place : ℕ) (present : List ProjectWorkspace) → low < place
      → All (λ id. low < id) (ids_of (checks_from overridden place present))
  above low place [] less = All-nil (λ id. low < id)
  above low place (workspace ∷ rest) less =
      let more = above low (place + 1) rest (omega arith) in
      either (λ set. All (λ id. low < id) (ids_of set)) (is_checked overridden workspace.kind)
      ((place, workspace.root) ∷ checks_from overridden (place + 1) rest) (checks_from overridden (place + 1) rest)
      (All-cons (λ id. low < id) place (ids_of (checks_from overridden (place + 1) rest)) less more) more

  rise : (place : ℕ) (present : List ProjectWorkspace) → Rises (ids_of (checks_from overridden place present))
  rise place [] = tt
  rise place (workspace ∷ rest) =
      either (λ set. Rises (ids_of set)) (is_checked overridden workspace.kind)
      ((place, workspace.root) ∷ checks_from overridden (place + 1) rest) (checks_from overridden (place + 1) rest)
      (above place (place + 1) rest (omega arith), rise (place + 1) rest) (rise (place + 1) rest)

rise_for : (settings : ConfigData) (present : List ProjectWorkspace) → Rises (ids_of (checks_for settings present))
rise_for settings present =
    either (λ set. Rises (ids_of set)) (runs_once settings) ((0, settings.root_path) ∷ [])
    (checks_from (is_given (words_set settings)) 0 present) (All-nil (λ id. 0 < id), tt)
    (rise (is_given (words_set settings)) 0 present)

-- how far a check is leaves those that are set
set_stays : (settings : ConfigData) (id : ℕ) (progress : CheckProgress) (checks : Checks)
    → (progressed settings id progress checks).state.set ≡ checks.set
set_stays settings id (DidStart command) checks = refl
set_stays settings id (DidCheckCrate name) checks = refl
set_stays settings id DidCancel checks = refl
set_stays settings id (DidFailToRestart reason) checks = refl
set_stays settings id (DidFinish result) checks = refl

pub ids_rise : (run : List CheckAct) → Rises (ids_of (checks_after run).set)
ids_rise [] = tt
ids_rise (Sets settings present ∷ before) = rise_for settings present
ids_rise (Progresses settings id progress ∷ before) =
    subst (λ set. Rises (ids_of set)) (sym (set_stays settings id progress (checks_after before))) (ids_rise before)
ids_rise (RestartsAll ∷ before) = ids_rise before
ids_rise (Saves settings path ∷ before) = ids_rise before
ids_rise (CancelsAll ∷ before) = ids_rise before
ids_rise (Cancels token ∷ before) = ids_rise before

-- ---- each check is of its workspace

inside : {X : Type 0} (x y : X) → Some x ≡ Some y → x ≡ y
inside x y same = cc

pub once_at_root : (settings : ConfigData) (present : List ProjectWorkspace) → runs_once settings ≡ true
    → checks_for settings present ≡ (0, settings.root_path) ∷ []
once_at_root settings present once = cond-true (runs_once settings) _ _ once

module _ (overridden : Bool) where
  -- so many places behind this one
  record IsBehind (place : ℕ) (present : List ProjectWorkspace) (check : ℕ × List ℕ) : Type 0 where
    offset : ℕ
    id : check.0 ≡ place + offset
    workspace : ProjectWorkspace
    there : slice_get present offset ≡ Some workspace
    folder : check.1 ≡ workspace.root
    checked : is_checked overridden workspace.kind ≡ true

  further : (place : ℕ) (first : ProjectWorkspace) (rest : List ProjectWorkspace) (check : ℕ × List ℕ)
      → IsBehind (place + 1) rest check → IsBehind place (first ∷ rest) check
  further place first rest check is = record {
    offset = suc is.offset;
    id = omega (arith, is.id);
    workspace = is.workspace;
    there = is.there;
    folder = is.folder;
    checked = is.checked;
  }

  found_if : (b : Bool) (first : ProjectWorkspace) (rest : List ProjectWorkspace) (place at : ℕ) (check : ℕ × List ℕ)
      → is_checked overridden first.kind ≡ b
      → ((at : ℕ) → slice_get (checks_from overridden (place + 1) rest) at ≡ Some check
      → IsBehind (place + 1) rest check)
      → slice_get (cond b ((place, first.root) ∷ checks_from overridden (place + 1) rest)
      (checks_from overridden (place + 1) rest)) at ≡ Some check
      → IsBehind place (first ∷ rest) check
  found_if true first rest place zero check checked more is =
      let same = inside (place, first.root) check is in
      record {
        offset = 0;
        id = ap (λ (c : ℕ × List ℕ). c.0) (sym same) ∙ sym (add-zero place);
        workspace = first;
        there = refl;
        folder = ap (λ (c : ℕ × List ℕ). c.1) (sym same);
        checked = checked;
      }
  found_if true first rest place (suc at) check checked more is = further place first rest check (more at is)
  found_if false first rest place at check checked more is = further place first rest check (more at is)

  found : (present : List ProjectWorkspace) (place at : ℕ) (check : ℕ × List ℕ)
      → slice_get (checks_from overridden place present) at ≡ Some check
      → IsBehind place present check
  found [] place at check is = absurd (cc)
  found (first ∷ rest) place at check is =
      found_if (is_checked overridden first.kind) first rest place at check refl (λ at. found rest (place + 1) at check)
      is

  shifted : (b : Bool) (first check : ℕ × List ℕ) (more : List (ℕ × List ℕ)) (at : ℕ) → slice_get more at ≡ Some check
      → (at : ℕ) × (slice_get (cond b (first ∷ more) more) at ≡ Some check)
  shifted true first check more at is = (suc at, is)
  shifted false first check more at is = (at, is)

  has : (present : List ProjectWorkspace) (place offset : ℕ) (workspace : ProjectWorkspace)
      → slice_get present offset ≡ Some workspace
      → is_checked overridden workspace.kind ≡ true
      → (at : ℕ) × (slice_get (checks_from overridden place present) at ≡ Some (place + offset, workspace.root))
  has [] place offset workspace is checked = absurd (cc)
  has (first ∷ rest) place zero workspace is checked =
      let same = inside first workspace is in
      let is_one = ap (λ (w : ProjectWorkspace). is_checked overridden w.kind) same ∙ checked in (
        0,
        ap (λ set. slice_get set 0)
            (cond-true (is_checked overridden first.kind)
            ((place, first.root) ∷ checks_from overridden (place + 1) rest)
            (checks_from overridden (place + 1) rest) is_one)
            ∙ ap (λ (w : ProjectWorkspace). Some (place, w.root)) same
            ∙ ap (λ (n : ℕ). Some (n, workspace.root)) (sym (add-zero place)),
      )
  has (first ∷ rest) place (suc offset) workspace is checked =
      let later = has rest (place + 1) offset workspace is checked in
      let same : place + 1 + offset ≡ place + suc offset = omega arith in
      shifted (is_checked overridden first.kind) (place, first.root) (place + suc offset, workspace.root)
      (checks_from overridden (place + 1) rest) later.0
      (later.1 ∙ ap (λ (n : ℕ). Some (n, workspace.root)) same)

for_each : (settings : ConfigData) (present : List ProjectWorkspace) → runs_once settings ≡ false
    → checks_for settings present ≡ checks_from (is_given (words_set settings)) 0 present
for_each settings present each = cond-false (runs_once settings) ((0, settings.root_path) ∷ []) _ each

pub is_of_workspace : (settings : ConfigData) (present : List ProjectWorkspace) (at : ℕ) (check : ℕ × List ℕ)
    → runs_once settings ≡ false
    → slice_get (checks_for settings present) at ≡ Some check
    → IsOfWorkspace (is_given (words_set settings)) present check
is_of_workspace settings present at check each is =
    let k = found (is_given (words_set settings)) present 0 at
    check (sym (ap (λ set. slice_get set at) (for_each settings present each)) ∙ is) in
    let same : check.0 ≡ k.offset = omega (arith, k.id) in
    record {
      workspace = k.workspace;
      there = ap (slice_get present) same ∙ k.there;
      folder = k.folder;
      checked = k.checked;
    }

pub has_its_check : (settings : ConfigData) (present : List ProjectWorkspace) (place : ℕ) (workspace : ProjectWorkspace)
    → runs_once settings ≡ false
    → slice_get present place ≡ Some workspace → is_checked (is_given (words_set settings)) workspace.kind ≡ true
    → (at : ℕ) × (slice_get (checks_for settings present) at ≡ Some (place, workspace.root))
has_its_check settings present place workspace each is checked =
    let k = has (is_given (words_set settings)) present 0 place workspace is checked in
    let same : 0 + place ≡ place = omega arith in (
      k.0,
      ap (λ set. slice_get set k.0) (for_each settings present each) ∙ k.1
          ∙ ap (λ (n : ℕ). Some (n, workspace.root)) same,
    )

-- ---- only checks that are set

module _ (checks : Checks) where
  all_set : All (λ (check : ℕ × List ℕ). is_set check.0 checks ≡ true) checks.set
  all_set k d less =
      list_any_at (λ (check : ℕ × List ℕ). check.0 == (get_or checks.set k d).0) checks.set k d
      less (eq-eqb (get_or checks.set k d).0 _ refl)

  one_of : (t : Telling) → IsOfSet checks t → All (IsOfSet checks) (t ∷ [])
  one_of t is = All-cons (IsOfSet checks) t [] is (All-nil (IsOfSet checks))

  one_if : (b : Bool) (t : Telling) → (b ≡ true → IsOfSet checks t) → All (IsOfSet checks) (cond b (t ∷ []) [])
  one_if true t is = one_of t (is refl)
  one_if false t is = All-nil (IsOfSet checks)

  those_cancelled : (id : Option ℕ) → All (IsOfSet checks) (cancelled_by id checks)
  those_cancelled None = All-nil (IsOfSet checks)
  those_cancelled (Some id) = one_if (is_set id checks) (CancelCheck id) (λ is. is)

  of_progress : (settings : ConfigData) (id : ℕ) (progress : CheckProgress)
      → All (IsOfSet checks) (progressed settings id progress checks).tellings
  of_progress settings id (DidStart command) =
      one_of (Begin (title_by (length checks.set) id command) (Some (token_of id)) None None) tt
  of_progress settings id (DidCheckCrate name) =
      one_of (Report (title_of settings id checks) (Some (token_of id)) (Some name) None) tt
  of_progress settings id DidCancel = one_of (End (title_of settings id checks) (Some (token_of id)) None) tt
  of_progress settings id (DidFailToRestart reason) = All-nil (IsOfSet checks)
  of_progress settings id (DidFinish result) = one_of (End (title_of settings id checks) (Some (token_of id)) None) tt

  pub of_set : (act : CheckAct) → All (IsOfSet checks) (check_step act checks).tellings
  of_set (Sets settings present) = one_of (SetChecks (checks_for settings present)) tt
  of_set (Progresses settings id progress) = of_progress settings id progress
  of_set RestartsAll = All-map (IsOfSet checks) restart checks.set all_set
  of_set (Saves settings path) =
      either (λ o. All (IsOfSet checks) (those_of o)) (runs_once settings)
      (Some (cond (is_set 0 checks) (RestartCheck 0 (Workspace (Some path)) ∷ []) [])) None
      (one_if (is_set 0 checks) (RestartCheck 0 (Workspace (Some path))) (λ is. is)) (All-nil (IsOfSet checks))
  of_set CancelsAll = All-map (IsOfSet checks) cancel checks.set all_set
  of_set (Cancels token) = those_cancelled (id_in token)

-- ---- under which title

same_number : (id : ℕ) → eq_by_cmp nat_cmp id id ≡ true
same_number id = (eq_by_cmp_equiv nat_cmp_total).refl id

other_number : (b : Bool) (id other : ℕ) → eq_by_cmp nat_cmp id other ≡ b → id ≢ other → b ≡ false
other_number true id other is apart = absurd
    (apart (by_key.nat_cmp-IsAntisymmetric id other ((Equal-is (nat_cmp id other)).0 is)))
other_number false id other is apart = refl

-- so many checks are set, and this one was started with this command
pub record IsUnder (count id : ℕ) (command : List ℕ) (checks : Checks) : Type 0 where
  pub set : length checks.set ≡ count
  pub started : by_key.get checks.commands id ≡ Some command

module _ (count id : ℕ) (command : List ℕ) where
  goes_on : (settings : ConfigData) (other : ℕ) (progress : CheckProgress) (checks : Checks)
      → GoesOn id (Progresses settings other progress)
      → IsUnder count id command checks → IsUnder count id command (progressed settings other progress checks).state
  goes_on settings other (DidStart next) checks apart is = record {
    set = is.set;
    started =
        by_key.get-insert nat_cmp_total checks.commands other next id
        ∙ cond-false _ _ _ (other_number (eq_by_cmp nat_cmp id other) id other refl apart)
        ∙ is.started;
  }
  goes_on settings other (DidCheckCrate name) checks apart is = is
  goes_on settings other DidCancel checks apart is = record { set = is.set; started = is.started }
  goes_on settings other (DidFailToRestart reason) checks apart is = record { set = is.set; started = is.started }
  goes_on settings other (DidFinish result) checks apart is = record { set = is.set; started = is.started }

  title_under : (settings : ConfigData) (checks : Checks) → IsUnder count id command checks
      → title_of settings id checks ≡ title_by count id command
  title_under settings checks is =
      ap (λ n. title_by n id (command_of settings id checks)) is.set
      ∙ ap (λ o. title_by count id (unwrap_or o (command_set settings))) is.started

  end_told : (settings : ConfigData) (progress : CheckProgress) (checks : Checks) → IsUnder count id command checks
      → is_end progress ≡ true
      → (progressed settings id progress checks).tellings ≡ End (title_by count id command) (Some (token_of id)) None
      ∷ []
  end_told settings (DidStart next) checks is ends = absurd (true≢false (sym ends))
  end_told settings (DidCheckCrate name) checks is ends = absurd (true≢false (sym ends))
  end_told settings DidCancel checks is ends =
      ap (λ title. End title (Some (token_of id)) None ∷ []) (title_under settings checks is)
  end_told settings (DidFailToRestart reason) checks is ends = absurd (true≢false (sym ends))
  end_told settings (DidFinish result) checks is ends =
      ap (λ title. End title (Some (token_of id)) None ∷ []) (title_under settings checks is)

module _ (settings : ConfigData) (id : ℕ) (command : List ℕ) (before : List CheckAct) where
  abbrev pub count_before : ℕ
  count_before = length (checks_after before).set

  pub stays_under : (since : List CheckAct) → All (GoesOn id) since
      → IsUnder count_before id command (checks_after (since ++ Progresses settings id (DidStart command) ∷ before))
  stays_under [] goes = record {
    set = refl;
    started =
        by_key.get-insert nat_cmp_total (checks_after before).commands id command id ∙ cond-true _ _ _ (same_number id);
  }
  stays_under (Sets now present ∷ since) goes = absurd (All-head (GoesOn id) _ since goes)
  stays_under (Progresses now other progress ∷ since) goes =
      goes_on count_before id command now other progress
      _ (All-head (GoesOn id) (Progresses now other progress) since goes)
      (stays_under since (All-tail (GoesOn id) _ since goes))
  stays_under (RestartsAll ∷ since) goes = stays_under since (All-tail (GoesOn id) _ since goes)
  stays_under (Saves now path ∷ since) goes = stays_under since (All-tail (GoesOn id) _ since goes)
  stays_under (CancelsAll ∷ since) goes = stays_under since (All-tail (GoesOn id) _ since goes)
  stays_under (Cancels token ∷ since) goes = stays_under since (All-tail (GoesOn id) _ since goes)

  pub ends_under : (now : ConfigData) (progress : CheckProgress) (since : List CheckAct) → All (GoesOn id) since
      → is_end progress ≡ true
      → (check_step (Progresses now id progress)
      (checks_after (since ++ Progresses settings id (DidStart command) ∷ before))).tellings
      ≡ End (title_by count_before id command) (Some (token_of id)) None ∷ []
  ends_under now progress since goes ends =
      end_told count_before id command now progress _ (stays_under since goes) ends

  pub reports_under : (now : ConfigData) (name : List ℕ) (since : List CheckAct) → All (GoesOn id) since
      → (check_step (Progresses now id (DidCheckCrate name))
      (checks_after (since ++ Progresses settings id (DidStart command) ∷ before))).tellings
      ≡ Report (title_by count_before id command) (Some (token_of id)) (Some name) None ∷ []
  reports_under now name since goes =
      ap (λ title. Report title (Some (token_of id)) (Some name) None ∷ [])
      (title_under count_before id command now _ (stays_under since goes))

-- ---- the token

module _ (id : ℕ) (small : id < 2 ^ 32) where
  abbrev digits_of : List ℕ
  digits_of = without_leading_plus (decimal id)

  abbrev value_of : ℕ
  value_of = digits_value 10 digits_of

  spelled : (b : Bool) → (is_numeral digits_of && ltb value_of (2 ^ 32)) ≡ b → number_in (decimal id) ≡ Some id
  spelled true is =
      let some : Result ℕ (Unit {0}) = Ok value_of in
      let read : some ≡ Ok id =
      parse-decimal 32 id (decimal id) some small (omega (arith, small)) refl
      ((spells (2 ^ 32) digits_of).0 is, refl) in
      let same : value_of ≡ id = cc in
      cond-true (is_numeral digits_of && ltb value_of (2 ^ 32)) (Some value_of) None is ∙ ap Some same
  spelled false is =
      let none : Result ℕ (Unit {0}) = Err tt in
      let read : none ≡ Ok id =
      parse-decimal 32 id (decimal id) none small (omega (arith, small)) refl
      (λ p. true≢false (sym ((spells (2 ^ 32) digits_of).1 p) ∙ is)) in
      absurd (cc)

  pub id_in_token : id_in (token_of id) ≡ Some id
  id_in_token =
      ap (option_and_then number_in) (behind-append token_front (decimal id))
      ∙ spelled (is_numeral digits_of && ltb value_of (2 ^ 32)) refl

  pub token_cancels : (checks : Checks) → cancelled_at (token_of id) checks ≡
      cond (is_set id checks) (CancelCheck id ∷ []) []
  token_cancels checks = ap (λ o. cancelled_by o checks) id_in_token
