-- A session is quiescent exactly where the lists say so, and nothing is left to do then.
use Rattle.std.proofs.Common.{◌≡◌, ◌↔◌, ◌+◌, ℕ, zero, suc, List, [], ◌∷◌, ◌++◌, Bool, true, false, refl, sym, ap, ◌∙◌, subst, arith, ltb-false, le-ltb}
use Rattle.std.proofs.Common.{eqb-true}
use Rattle.std.specs.Prelude.{◌==◌, is_none, ltb, option_map, Option, None, Some, if◌then◌else◌}
use Rattle.std.specs.FinMap as map
use Rattle.std.specs.List.{filter_map, range_with_len}
use Rattle.ra_config.specs.Config.{ConfigData}
use Rattle.session_port.specs.Jobs.{Jobs}
use Rattle.session_port.specs.declared.job.JobKind.{JobKind}
use Rattle.desk.specs.Meaning.{Meaning}
use Rattle.workspaces.specs.Workspaces.{Workspaces}
use Rattle.workspaces.specs.declared.requests.WaitingFetch.{WaitingFetch}
use Rattle.session_model.specs.Documents.{loading_after}
use Rattle.session_model.specs.Places.{Place, beginning, last_of, place_after, place_after_all}
use Rattle.session_model.specs.Run.{Runs, Turn, out_after_all}
use Rattle.session_model.specs.State.{State, fresh}
use Rattle.session_model.specs.Status.{loader_settings}
use Rattle.session_laws.specs.Invariant.{IsNoneOut, IsOutIf, RunsAreOut, Stands, is_build, is_fetch, is_load, place_of_state}
use Rattle.session_laws.specs.Ordered.{loader_version, loader_versions}
use Rattle.session_laws.proofs.Answered.{runs-stand}
use Rattle.session_laws.proofs.LoaderVersions.{versions-rise}
use Rattle.session_laws.proofs.Running.{building, fetching, loading}
use Rattle.session_laws.proofs.Same.{none-some}
use Rattle.quiet_laws.specs.Heard.{Heard, IsQuietBy, heard_after, heard_after_all, nothing_heard}
use Rattle.quiet_laws.specs.Rest.{IsSettled, is_quiet}
use Rattle.quiet_laws.proofs.Bools.{true-false}
use Rattle.quiet_laws.proofs.HearingSwitch.{HasBegun}
use Rattle.quiet_laws.proofs.HearingTurns.{runs-agree, runs-rest}
use Rattle.quiet_laws.proofs.HearingWork.{ticket, ticket_in}
use Rattle.quiet_laws.proofs.Resting.{quiet-of, quiet-parts}

-- ---- what the lists have folded already

loading-is : (meaning : Meaning) (turns : List Turn) (heard : Heard) (place : Place) → heard.loading ≡ place.loading
    → (heard_after_all turns heard).loading ≡ (place_after_all meaning turns place).loading
loading-is meaning [] heard place same = same
loading-is meaning (turn ∷ turns) heard place same =
    loading-is meaning turns (heard_after turn heard) (place_after meaning turn place) (ap (loading_after turn.input) same)

jobs-are : (meaning : Meaning) (turns : List Turn) (place : Place) → (place_after_all meaning turns place).desk.jobs ≡ out_after_all turns place.desk.jobs
jobs-are meaning [] place = refl
jobs-are meaning (turn ∷ turns) place = jobs-are meaning turns (place_after meaning turn place)

last-append : (ns ms : List ℕ) (number : ℕ) → last_of (ns ++ ms) number ≡ last_of ms (last_of ns number)
last-append [] ms number = refl
last-append (n ∷ ns) ms number = last-append ns ms n

loader-is : (turns : List Turn) (heard : Heard) → (heard_after_all turns heard).loader_version ≡ last_of (loader_versions turns) heard.loader_version
loader-is [] heard = refl
loader-is (turn ∷ turns) heard =
    loader-is turns (heard_after turn heard) ∙ sym (last-append (filter_map loader_version turn.commands) (loader_versions turns) heard.loader_version)

last-range : (first n before : ℕ) → last_of (range_with_len first (suc n)) before ≡ first + n
last-range first zero before = omega arith
last-range first (suc n) before = last-range (first + 1) n first ∙ more first n
  where
    more : (first n : ℕ) → first + 1 + n ≡ first + suc n
    more first n = omega arith

last-all : (n : ℕ) → last_of (range_with_len 1 n) 0 ≡ n
last-all zero = refl
last-all (suc n) = last-range 1 n 0 ∙ one n
  where
    one : (n : ℕ) → 1 + n ≡ suc n
    one n = omega arith

-- ---- the loader's settings

settings-are : (b : Bool) (w : Workspaces) → (w.version == 0) ≡ b → HasBegun w → (if b then 0 else w.loader_version) ≡ w.loader_version
settings-are true w is begun = sym (begun (eqb-true w.version 0 is))
settings-are false w is begun = refl

loader-given : (w : Workspaces) → HasBegun w → loader_settings w ≡ w.loader_version
loader-given w begun = settings-are (w.version == 0) w refl begun

-- ---- what is out

none-out : (is : JobKind → Bool) (b : Bool) (jobs : Jobs) → IsOutIf is b jobs → b ≡ false → IsNoneOut is jobs
none-out is true jobs out none = true-false none
none-out is false jobs out none = out

out-none : (is : JobKind → Bool) (b : Bool) (jobs : Jobs) → IsOutIf is b jobs → IsNoneOut is jobs → b ≡ false
out-none is true jobs out none = true-false (sym out.its ∙ none out.number out.job out.is_out)
out-none is false jobs out none = refl

none-waits : (o : Option WaitingFetch) → is_none o ≡ true → option_map ticket_in o ≡ None
none-waits None is = refl
none-waits (Some fetch) is = true-false (sym is)

waits-none : (o : Option WaitingFetch) → option_map ticket_in o ≡ None → is_none o ≡ true
waits-none None is = refl
waits-none (Some fetch) is = none-some fetch.ticket (sym is)

-- ---- both ways

-- the machine's facts, by the lists
record Facts (heard : Heard) (out : Jobs) (s : State) : Type 0 where
  files : s.files.loading ≡ heard.loading
  progress : s.files.progress_version ≡ heard.progress_version
  timer : ticket s.workspaces ≡ heard.timer
  loader : loader_settings s.workspaces ≡ heard.loader_version
  fetches : IsOutIf is_fetch (fetching s.workspaces) out
  builds : IsOutIf is_build (building s.workspaces) out
  loads : IsOutIf is_load (loading s.workspaces) out

runs-facts : (meaning : Meaning) (settings : ConfigData) (turns : List Turn) (last : State) → Runs meaning (fresh settings) turns last
    → Facts (heard_after_all turns nothing_heard) (out_after_all turns map.empty) last
runs-facts meaning settings turns last runs =
    let stands : Stands meaning settings turns last = runs-stand meaning settings turns last runs in
    let agrees = runs-agree meaning settings turns last runs in
    let rest = runs-rest meaning settings turns last runs in
    let out : RunsAreOut (place_of_state last) = subst RunsAreOut (sym stands.place) stands.runs in
    let jobs : last.desk.jobs ≡ out_after_all turns map.empty = ap (λ (p : Place). p.desk.jobs) stands.place ∙ jobs-are meaning turns (beginning settings) in
    record {
      files = ap (λ (p : Place). p.loading) stands.place ∙ sym (loading-is meaning turns nothing_heard (beginning settings) refl);
      progress = agrees.progress;
      timer = agrees.timer;
      loader = loader-given last.workspaces rest.begun
          ∙ sym (loader-is turns nothing_heard ∙ ap (λ ns. last_of ns 0) (versions-rise meaning settings turns last runs)
          ∙ last-all last.workspaces.loader_version);
      fetches = subst (IsOutIf is_fetch (fetching last.workspaces)) jobs out.fetching;
      builds = subst (IsOutIf is_build (building last.workspaces)) jobs out.building;
      loads = subst (IsOutIf is_load (loading last.workspaces)) jobs out.loading;
    }

quiet-by : (heard : Heard) (out : Jobs) (s : State) → Facts heard out s → is_quiet s ≡ true → IsQuietBy heard out
quiet-by heard out s facts quiet =
    let h = quiet-parts s.files s.workspaces quiet in
    record {
      loading = sym facts.files ∙ h.loading;
      timer = sym facts.timer ∙ none-waits s.workspaces.fetches.waiting h.timer;
      fetches = none-out is_fetch (fetching s.workspaces) out facts.fetches h.idle.fetches;
      builds = none-out is_build (building s.workspaces) out facts.builds h.idle.builds;
      loads = none-out is_load (loading s.workspaces) out facts.loads h.idle.loads;
      loader = ltb-false heard.progress_version heard.loader_version (sym (λ i. ltb (facts.progress i) (facts.loader i)) ∙ h.loader);
    }

by-quiet : (heard : Heard) (out : Jobs) (s : State) → Facts heard out s → IsQuietBy heard out → is_quiet s ≡ true
by-quiet heard out s facts by =
    quiet-of s.files s.workspaces (record {
      loading = facts.files ∙ by.loading;
      timer = waits-none s.workspaces.fetches.waiting (facts.timer ∙ by.timer);
      idle = record {
        fetches = out-none is_fetch (fetching s.workspaces) out facts.fetches by.fetches;
        builds = out-none is_build (building s.workspaces) out facts.builds by.builds;
        loads = out-none is_load (loading s.workspaces) out facts.loads by.loads;
      };
      loader = (λ i. ltb (facts.progress i) (facts.loader i)) ∙ le-ltb heard.progress_version heard.loader_version by.loader;
    })

pub told-by-lists : (meaning : Meaning) (settings : ConfigData) (turns : List Turn) (last : State) → Runs meaning (fresh settings) turns last
    → is_quiet last ≡ true ↔ IsQuietBy (heard_after_all turns nothing_heard) (out_after_all turns map.empty)
told-by-lists meaning settings turns last runs =
    let facts = runs-facts meaning settings turns last runs in (
      quiet-by (heard_after_all turns nothing_heard) (out_after_all turns map.empty) last facts,
      by-quiet (heard_after_all turns nothing_heard) (out_after_all turns map.empty) last facts,
    )

-- ---- at rest

pub runs-settled : (meaning : Meaning) (settings : ConfigData) (turns : List Turn) (last : State) → Runs meaning (fresh settings) turns last
    → is_quiet last ≡ true → IsSettled last
runs-settled meaning settings turns last runs quiet =
    let rest = runs-rest meaning settings turns last runs in
    let h = quiet-parts last.files last.workspaces quiet in
    record { no_switch = rest.switch h.loading; none_asked = rest.asks h.idle; none_waits = rest.holds h.idle.loads }
