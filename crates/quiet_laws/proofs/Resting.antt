-- What quiescence is made of, and what starts behind the files of a turn: it is in progress then, and nothing comes to rest by it.
use Rattle.std.proofs.Common.{◌≡◌, ℕ, List, Bool, true, false, refl, sym, ap, ◌∙◌, subst}
use Rattle.std.specs.Prelude.{◌==◌, ◌&&◌, cond, is_none, is_some, length, ltb, not, Option, None, Some, if◌then◌else◌}
use Rattle.op_board.specs.Queue.{Queue}
use Rattle.workspaces.specs.Builds.{start_build}
use Rattle.workspaces.specs.Fetches.{start_fetch, start_up}
use Rattle.workspaces.specs.Loads.{start_load, starts_with}
use Rattle.workspaces.specs.Workspaces.{Builds, Fetches, Loads, Workspaces}
use Rattle.workspaces.specs.declared.requests.LoadRequest.{LoadRequest}
use Rattle.workspaces.specs.declared.requests.WaitingCrates.{WaitingCrates}
use Rattle.session_files.specs.SessionFiles.{SessionFiles}
use Rattle.session_model.specs.Building.{build_due, with_due_build}
use Rattle.session_model.specs.Fetching.{with_fetches}
use Rattle.session_model.specs.Loading.{loads_due, with_due_load}
use Rattle.session_model.specs.Status.{is_quiescent, loader_settings}
use Rattle.session_laws.proofs.Running.{Starts, building, build-starts, fetching, loading, versions_of}
use Rattle.quiet_laws.proofs.Bools.{true-false}
use Rattle.quiet_laws.proofs.Parts.{runs_begun}
use Rattle.quiet_laws.proofs.PartsOfTurns.{begun_behind}

-- ---- what quiescence is made of

-- nothing is in progress
pub record IsIdle (w : Workspaces) : Type 0 where
  pub fetches : fetching w ≡ false
  pub builds : building w ≡ false
  pub loads : loading w ≡ false

pub record IsQuietAt (files : SessionFiles) (w : Workspaces) : Type 0 where
  pub loading : files.loading ≡ false
  pub timer : is_none w.fetches.waiting ≡ true
  pub idle : IsIdle w
  pub loader : ltb files.progress_version (loader_settings w) ≡ false

all-six : (a b c d e f : Bool) → (not a && (b && not c && not d && not e) && not f) ≡ true
    → (a ≡ false) × (b ≡ true) × (c ≡ false) × (d ≡ false) × (e ≡ false) × (f ≡ false)
all-six false true false false false false h = (refl, refl, refl, refl, refl, refl)
all-six true b c d e f h = true-false (sym h)
all-six false false c d e f h = true-false (sym h)
all-six false true true d e f h = true-false (sym h)
all-six false true false true e f h = true-false (sym h)
all-six false true false false true f h = true-false (sym h)
all-six false true false false false true h = true-false (sym h)

of-six : (a b c d e f : Bool) → a ≡ false → b ≡ true → c ≡ false → d ≡ false → e ≡ false → f ≡ false
    → (not a && (b && not c && not d && not e) && not f) ≡ true
of-six a b c d e f p q r s t u = λ i. not (p i) && (q i && not (r i) && not (s i) && not (t i)) && not (u i)

pub quiet-parts : (files : SessionFiles) (w : Workspaces) → is_quiescent files w ≡ true → IsQuietAt files w
quiet-parts files w h =
    let all = all-six files.loading (is_none w.fetches.waiting) (fetching w) (building w) (loading w) (ltb files.progress_version (loader_settings w)) h
    in record {
      loading = all.0;
      timer = all.1;
      idle = record { fetches = all.2; builds = all.3; loads = all.4 };
      loader = all.5;
    }

pub quiet-of : (files : SessionFiles) (w : Workspaces) → IsQuietAt files w → is_quiescent files w ≡ true
quiet-of files w h =
    of-six files.loading (is_none w.fetches.waiting) (fetching w) (building w) (loading w) (ltb files.progress_version (loader_settings w))
    h.loading h.timer h.idle.fetches h.idle.builds h.idle.loads h.loader

-- ---- crate data that waits

-- none waits for a load in progress where none is
abbrev pub HoldsNone : Workspaces → Type 0
HoldsNone w = loading w ≡ false → w.loads.waiting ≡ None

-- and none for a load that is to start where nothing is in progress
abbrev pub AsksNoLoad : Workspaces → Type 0
AsksNoLoad w = IsIdle w → w.loads.queue.waiting ≡ None

-- ---- what starts

abbrev queue_started : {A O : Type 0} → Bool → Queue A O → Queue A O
queue_started b q = cond b q (record { waiting = None; in_progress = is_some q.waiting; last = q.last })

queue-last : {A O : Type 0} (b : Bool) (q : Queue A O) → (queue_started b q).last ≡ q.last
queue-last true q = refl
queue-last false q = refl

-- what rests behind it rested before
queue-rested : {A O : Type 0} (b : Bool) (q : Queue A O) → q.in_progress ≡ b → (queue_started b q).in_progress ≡ false → q.in_progress ≡ false
queue-rested true q is rests = rests
queue-rested false q is rests = is

-- and asks for nothing
queue-none : {A O : Type 0} (b : Bool) (q : Queue A O) → q.in_progress ≡ b → (queue_started b q).in_progress ≡ false → (queue_started b q).waiting ≡ None
queue-none true q is rests = true-false (sym is ∙ rests)
queue-none false q is rests = refl

-- no crate data comes to wait where no load starts
waits-none : (b : Bool) (q : Queue LoadRequest Bool) (o : Option (List ℕ × LoadRequest)) (waiting : Option WaitingCrates) → q.in_progress ≡ b → q.waiting ≡ o
    → (q.in_progress ≡ false → waiting ≡ None) → (queue_started b q).in_progress ≡ false → starts_with waiting (cond b None o) ≡ None
waits-none true q o waiting is asks holds rests = true-false (sym is ∙ rests)
waits-none false q None waiting is asks holds rests = holds is
waits-none false q (Some request) waiting is asks holds rests = true-false (sym (ap is_some asks) ∙ rests)

-- what starts is in progress then, and all else stays
pub record MayStart (before after : Workspaces) : Type 0 where
  pub last : after.fetches.queue.last ≡ before.fetches.queue.last
  pub timer : after.fetches.waiting ≡ before.fetches.waiting
  pub switch : after.switch_wanted ≡ before.switch_wanted
  pub versions : versions_of after ≡ versions_of before
  pub idle : IsIdle after → IsIdle before
  pub holds : HoldsNone before → HoldsNone after

may-on : (a b c : Workspaces) → MayStart a b → MayStart b c → MayStart a c
may-on a b c x y = record {
  last = y.last ∙ x.last;
  timer = y.timer ∙ x.timer;
  switch = y.switch ∙ x.switch;
  versions = y.versions ∙ x.versions;
  idle = λ idle. x.idle (y.idle idle);
  holds = λ holds. y.holds (x.holds holds);
}

fetch-last : (may : Bool) (f : Fetches) → (start_fetch may f).queue.last ≡ f.queue.last
fetch-last true f = queue-last f.queue.in_progress f.queue
fetch-last false f = refl

fetch-timer : (may : Bool) (f : Fetches) → (start_fetch may f).waiting ≡ f.waiting
fetch-timer true f = refl
fetch-timer false f = refl

fetch-rested : (may : Bool) (f : Fetches) → (start_fetch may f).queue.in_progress ≡ false → f.queue.in_progress ≡ false
fetch-rested true f rests = queue-rested f.queue.in_progress f.queue refl rests
fetch-rested false f rests = rests

pub fetch-may : (may : Bool) (w : Workspaces) → MayStart w (with_fetches (start_fetch may) w)
fetch-may may w = record {
  last = fetch-last may w.fetches;
  timer = fetch-timer may w.fetches;
  switch = refl;
  versions = refl;
  idle = λ idle. record { fetches = fetch-rested may w.fetches idle.fetches; builds = idle.builds; loads = idle.loads };
  holds = λ holds. holds;
}

build-rested : (busy : Bool) (version count : ℕ) (b : Builds) → (start_build busy version count b).queue.in_progress ≡ false → b.queue.in_progress ≡ false
build-rested true version count b rests = rests
build-rested false version count b rests = queue-rested b.queue.in_progress b.queue refl rests

load-rested : (busy : Bool) (l : Loads) → (start_load busy l).queue.in_progress ≡ false → l.queue.in_progress ≡ false
load-rested true l rests = rests
load-rested false l rests = queue-rested l.queue.in_progress l.queue refl rests

load-holds : (busy : Bool) (l : Loads) → (l.queue.in_progress ≡ false → l.waiting ≡ None) → (start_load busy l).queue.in_progress ≡ false
    → (start_load busy l).waiting ≡ None
load-holds true l holds rests = holds rests
load-holds false l holds rests = waits-none l.queue.in_progress l.queue l.queue.waiting l.waiting refl refl holds rests

due-rested : (build : Option ℕ) (w : Workspaces) → (loads_due build w).queue.in_progress ≡ false → loading w ≡ false
due-rested None w rests = load-rested (fetching w) w.loads rests
due-rested (Some version) w rests = rests

due-holds : (build : Option ℕ) (w : Workspaces) → HoldsNone w → (loads_due build w).queue.in_progress ≡ false → (loads_due build w).waiting ≡ None
due-holds None w holds rests = load-holds (fetching w) w.loads holds rests
due-holds (Some version) w holds rests = holds rests

runs-may : (w : Workspaces) → MayStart w (runs_begun w)
runs-may w =
    let built : Workspaces = with_due_build w in
    record {
      last = refl;
      timer = refl;
      switch = refl;
      versions = refl;
      idle = λ idle. record {
        fetches = idle.fetches;
        builds = build-rested (fetching w) w.version (length w.present) w.builds idle.builds;
        loads = due-rested (build_due w) built idle.loads;
      };
      holds = λ holds rests. due-holds (build_due w) built holds rests;
    }

load-none : (busy : Bool) (l : Loads) → busy ≡ false → (start_load busy l).queue.in_progress ≡ false → (start_load busy l).queue.waiting ≡ None
load-none true l free rests = true-false free
load-none false l free rests = queue-none l.queue.in_progress l.queue refl rests

-- where nothing is in progress behind them, no load was asked for
runs-cases : (w : Workspaces) (build : Option ℕ) → build_due w ≡ build → AsksNoLoad (with_due_load build (with_due_build w))
runs-cases w None is idle = load-none (fetching w) w.loads idle.fetches idle.loads
runs-cases w (Some version) is idle =
    let starts : Starts (building w) (building (with_due_build w)) true =
    subst (λ (o : Option ℕ). Starts (building w) (building (with_due_build w)) (is_some o)) is
    (build-starts (fetching w) w.version (length w.present) w.builds) in
    true-false (sym starts.1 ∙ idle.builds)

pub behind-may : (may : Bool) (w : Workspaces) → MayStart w (begun_behind may w)
behind-may may w = may-on w (with_fetches (start_fetch may) w) (begun_behind may w) (fetch-may may w) (runs-may (with_fetches (start_fetch may) w))

pub behind-asks : (may : Bool) (w : Workspaces) → AsksNoLoad (begun_behind may w)
behind-asks may w = let f : Workspaces = with_fetches (start_fetch may) w in runs-cases f (build_due f) refl

-- ---- at the start

begin-may : (discover : Bool) (w : Workspaces) → MayStart w (with_fetches (start_up discover) w)
begin-may true w = record { last = refl; timer = refl; switch = refl; versions = refl; idle = λ idle. idle; holds = λ holds. holds }
begin-may false w = record {
  last = refl;
  timer = refl;
  switch = refl;
  versions = refl;
  idle = λ idle. record { fetches = idle.fetches; builds = idle.builds; loads = idle.loads };
  holds = λ holds. holds;
}

abbrev pub begun_at_start : Bool → Bool → Workspaces → Workspaces
begun_at_start discover may w = with_fetches (start_fetch may) (with_fetches (start_up discover) w)

pub start-may : (discover may : Bool) (w : Workspaces) → MayStart w (begun_at_start discover may w)
start-may discover may w =
    let begun : Workspaces = with_fetches (start_up discover) w in
    may-on w begun (begun_at_start discover may w) (begin-may discover w) (fetch-may may begun)

pub start-asks : (discover may : Bool) (w : Workspaces) → AsksNoLoad w → AsksNoLoad (begun_at_start discover may w)
start-asks discover may w asks idle = asks ((start-may discover may w).idle idle)

-- ---- sessions that don't come to be quiescent

settings-same : (before after : Workspaces) → versions_of after ≡ versions_of before → loader_settings after ≡ loader_settings before
settings-same before after same = ap (λ (versions : ℕ × ℕ). if versions.0 == 0 then 0 else versions.1) same

pub may-quiet : (files : SessionFiles) (before after : Workspaces) → MayStart before after → is_quiescent files after ≡ true → is_quiescent files before ≡ true
may-quiet files before after may quiet =
    let h = quiet-parts files after quiet in
    quiet-of files before (record {
      loading = h.loading;
      timer = sym (ap is_none may.timer) ∙ h.timer;
      idle = may.idle h.idle;
      loader = sym (ap (λ n. ltb files.progress_version n) (settings-same before after may.versions)) ∙ h.loader;
    })
