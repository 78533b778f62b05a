-- What is asked of the workspaces within a turn leaves what is in progress; a fetch may come to wait for a timer with this turn's number.
use Rattle.std.proofs.Common.{◌≡◌, ℕ, List, Bool, true, false, refl, sym, ap, ◌∙◌, subst, inl, inr}
use Rattle.std.specs.Prelude.{◌⊎◌, ◌==◌, is_some, option_map, Option, None, Some, if◌then◌else◌}
use Rattle.docs_vfs.specs.declared.source_roots.Root.{Root}
use Rattle.lsp_frame.specs.declared.message.Request.{Request}
use Rattle.ra_config.specs.Config.{ConfigData}
use Rattle.change_effects.specs.Update.{cause_of, update_of}
use Rattle.change_effects.specs.declared.cause.FetchCause.{FetchCause}
use Rattle.desk.specs.Desk.{Desk}
use Rattle.desk.specs.WorkEnds.{BuildEnd, FetchEnd, LoadEnd}
use Rattle.workspaces.specs.Builds.{end_build, rebuild, rebuild_macros, reload}
use Rattle.workspaces.specs.Fetches.{ask_waiting, end_fetch, fire, fires, is_served, with_new_ticket, waits_from}
use Rattle.workspaces.specs.Loads.{end_load}
use Rattle.workspaces.specs.Workspaces.{Fetches, Workspaces}
use Rattle.workspaces.specs.declared.requests.FetchRequest.{FetchRequest}
use Rattle.workspaces.specs.declared.requests.WaitingFetch.{WaitingFetch}
use Rattle.session_files.specs.SessionFiles.{SessionFiles}
use Rattle.session_model.specs.Building.{asks_to_rebuild, build_kept, request_told}
use Rattle.session_model.specs.Crates.{loaded_as}
use Rattle.session_model.specs.Fetching.{fetch_caused, fetch_kept, folders_told_if, reloaded_if, reloads, settings_told, with_fetches}
use Rattle.session_model.specs.Loading.{load_kept}
use Rattle.session_model.specs.Saving.{asked_by_save, builds_on_save, fetch_saved, path_saved, rebuilt_on, save_cause}
use Rattle.session_model.specs.Timing.{fetch_planned, renewed_if}
use Rattle.session_laws.proofs.Running.{building, fetching, loading, versions_of}
use Rattle.quiet_laws.specs.Heard.{is_ticket}
use Rattle.quiet_laws.proofs.Bools.{else-is, if-same}
use Rattle.quiet_laws.proofs.Resting.{HoldsNone, IsIdle}

abbrev pub ticket_in : WaitingFetch → ℕ
ticket_in fetch = fetch.ticket

-- the ticket of the timer that a fetch waits for
abbrev pub ticket : Workspaces → Option ℕ
ticket w = option_map ticket_in w.fetches.waiting

-- it stays, or is that of this turn
abbrev pub MayWait : ℕ → Option ℕ → Option ℕ → Type 0
MayWait turns before after = (after ≡ before) ⊎ (after ≡ Some turns)

pub wait-on : (turns : ℕ) (a b c : Option ℕ) → MayWait turns a b → MayWait turns b c → MayWait turns a c
wait-on turns a b c (inl p) (inl q) = inl (q ∙ p)
wait-on turns a b c (inr p) (inl q) = inr (q ∙ p)
wait-on turns a b c p (inr q) = inr q

-- ---- what is asked

-- nothing in progress starts or ends
pub record Asks (turns : ℕ) (before after : Workspaces) : Type 0 where
  pub timer : MayWait turns (ticket before) (ticket after)
  pub last : after.fetches.queue.last ≡ before.fetches.queue.last
  pub fetching : fetching after ≡ fetching before
  pub building : building after ≡ building before
  pub loads : after.loads ≡ before.loads
  pub switch : after.switch_wanted ≡ before.switch_wanted
  pub versions : versions_of after ≡ versions_of before

pub asks-same : (turns : ℕ) (before after : Workspaces) → after ≡ before → Asks turns before after
asks-same turns before after same = subst (Asks turns before) (sym same)
    (record { timer = inl refl; last = refl; fetching = refl; building = refl; loads = refl; switch = refl; versions = refl })

pub asks-on : (turns : ℕ) (a b c : Workspaces) → Asks turns a b → Asks turns b c → Asks turns a c
asks-on turns a b c p q = record {
  timer = wait-on turns (ticket a) (ticket b) (ticket c) p.timer q.timer;
  last = q.last ∙ p.last;
  fetching = q.fetching ∙ p.fetching;
  building = q.building ∙ p.building;
  loads = q.loads ∙ p.loads;
  switch = q.switch ∙ p.switch;
  versions = q.versions ∙ p.versions;
}

asks-if : (turns : ℕ) (b : Bool) (before after : Workspaces) → Asks turns before after → Asks turns before (if b then after else before)
asks-if turns true before after asks = asks
asks-if turns false before after asks = asks-same turns before before refl

pub request-asks : (turns : ℕ) (r : Request) (desk : Desk) (w : Workspaces) → Asks turns w (request_told r desk w)
request-asks turns r desk w =
    let reloaded = reloaded_if (reloads r desk) w in
    asks-on turns w reloaded _
    (asks-if turns (reloads r desk) w (reload w)
    (record { timer = inl refl; last = refl; fetching = refl; building = refl; loads = refl; switch = refl; versions = refl }))
    (asks-if turns (asks_to_rebuild r desk) reloaded (rebuild_macros reloaded)
    (record { timer = inl refl; last = refl; fetching = refl; building = refl; loads = refl; switch = refl; versions = refl }))

caused-asks : (turns : ℕ) (cause : Option FetchCause) (w : Workspaces) → Asks turns w (fetch_caused cause w)
caused-asks turns None w = asks-same turns w w refl
caused-asks turns (Some cause) w =
    record { timer = inl refl; last = refl; fetching = refl; building = refl; loads = refl; switch = refl; versions = refl }

pub settings-ask : (turns : ℕ) (old new : ConfigData) (w : Workspaces) → Asks turns w (settings_told old new w)
settings-ask turns old new w = caused-asks turns (cause_of (update_of old new)) w

pub folders-ask : (turns : ℕ) (counts : Bool) (w : Workspaces) → Asks turns w (folders_told_if counts w)
folders-ask turns true w =
    record { timer = inl refl; last = refl; fetching = refl; building = refl; loads = refl; switch = refl; versions = refl }
folders-ask turns false w = asks-same turns w w refl

saved-asks : (turns : ℕ) (cause : Option (List ℕ)) (path : List ℕ) (w : Workspaces) → Asks turns w (fetch_saved cause path w)
saved-asks turns None path w = asks-same turns w w refl
saved-asks turns (Some cause) path w =
    record { timer = inl refl; last = refl; fetching = refl; building = refl; loads = refl; switch = refl; versions = refl }

by-save-asks : (turns : ℕ) (settings : ConfigData) (roots : List Root) (path : List ℕ) (w : Workspaces) → Asks turns w (asked_by_save settings roots path w)
by-save-asks turns settings roots path w =
    let rebuilt = rebuilt_on (builds_on_save settings roots path) w in
    asks-on turns w rebuilt _
    (asks-if turns (builds_on_save settings roots path) w (rebuild w)
    (asks-if turns w.build_deps_changed w _
    (record { timer = inl refl; last = refl; fetching = refl; building = refl; loads = refl; switch = refl; versions = refl })))
    (saved-asks turns (save_cause settings w.present path) path rebuilt)

pub save-asks : (turns : ℕ) (settings : ConfigData) (files : SessionFiles) (path : List ℕ) (w : Workspaces)
    → Asks turns w (path_saved settings files path w)
save-asks turns settings files path w =
    let roots = files.host.world.roots in
    asks-if turns (is_some (loaded_as files.ids path)) w (asked_by_save settings roots path w) (by-save-asks turns settings roots path w)

renewed-waits : (turn : ℕ) (waiting : Option WaitingFetch)
    → MayWait turn (option_map ticket_in waiting) (option_map ticket_in (option_map (with_new_ticket turn) waiting))
renewed-waits turn None = inl refl
renewed-waits turn (Some fetch) = inr refl

pub renewed-asks : (brings : Bool) (turn : ℕ) (w : Workspaces) → Asks turn w (renewed_if brings turn w)
renewed-asks true turn w = record {
  timer = renewed-waits turn w.fetches.waiting;
  last = refl;
  fetching = refl;
  building = refl;
  loads = refl;
  switch = refl;
  versions = refl;
}
renewed-asks false turn w = asks-same turn w w refl

served-asks : (served : Bool) (turn : ℕ) (request : FetchRequest) (w : Workspaces)
    → Asks turn w (record w { fetches = if served then w.fetches else waits_from turn request w.fetches })
served-asks true turn request w = asks-same turn w w refl
served-asks false turn request w =
    record { timer = inr refl; last = refl; fetching = refl; building = refl; loads = refl; switch = refl; versions = refl }

pub planned-asks : (turn : ℕ) (request : Option FetchRequest) (w : Workspaces) → Asks turn w (fetch_planned turn request w)
planned-asks turn None w = asks-same turn w w refl
planned-asks turn (Some request) w = served-asks (is_served w.fetches) turn request w

-- ---- timers that come

fired-cases : (b : Bool) (fetch : WaitingFetch) (f : Fetches) → f.waiting ≡ Some fetch
    → option_map ticket_in (if b then ask_waiting (Some fetch) f else f).waiting ≡ (if b then None else Some fetch.ticket)
fired-cases true fetch f is = refl
fired-cases false fetch f is = ap (option_map ticket_in) is

fired-ticket : (number : ℕ) (waiting : Option WaitingFetch) (f : Fetches) → f.waiting ≡ waiting
    → option_map ticket_in (if fires number waiting then ask_waiting waiting f else f).waiting
    ≡ (if is_ticket number (option_map ticket_in waiting) then None else option_map ticket_in waiting)
fired-ticket number None f is = ap (option_map ticket_in) is
fired-ticket number (Some fetch) f is = fired-cases (fetch.ticket == number) fetch f is

pub fire-ticket : (number : ℕ) (w : Workspaces) → ticket (with_fetches (fire number) w) ≡ (if is_ticket number (ticket w) then None else ticket w)
fire-ticket number w = fired-ticket number w.fetches.waiting w.fetches refl

asked-last : (o : Option WaitingFetch) (f : Fetches) → (ask_waiting o f).queue.last ≡ f.queue.last
asked-last None f = refl
asked-last (Some fetch) f = refl

asked-progress : (o : Option WaitingFetch) (f : Fetches) → (ask_waiting o f).queue.in_progress ≡ f.queue.in_progress
asked-progress None f = refl
asked-progress (Some fetch) f = refl

pub fire-last : (number : ℕ) (f : Fetches) → (fire number f).queue.last ≡ f.queue.last
fire-last number f = if-same (λ (f : Fetches). f.queue.last) (fires number f.waiting) (ask_waiting f.waiting f) f (asked-last f.waiting f)

pub fire-progress : (number : ℕ) (f : Fetches) → (fire number f).queue.in_progress ≡ f.queue.in_progress
fire-progress number f = if-same (λ (f : Fetches). f.queue.in_progress) (fires number f.waiting) (ask_waiting f.waiting f) f (asked-progress f.waiting f)

-- ---- work that ends

-- a fetch that waits for a timer goes on to do so
pub record Ends (before after : Workspaces) : Type 0 where
  pub timer : ticket after ≡ ticket before
  pub versions : versions_of after ≡ versions_of before
  pub holds : HoldsNone before → HoldsNone after
  -- and nothing ends where nothing is in progress
  pub none : IsIdle before → after ≡ before

ends-if : (b : Bool) (before ended : Workspaces) → (IsIdle before → b ≡ false) → ticket ended ≡ ticket before → versions_of ended ≡ versions_of before
    → (HoldsNone before → HoldsNone ended) → Ends before (if b then ended else before)
ends-if true before ended off timer versions holds = record {
  timer = timer;
  versions = versions;
  holds = holds;
  none = λ idle. else-is true ended before (off idle);
}
ends-if false before ended off timer versions holds = record { timer = refl; versions = refl; holds = λ holds. holds; none = λ idle. refl }

pub fetch-ends : (found : FetchEnd) (w : Workspaces) → Ends w (fetch_kept found w)
fetch-ends found w =
    ends-if (fetching w) w (record w { fetches = end_fetch found w.fetches; switch_wanted = true }) (λ idle. idle.fetches) refl refl (λ holds. holds)

pub build-ends : (made : BuildEnd) (w : Workspaces) → Ends w (build_kept made w)
build-ends made w =
    ends-if (building w) w (record w { builds = end_build made w.builds; switch_wanted = true }) (λ idle. idle.builds) refl refl (λ holds. holds)

pub load-ends : (told : LoadEnd) (w : Workspaces) → Ends w (load_kept told w)
load-ends told w = ends-if (loading w) w (record w { loads = end_load told w.loads }) (λ idle. idle.loads) refl refl (λ holds rests. refl)
