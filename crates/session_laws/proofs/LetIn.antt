-- What a whole turn lets into the world, and what it makes of the settings.
use Rattle.std.proofs.Common.{◌≡◌, List, [], ◌∷◌, Bool, true, false, refl, sym, ap, ◌∙◌, subst, inl, inr, true≢false}
use Rattle.std.specs.Prelude.{◌⊎◌, None, Result, Ok, Err, IfOk}
use Rattle.std.proofs.lemmas.Result.{IfOk-at_ok}
use Rattle.docs_vfs.specs.declared.file_kinds.ChangedFile.{ChangedFile}
use Rattle.docs_vfs.specs.declared.source_roots.Root.{Root}
use Rattle.project_model.specs.declared.crates.CrateData.{CrateData}
use Rattle.ra_config.specs.Config.{ConfigData}
use Rattle.session_port.specs.TurnState.{TurnState, ordered}
use Rattle.session_port.specs.declared.command.Command.{Command}
use Rattle.session_port.specs.declared.fault.Counter.{Counter}
use Rattle.change_effects.specs.Effects.{settings_among}
use Rattle.change_effects.specs.declared.effects.ChangeEffects.{ChangeEffects}
use Rattle.client.specs.Client.{Client}
use Rattle.desk.specs.Meaning.{Meaning}
use Rattle.desk_laws.proofs.Results.{IfOk-and_then, IfOk-weaker, IfOk-within}
use Rattle.analysis_host.specs.HostData.{HostData}
use Rattle.session_files.specs.Folds.{changed_files}
use Rattle.session_files.specs.Steps.{crates_put, processed}
use Rattle.workspaces.specs.Workspaces.{Workspaces}
use Rattle.workspaces.specs.declared.follows.Follows.{Follows}
use Rattle.workspaces.specs.declared.follows.Follows.TheVariants.{Nothing, CrateData as CratesAnew, Wait, GoOn}
use Rattle.session_model.specs.Crates.{builds_crates}
use Rattle.session_model.specs.Diagnosing.{deleted_cleared}
use Rattle.session_model.specs.Machine.{at_board, at_files, at_workspaces, crates_built, effects_done, event_taken, fetch_waits, files_followed, files_in}
use Rattle.session_model.specs.Machine.{files_processed, further_logged, loader_set, roots_renewed, settings_filed, sources_deferred, step, switch_done}
use Rattle.session_model.specs.Machine.{switch_followed, switch_taken, warned, watchers_registered, with_client, with_files, with_sources, turn_closed}
use Rattle.session_model.specs.Run.{Turn, Steps, turn_start}
use Rattle.session_model.specs.Sources.{change_for, further_files, parents_told, sources_now}
use Rattle.session_model.specs.State.{Sources, State}
use Rattle.session_model.specs.Switching.{switch_made}
use Rattle.session_model.specs.Timing.{effects_for}
use Rattle.session_model.specs.declared.facts.FactsBefore.{FactsBefore}
use Rattle.session_model.specs.declared.input.Event.{Event}
use Rattle.session_model.specs.declared.input.Input.{Input}
use Rattle.session_model.specs.declared.input.Input.TheVariants.{Start, Next}
use Rattle.session_laws.specs.Entering.{ArePresent, Enters, KeepsSettings, LetsIn, tells_settings}
use Rattle.session_laws.proofs.Entered.{Alters, Still, TellsParents, alters-on, alters-still, crates-alter, enters-none, enters-on, files_entries}
use Rattle.session_laws.proofs.Entered.{filed-parents, filed-same, filed_client, files-present, none-filed, parents_in, processing-enters, still-none, still-on}
use Rattle.session_laws.proofs.Entered.{still-same}
use Rattle.session_laws.proofs.Filing.{Processes, PutsCrates, crates-put, processed-does}
use Rattle.session_laws.proofs.Following.{deferred-same, further-same}
use Rattle.activities.specs.Work.{graph_told}
use Rattle.session_model.specs.Machine.{tellings_told}
use Rattle.session_laws.proofs.Announcing.{Announces, announcing, told-owe}
use Rattle.session_laws.proofs.Saying.{Saying, asked_if-owes, warned-owes}
use Rattle.session_laws.proofs.Turns.{Begins}
use Rattle.session_laws.proofs.Walk.{Owed, built-owes, closed-owes, event-owes, walk}

abbrev StillTo : TurnState State → TurnState State → Type 0
StillTo w v = Still w.state v.state

abbrev AltersTo : Bool → TurnState State → TurnState State → Type 0
AltersTo tells w v = Alters tells w.state v.state

-- ---- files that are processed

-- what follows from files that changed: settings files are filed, and the parents that wait are told
record FollowsTo (list : List ChangedFile) (s t : State) : Type 0 where
  host : t.files.host ≡ s.files.host
  roots : t.sources.roots ≡ s.sources.roots
  parents : TellsParents s t
  settings : settings_among list ≡ [] → s.sources.parents ≡ None → KeepsSettings s t

follows-to : (list : List ChangedFile) (w : TurnState State) → FollowsTo list w.state (files_followed list w).state
unfolding files_followed effects_done settings_filed fetch_waits
follows-to [] w = record { host = refl; roots = refl; parents = inl (refl, refl); settings = λ none waits. record { settings = refl; errors = refl } }
follows-to (file ∷ later) w =
    let effects : ChangeEffects = effects_for w.state.client.settings (file ∷ later) w.state.workspaces in
    let change = change_for effects.settings w.state.files.host.world.roots w.state.sources w.state.workspaces.present in
    let cleared : TurnState State = at_board (deleted_cleared (file ∷ later)) w in
    let put : TurnState State =
    record cleared { state = with_sources (parents_told w.state.sources) (with_client (filed_client effects.settings w.state) cleared.state) } in
    let filed : TurnState State = further_logged (further_files change) put in
    let same = still-same put.state (sources_deferred effects.macro_sources filed).state
    (deferred-same effects.macro_sources filed ∙ further-same (further_files change) put) in
    record {
      host = same.host;
      roots = ap (λ (x : Sources). x.roots) same.sources;
      parents = inr (
        ap (λ (x : Sources). x.parents) same.sources,
        ap (λ (c : ConfigData). c.settings.parents) same.settings
            ∙ filed-parents effects.settings w.state,
      );
      settings = λ none waits. record {
        settings = same.settings ∙ ap (λ (c : Client). c.settings) (filed-same effects.settings w.state none waits);
        errors = same.errors ∙ ap (λ (c : Client). c.errors) (filed-same effects.settings w.state none waits);
      };
    }

files-alter : (tells : Bool) (w : TurnState State) → IfOk (files_processed w) (AltersTo tells w)
unfolding files_processed
files-alter tells w =
    let roots = w.state.sources.roots in
    let list = changed_files w.state.files in
    IfOk-and_then (at_files (processed roots) w) (λ v. Ok (files_followed list v)) (λ v. AltersTo tells w (files_followed list v)) (AltersTo tells w)
    (IfOk-within files_in with_files (processed roots) w (λ v. AltersTo tells w (files_followed list v))
    (IfOk-weaker _ (Processes roots (record { state = w.state.files; out = w.out })) _ (processed-does roots (record { state = w.state.files; out = w.out }))
    (λ p done.
    let v : TurnState State = record { state = with_files p.state w.state; out = p.out } in
    let f : FollowsTo list v.state (files_followed list v).state = follows-to list v in
    record {
      entries = files_entries roots list;
      enters = subst (Enters (files_entries roots list) w.state.files.host) (sym f.host) (processing-enters roots w.state.files p.state done.is);
      present = files-present roots list;
      roots = f.roots;
      parents = f.parents;
      settings = λ silent none waits. let desk_kept = f.settings (none-filed roots list none) waits
          in record { settings = desk_kept.settings; errors = desk_kept.errors };
    })))
    (λ u a. a)

-- ---- what each step owes

crates-enter : (tells : Bool) (crates : CrateData) (w : TurnState State) → IfOk (at_files (crates_put w.state.sources.roots crates) w) (AltersTo tells w)
crates-enter tells crates w =
    let roots = w.state.sources.roots in
    IfOk-within files_in with_files (crates_put roots crates) w (AltersTo tells w)
    (IfOk-weaker _ (PutsCrates roots crates (record { state = w.state.files; out = w.out })) _
    (crates-put roots crates (record { state = w.state.files; out = w.out }))
    (λ v p. crates-alter tells crates w.state v.state p.is))

ordered-alters : (tells : Bool) (command : Command) (w : TurnState State) → AltersTo tells w (ordered command w)
unfolding ordered
ordered-alters tells command w = alters-still tells w.state w.state (still-none w.state)

still-says : Saying StillTo
still-says = record {
  on = λ w v u p q. still-on w.state v.state u.state p q;
  says = λ w out s. still-none w.state;
  asks = λ handler w out s. record { host = refl; sources = refl; settings = refl; errors = refl };
  runs = λ w workspaces same. record { host = refl; sources = refl; settings = refl; errors = refl };
  status = λ w status. record { host = refl; sources = refl; settings = refl; errors = refl };
  board = λ w board. record { host = refl; sources = refl; settings = refl; errors = refl };
  activities = λ w activities. record { host = refl; sources = refl; settings = refl; errors = refl };
}

lets-in : (tells : Bool) → Owed (AltersTo tells)
lets-in tells = record {
  saying = record {
    on = λ w v u p q. alters-on tells w.state v.state u.state p q;
    says = λ w out s. alters-still tells w.state _ (still-says.says w out s);
    asks = λ handler w out s. alters-still tells w.state _ (still-says.asks handler w out s);
    runs = λ w workspaces same. alters-still tells w.state _ (still-says.runs w workspaces same);
    status = λ w status. alters-still tells w.state _ (still-says.status w status);
    board = λ w board. alters-still tells w.state _ (still-says.board w board);
    activities = λ w activities. alters-still tells w.state _ (still-says.activities w activities);
  };
  times = λ ticket w. ordered-alters tells _ w;
  desk = λ w desk out passes. alters-still tells w.state _ (record { host = refl; sources = refl; settings = refl; errors = refl });
  workspaces = λ w workspaces same. alters-still tells w.state _ (record { host = refl; sources = refl; settings = refl; errors = refl });
  files = λ w files out same passes. alters-still tells w.state _ (record { host = same; sources = refl; settings = refl; errors = refl });
  processes = files-alter tells;
  crates = crates-enter tells;
}

-- the settings become others, and nothing enters
told-alters : (tells : Bool) (s : State) (client : Client) → tells ≡ true → client.settings.settings.parents ≡ parents_in s
    → Alters tells s (with_client client s)
told-alters tells s client is parents = record {
  entries = [];
  enters = enters-none s.files.host;
  present = tt;
  roots = refl;
  parents = inl (refl, parents);
  settings = λ silent. absurd (true≢false (sym is ∙ silent));
}

event-alters : (meaning : Meaning) (event : Event) (w : TurnState State) → IfOk (event_taken meaning event w) (AltersTo (tells_settings (Next event)) w)
event-alters meaning event w =
    let tells = tells_settings (Next event) in
    event-owes (AltersTo tells) (lets-in tells) (λ path v. ordered-alters tells _ v) meaning event
    (λ is v client out parents passes. told-alters tells v.state client is parents) w

-- ---- the switch

-- the roots that are present may become others, those of the workspaces that are present; nothing enters, and the settings stay
pub record Renews (s t : State) : Type 0 where
  pub host : t.files.host ≡ s.files.host
  pub settings : t.client.settings ≡ s.client.settings
  pub errors : t.client.errors ≡ s.client.errors
  pub sources : (t.sources ≡ s.sources) ⊎ (t.sources ≡ sources_now t.client.settings t.workspaces)

still-renews : (s t : State) → Still s t → Renews s t
still-renews s t still = record { host = still.host; settings = still.settings; errors = still.errors; sources = inl still.sources }

renews-behind : (s t u : State) → Still s t → Renews t u → Renews s u
renews-behind s t u p q = record { host = q.host ∙ p.host; settings = q.settings ∙ p.settings; errors = q.errors ∙ p.errors; sources = either q.sources }
  where
    either : (u.sources ≡ t.sources) ⊎ (u.sources ≡ sources_now u.client.settings u.workspaces) → (u.sources ≡ s.sources)
        ⊎ (u.sources ≡ sources_now u.client.settings u.workspaces)
    either (inl same) = inl (same ∙ p.sources)
    either (inr now) = inr now

-- and so behind what is told of work beside the jobs
renews-announced : (s : State) (v u : TurnState State) → Renews s v.state → Announces v u → Renews s u.state
renews-announced s v u r a =
    subst (Renews s) (sym a.state) (record { host = r.host; settings = r.settings; errors = r.errors; sources = r.sources })

graph-renews : (s : State) (w : TurnState State) → Renews s w.state → IfOk (tellings_told graph_told w) (λ v. Renews s v.state)
graph-renews s w r =
    IfOk-weaker (tellings_told graph_told w) (Announces w) _ (told-owe Announces announcing graph_told w) (λ v a. renews-announced s w v r a)

followed-renews : (follows : Follows) (w : TurnState State) → IfOk (switch_followed follows w) (λ v. Renews w.state v.state)
unfolding switch_followed roots_renewed loader_set ordered watchers_registered
followed-renews Nothing w = still-renews w.state w.state (still-none w.state)
followed-renews CratesAnew w = graph-renews w.state w (still-renews w.state w.state (still-none w.state))
followed-renews (Wait msrv) w = still-renews w.state _ (warned-owes StillTo still-says msrv w)
followed-renews (GoOn msrv version initial) w =
    let v : TurnState State = warned msrv w in
    IfOk-and_then (watchers_registered v) (λ u. tellings_told graph_told (roots_renewed (loader_set version u))) (StillTo v) (λ u. Renews w.state u.state)
    (asked_if-owes StillTo still-says _ _ v)
    (λ u still. graph-renews w.state (roots_renewed (loader_set version u))
    (renews-behind w.state u.state _ (still-on w.state v.state u.state (warned-owes StillTo still-says msrv w) still)
    (record { host = refl; settings = refl; errors = refl; sources = inr refl })))

-- the roots may become others, and then these enter
pub record Behind (tells : Bool) (s t : State) : Type 0 where
  pub mid : State
  pub renews : Renews s mid
  pub alters : Alters tells mid t

behind-on : (tells : Bool) (s t u : State) → Behind tells s t → Alters tells t u → Behind tells s u
behind-on tells s t u b a = record { mid = b.mid; renews = b.renews; alters = alters-on tells b.mid t u b.alters a }

-- what a turn does: this in its event, and then what a switch and files do
pub record TurnAlters (tells : Bool) (E : State → Type 0) (t : State) : Type 0 where
  pub behind_event : State
  pub event : E behind_event
  pub behind : Behind tells behind_event t

switched-behind : (tells : Bool) (made : Result (Follows × Workspaces) Counter) (w : TurnState State)
    → IfOk (switch_taken made w) (λ v. Behind tells w.state v.state)
unfolding switch_taken
switched-behind tells (Err counter) w = tt
switched-behind tells (Ok made) w =
    let now : TurnState State = at_workspaces (λ before. made.1) w in
    let built = builds_crates w.state.client.settings made.0 in
    IfOk-and_then (switch_followed made.0 now) (crates_built built) (λ v. Renews now.state v.state) (λ v. Behind tells w.state v.state)
    (followed-renews made.0 now)
    (λ v r. IfOk-weaker (crates_built built v) (AltersTo tells v) (λ u. Behind tells w.state u.state) (built-owes (AltersTo tells) (lets-in tells) built v)
    (λ u a. record {
      mid = v.state;
      renews =
          renews-behind w.state now.state v.state (record { host = refl; sources = refl; settings = refl; errors = refl }) r;
      alters = a;
    }))

switch-behind : (tells : Bool) (w : TurnState State) → IfOk (switch_done w) (λ v. Behind tells w.state v.state)
unfolding switch_done
switch-behind tells w = switched-behind tells (switch_made w.state.client.settings w.state.files w.state.workspaces) w

-- ---- whole turns

closed-alters : (tells : Bool) (facts : FactsBefore) (w : TurnState State) → IfOk (turn_closed facts w) (AltersTo tells w)
closed-alters tells facts w = closed-owes (AltersTo tells) (lets-in tells) (λ revision v. ordered-alters tells _ v) facts w

-- what is so where its event is done, and then a switch and files
pub turn-does : (tells : Bool) (meaning : Meaning) (s : State) (input : Input) (E : State → Type 0)
    → Begins meaning s input (λ w. E w.state) (λ w. E w.state)
    → IfOk (step meaning input (turn_start s)) (λ v. TurnAlters tells E v.state)
turn-does tells meaning s input E first =
    walk (AltersTo tells) (lets-in tells) meaning s input (λ w. E w.state) (λ w. TurnAlters tells E w.state) (λ w. TurnAlters tells E w.state) keeps
    (λ w e. IfOk-weaker (switch_done w) (λ v. Behind tells w.state v.state) _ (switch-behind tells w)
    (λ v b. record { behind_event = w.state; event = e; behind = b }))
    (starts input first)
    (λ w facts kept d. IfOk-weaker (turn_closed facts w) (AltersTo tells w) _ (closed-alters tells facts w) (λ v a. keeps w v d a))
  where
    keeps : (w v : TurnState State) → TurnAlters tells E w.state → AltersTo tells w v → TurnAlters tells E v.state
    keeps w v d a = record { behind_event = d.behind_event; event = d.event; behind = behind-on tells d.behind_event w.state v.state d.behind a }

    starts : (input : Input) → Begins meaning s input (λ w. E w.state) (λ w. E w.state)
        → Begins meaning s input (λ w. E w.state) (λ w. TurnAlters tells E w.state)
    starts Start e = record {
      behind_event = s;
      event = e;
      behind = record { mid = s; renews = still-renews s s (still-none s); alters = alters-still tells s s (still-none s) };
    }
    starts (Next event) e = e

-- first what its event lets in
abbrev pub Altered : Input → State → State → Type 0
Altered input s t = TurnAlters (tells_settings input) (Alters (tells_settings input) s) t

step-alters : (meaning : Meaning) (input : Input) (s : State) → IfOk (step meaning input (turn_start s)) (λ v. Altered input s v.state)
step-alters meaning input s = turn-does (tells_settings input) meaning s input (Alters (tells_settings input) s) (first input)
  where
    first : (input : Input) → Begins meaning s input (λ w. Alters (tells_settings input) s w.state) (λ w. Alters (tells_settings input) s w.state)
    first Start = alters-still false s s (still-none s)
    first (Next event) = event-alters meaning event (turn_start s)

pub steps-alter : (meaning : Meaning) (s : State) (turn : Turn) (new : State) → Steps meaning s turn new → Altered turn.input s new
steps-alter meaning s turn new steps = IfOk-at_ok (λ (v : TurnState State). Altered turn.input s v.state) steps (step-alters meaning turn.input s)

pub turns-let-in : (meaning : Meaning) (s : State) (turn : Turn) (new : State) → Steps meaning s turn new → LetsIn s new
turns-let-in meaning s turn new steps =
    let a = steps-alter meaning s turn new steps in
    let later = a.behind.alters in
    record {
      in_event = a.event.entries;
      behind = later.entries;
      enters = enters-on a.event.entries later.entries s.files.host a.behind_event.files.host new.files.host a.event.enters
          (subst (λ (h : HostData). Enters later.entries h new.files.host) a.behind.renews.host later.enters);
      before = a.event.present;
      after = subst (λ (rs : List Root). ArePresent rs later.entries) (sym later.roots) later.present;
    }
