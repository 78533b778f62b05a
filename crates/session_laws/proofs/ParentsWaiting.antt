-- Parents of roots wait exactly where the settings have others, and else the settings change by what is told of them alone.
use Rattle.std.proofs.Common.{◌≡◌, ℕ, List, [], ◌∷◌, ◌++◌, Bool, true, false, refl, sym, ap, ◌∙◌, subst, inl, inr, true≢false}
use Rattle.std.specs.Prelude.{◌⊎◌, Option, None, Some, unwrap_or, Ok, IfOk, if◌then◌else◌}
use Rattle.std.specs.FinMap as finmap
use Rattle.std.proofs.lemmas.Result.{IfOk-at_ok}
use Rattle.analysis_host.specs.HostData.{HostData}
use Rattle.docs_vfs.specs.Roots.{parent_map}
use Rattle.docs_vfs.specs.declared.source_roots.Root.{Root}
use Rattle.layered_settings.specs.Change.{has_parents, parents_after, parents_of, no_settings}
use Rattle.layered_settings.specs.Search.{Parents}
use Rattle.layered_settings.proofs.ParentPairs.{has_parents_if_equal}
use Rattle.lsp_frame.specs.declared.message.Response.{Response}
use Rattle.lsp_frame.specs.declared.message.Message.TheVariants.{Request as RequestMessage, Notification as NotificationMessage, Response as ResponseMessage}
use Rattle.notify.specs.declared.notice.Notice.{Notice}
use Rattle.notify.specs.declared.notice.Notice.TheVariants as notices
use Rattle.ra_config.specs.Config.{ConfigData, config_at}
use Rattle.ra_config.specs.Initialize.{config_from, config_with, initial_config, paths_of}
use Rattle.serde_json.specs.Data.{Data}
use Rattle.session_port.specs.TurnState.{TurnState}
use Rattle.client.specs.Client.{Client}
use Rattle.client.specs.Folds.{after_answer, after_folders, follows}
use Rattle.client.specs.Steps.{answered, folders_changed}
use Rattle.desk.specs.Meaning.{Meaning}
use Rattle.desk_laws.proofs.Results.{IfOk-and_then, IfOk-weaker, IfOk-within}
use Rattle.session_model.specs.Fetching.{settings_told}
use Rattle.session_model.specs.Machine.{at_workspaces, checks_renewed_if}
use Rattle.session_model.specs.Restarting.{has_other_checks}
use Rattle.session_laws.proofs.Announcing.{Announces, announcing, renewed_if-owes}
use Rattle.session_model.specs.Hearing.{heard_of, told_by}
use Rattle.session_model.specs.Machine.{answer_taken, at_client, client_in, turn_counted, folders_taken, happened, noticed, received, step, event_taken, told}
use Rattle.session_model.specs.Machine.{with_client}
use Rattle.session_model.specs.Rows.{turn_begun}
use Rattle.session_model.specs.Run.{Runs, Steps, Turn, turn_start}
use Rattle.session_model.specs.State.{Sources, State, fresh}
use Rattle.session_model.specs.declared.heard.Heard.{Heard}
use Rattle.session_model.specs.declared.heard.Heard.TheVariants.{Told, Malformed, Unhandled, Silent}
use Rattle.session_model.specs.declared.input.Event.{Event}
use Rattle.session_model.specs.declared.input.Event.TheVariants.{Lsp, Task, Vfs, Deferred, News, Timer}
use Rattle.session_model.specs.declared.input.Input.{Input}
use Rattle.session_model.specs.declared.input.Input.TheVariants.{Start, Next}
use Rattle.session_laws.specs.Entering.{Enters, KeepsSettings, hold_settings, tells_folders, tells_settings}
use Rattle.session_laws.specs.Settings.{ChangesAsTold, HasParentsOf, HasSettings, ParentsWait, TakesParents, as_told, with_folders_told}
use Rattle.session_laws.proofs.Entered.{Alters, TellsParents, enters-on, keeps-settings-on, none-left, none-right, parents_in}
use Rattle.session_laws.proofs.LetIn.{Altered, Renews, TurnAlters, steps-alter, turn-does}
use Rattle.session_laws.proofs.Turns.{Begins}
use Rattle.session_laws.proofs.Rows.{counted-is}
use Rattle.session_laws.proofs.Telling.{after-parents, answered-does, folders-do}

-- ---- the parents that wait

-- the parents of roots, where others are these
abbrev others : Parents → List Root → Option (List (ℕ × ℕ))
others parents roots = if has_parents parents (parent_map roots) then None else Some (parent_map roots)

-- those that wait are these
abbrev AreOthers : State → Type 0
AreOthers s = s.sources.parents ≡ others (parents_in s) s.sources.roots

others-none : (parents : Parents) (roots : List Root) → parents ≡ parents_of (parent_map roots) → others parents roots ≡ None
others-none parents roots same = ap (λ b. if b then None else Some (parent_map roots)) ((has_parents_if_equal parents (parent_map roots)).1 same)

none-others : (b : Bool) (pairs : List (ℕ × ℕ)) → (let o : Option (List (ℕ × ℕ)) = if b then None else Some pairs in o) ≡ None → b ≡ true
none-others true pairs is = refl
none-others false pairs is = absurd cc

some-others : (b : Bool) (pairs other : List (ℕ × ℕ)) → Some pairs ≡ (if b then None else Some other) → pairs ≡ other
some-others true pairs other is = absurd cc
some-others false pairs other is = ap (λ o. unwrap_or o pairs) is

-- what waits goes into the settings
told-parents : (waiting : Option (List (ℕ × ℕ))) (before : Parents) (roots : List Root) → waiting ≡ others before roots
    → (parents_after waiting before ≡ before) ⊎ (parents_after waiting before ≡ parents_of (parent_map roots))
told-parents None before roots is = inl refl
told-parents (Some pairs) before roots is = inr (ap parents_of (some-others (has_parents before (parent_map roots)) pairs (parent_map roots) is))

told-others : (waiting : Option (List (ℕ × ℕ))) (before : Parents) (roots : List Root) → waiting ≡ others before roots
    → None ≡ others (parents_after waiting before) roots
told-others None before roots is = is
told-others (Some pairs) before roots is =
    sym (others-none (parents_of pairs) roots (ap parents_of (some-others (has_parents before (parent_map roots)) pairs (parent_map roots) is)))

-- ---- the parts of a turn

alters-others : (tells : Bool) (s t : State) → Alters tells s t → AreOthers s → AreOthers t
alters-others tells s t a are = by a.parents
  where
    by : TellsParents s t → AreOthers t
    by (inl same) = same.0 ∙ are ∙ (λ i. others (sym same.1 i) (sym a.roots i))
    by (inr told) = told.0 ∙ told-others s.sources.parents (parents_in s) s.sources.roots are ∙ (λ i. others (sym told.1 i) (sym a.roots i))

renews-others : (s t : State) → Renews s t → AreOthers s → AreOthers t
renews-others s t r are = elim r.sources [
  | inl same ↦ ap (λ (x : Sources). x.parents) same ∙ are ∙ (λ i. others (sym r.settings i).settings.parents (sym same i).roots)
  | inr now ↦ ap (λ (x : Sources). x.parents) now ∙ ap (λ (x : Sources). others (parents_in t) x.roots) (sym now)
]

-- the parents of the settings stay, or become those of the roots that are present
abbrev Takes : State → State → Type 0
Takes s t = (parents_in t ≡ parents_in s) ⊎ (parents_in t ≡ parents_of (parent_map s.sources.roots))

alters-takes : (tells : Bool) (s t : State) → Alters tells s t → AreOthers s → Takes s t
alters-takes tells s t a are = by a.parents
  where
    either : parents_in t ≡ parents_after s.sources.parents (parents_in s)
        → (parents_after s.sources.parents (parents_in s) ≡ parents_in s)
        ⊎ (parents_after s.sources.parents (parents_in s) ≡ parents_of (parent_map s.sources.roots)) → Takes s t
    either is (inl same) = inl (is ∙ same)
    either is (inr roots) = inr (is ∙ roots)

    by : TellsParents s t → Takes s t
    by (inl same) = inl same.1
    by (inr told) = either told.1 (told-parents s.sources.parents (parents_in s) s.sources.roots are)

-- ---- turns

turn-others : (input : Input) (s t : State) → Altered input s t → AreOthers s → AreOthers t
turn-others input s t a are =
    let tells = tells_settings input in
    alters-others tells a.behind.mid t a.behind.alters (renews-others a.behind_event a.behind.mid a.behind.renews
    (alters-others tells s a.behind_event a.event are))

runs-others : (meaning : Meaning) (s : State) (turns : List Turn) (last : State) → Runs meaning s turns last → AreOthers s → AreOthers last
runs-others meaning s [] last runs are = subst AreOthers (sym runs) are
runs-others meaning s (turn ∷ turns) last (mid, steps, runs) are =
    runs-others meaning mid turns last runs (turn-others turn.input s mid (steps-alter meaning s turn mid steps) are)

-- settings without parents, and no roots
fresh-others : (settings : ConfigData) → settings.settings.parents ≡ finmap.empty → AreOthers (fresh settings)
fresh-others settings none = sym (others-none settings.settings.parents [] none)

others-wait : (s : State) → AreOthers s → ParentsWait s
others-wait s are =
    let pairs = parent_map s.sources.roots in
    let decides = has_parents_if_equal (parents_in s) pairs in
    record {
      waits = (
        (λ none. decides.0 (none-others (has_parents (parents_in s) pairs) pairs (sym are ∙ none))),
        λ has. are
            ∙ others-none (parents_in s) s.sources.roots has,
      );
      those = λ some is. some-others (has_parents (parents_in s) pairs) some pairs (sym is ∙ are);
    }

-- those that a session begins with have none
pub bare-begin : (root : List ℕ) (threads : ℕ) → (config_at root threads).settings.parents ≡ finmap.empty
unfolding no_settings
bare-begin root threads = refl

config-begins : (params : Data) (threads : ℕ) (roots : List (List ℕ))
    → IfOk (config_with params threads roots) (λ (settings : ConfigData). settings.settings.parents ≡ finmap.empty)
unfolding config_from no_settings
config-begins params threads [] = tt
config-begins params threads (root ∷ rest) = refl

pub settings-begin : (params : Data) (threads : ℕ) (settings : ConfigData) → initial_config params threads ≡ Ok settings
    → settings.settings.parents ≡ finmap.empty
unfolding initial_config
settings-begin params threads settings is =
    IfOk-at_ok (λ (settings : ConfigData). settings.settings.parents ≡ finmap.empty) is (config-begins params threads (paths_of params))

-- in all runs whose settings begin without parents
pub parents-wait : (meaning : Meaning) (settings : ConfigData) (turns : List Turn) (last : State) → settings.settings.parents ≡ finmap.empty
    → Runs meaning (fresh settings) turns last → ParentsWait last
parents-wait meaning settings turns last none runs = others-wait last (runs-others meaning (fresh settings) turns last runs (fresh-others settings none))

turn-takes : (input : Input) (s t : State) → Altered input s t → AreOthers s → TakesParents s t
turn-takes input s t a are = both (alters-takes tells s a.behind_event a.event are) (alters-takes tells mid t a.behind.alters others_mid)
  where
    tells : Bool
    tells = tells_settings input

    mid : State
    mid = a.behind.mid

    others_mid : AreOthers mid
    others_mid = renews-others a.behind_event mid a.behind.renews (alters-others tells s a.behind_event a.event are)

    same : parents_in mid ≡ parents_in a.behind_event
    same = ap (λ (c : ConfigData). c.settings.parents) a.behind.renews.settings

    both : Takes s a.behind_event → Takes mid t → TakesParents s t
    both (inl first) (inl second) = inl (second ∙ same ∙ first)
    both (inr first) (inl second) = inr (inl (second ∙ same ∙ first))
    both first (inr second) = inr (inr (second ∙ ap (λ (rs : List Root). parents_of (parent_map rs)) (sym a.behind.alters.roots)))

turn-keeps : (input : Input) (s t : State) → (a : Altered input s t) → AreOthers s → tells_settings input ≡ false
    → hold_settings (a.event.entries ++ a.behind.alters.entries) ≡ false
    → HasParentsOf s.client.settings s.sources.roots → HasParentsOf s.client.settings t.sources.roots → KeepsSettings s t
turn-keeps input s t a are silent none before now =
    let tells = tells_settings input in
    let event = a.event.entries in
    let later = a.behind.alters in
    let mid = a.behind.mid in
    let first : KeepsSettings s a.behind_event = a.event.settings silent (none-left event later.entries none) ((others-wait s are).waits.1 before) in
    let renews : KeepsSettings a.behind_event mid = record { settings = a.behind.renews.settings; errors = a.behind.renews.errors } in
    let kept : KeepsSettings s mid = keeps-settings-on s a.behind_event mid first renews in
    let others_mid : AreOthers mid = renews-others a.behind_event mid a.behind.renews (alters-others tells s a.behind_event a.event are) in
    let has : HasParentsOf mid.client.settings mid.sources.roots =
    ap (λ (c : ConfigData). c.settings.parents) kept.settings ∙ now ∙ ap (λ (rs : List Root). parents_of (parent_map rs)) later.roots in
    keeps-settings-on s mid t kept (later.settings silent (none-right event later.entries none) ((others-wait mid others_mid).waits.1 has))

-- ---- what an input tells

told-itself : (notice : Option Notice) (client : Client) → tells_folders notice ≡ false → with_folders_told notice client ≡ client
told-itself None client silent = refl
told-itself (Some (notices.CancelRequest id)) client silent = refl
told-itself (Some (notices.CancelProgress token)) client silent = refl
told-itself (Some (notices.DidOpen document)) client silent = refl
told-itself (Some (notices.DidChange change)) client silent = refl
told-itself (Some (notices.DidClose uri)) client silent = refl
told-itself (Some (notices.DidSave uri)) client silent = refl
told-itself (Some notices.DidChangeConfiguration) client silent = refl
told-itself (Some (notices.DidChangeWorkspaceFolders added removed)) client silent = absurd (true≢false silent)
told-itself (Some (notices.DidChangeWatchedFiles urls)) client silent = refl
told-itself (Some notices.CancelFlycheck) client silent = refl
told-itself (Some notices.ClearFlycheck) client silent = refl
told-itself (Some (notices.RunFlycheck uri)) client silent = refl
told-itself (Some notices.AbortRunTest) client silent = refl

-- an input that tells nothing of the settings
silent-told : (input : Input) (client : Client) → tells_settings input ≡ false → as_told input client ≡ client
silent-told Start client silent = refl
silent-told (Next (Lsp (RequestMessage r))) client silent = refl
silent-told (Next (Lsp (NotificationMessage n))) client silent = told-itself (told_by (heard_of n)) client silent
silent-told (Next (Lsp (ResponseMessage r))) client silent = absurd (true≢false silent)
silent-told (Next (Task batch)) client silent = refl
silent-told (Next (Vfs messages)) client silent = refl
silent-told (Next (Deferred tasks)) client silent = refl
silent-told (Next (News news)) client silent = refl
silent-told (Next (Timer ticket)) client silent = refl

-- an event that tells something of them lets nothing into the world
record EventTells (client : Client) (s t : State) : Type 0 where
  host : t.files.host ≡ s.files.host
  sources : t.sources ≡ s.sources
  parents : parents_in t ≡ parents_in s
  has : HasSettings client t

response-tells : (r : Response) (s : State) → IfOk (answer_taken r (turn_begun s)) (λ v. EventTells (after_answer r s.client) s v.state)
response-tells r s =
    let w : TurnState State = turn_begun s in
    IfOk-and_then (at_client (λ c. Ok (answered r c)) w) _ (λ v. EventTells (after_answer r s.client) s v.state)
    (λ v. EventTells (after_answer r s.client) s v.state)
    (IfOk-within client_in with_client (λ c. Ok (answered r c)) w (λ v. EventTells (after_answer r s.client) s v.state)
    (let d = answered-does r (record { state = s.client; out = w.out }) in
    record {
      host = refl;
      sources = refl;
      parents = ap (λ (c : Client). c.settings.settings.parents) d.is
          ∙ after-parents (follows r.id s.client.asked) r s.client.settings;
      has =
          record { settings = ap (λ (c : Client). c.settings) d.is; errors = ap (λ (c : Client). c.errors) d.is };
    }))
    (λ v e. let u : TurnState State = at_workspaces (settings_told s.client.settings v.state.client.settings) v in
    let other : Bool = has_other_checks s.client.settings v.state.client.settings in
    IfOk-weaker (checks_renewed_if other u) (Announces u) _ (renewed_if-owes Announces announcing other u)
    (λ x a. subst (EventTells (after_answer r s.client) s) (sym a.state)
    (record { host = e.host; sources = e.sources; parents = e.parents; has = record { settings = e.has.settings; errors = e.has.errors } })))

folders-tell : (added removed : List (List ℕ)) (s : State)
    → IfOk (folders_taken added removed (turn_begun s)) (λ v. EventTells (after_folders added removed s.client) s v.state)
folders-tell added removed s =
    let w : TurnState State = turn_begun s in
    IfOk-and_then (at_client (λ c. Ok (folders_changed added removed c)) w) _ (λ v. EventTells (after_folders added removed s.client) s v.state)
    (λ v. EventTells (after_folders added removed s.client) s v.state)
    (IfOk-within client_in with_client (λ c. Ok (folders_changed added removed c)) w (λ v. EventTells (after_folders added removed s.client) s v.state)
    (let d = folders-do added removed (record { state = s.client; out = w.out }) in
    record {
      host = refl;
      sources = refl;
      parents = ap (λ (c : Client). c.settings.settings.parents) d.is;
      has =
          record { settings = ap (λ (c : Client). c.settings) d.is; errors = ap (λ (c : Client). c.errors) d.is };
    }))
    (λ v e. record { host = e.host; sources = e.sources; parents = e.parents; has = record { settings = e.has.settings; errors = e.has.errors } })

notice-tells : (notice : Notice) (s : State) → tells_folders (Some notice) ≡ true
    → IfOk (told notice (turn_begun s)) (λ v. EventTells (with_folders_told (Some notice) s.client) s v.state)
unfolding told
notice-tells (notices.CancelRequest id) s tells = absurd (true≢false (sym tells))
notice-tells (notices.CancelProgress token) s tells = absurd (true≢false (sym tells))
notice-tells (notices.DidOpen document) s tells = absurd (true≢false (sym tells))
notice-tells (notices.DidChange change) s tells = absurd (true≢false (sym tells))
notice-tells (notices.DidClose uri) s tells = absurd (true≢false (sym tells))
notice-tells (notices.DidSave uri) s tells = absurd (true≢false (sym tells))
notice-tells notices.DidChangeConfiguration s tells = absurd (true≢false (sym tells))
notice-tells (notices.DidChangeWorkspaceFolders added removed) s tells = folders-tell added removed s
notice-tells (notices.DidChangeWatchedFiles urls) s tells = absurd (true≢false (sym tells))
notice-tells notices.CancelFlycheck s tells = absurd (true≢false (sym tells))
notice-tells notices.ClearFlycheck s tells = absurd (true≢false (sym tells))
notice-tells (notices.RunFlycheck uri) s tells = absurd (true≢false (sym tells))
notice-tells notices.AbortRunTest s tells = absurd (true≢false (sym tells))

heard-tells : (heard : Heard) (method : List ℕ) (s : State) → tells_folders (told_by heard) ≡ true
    → IfOk (noticed heard method (turn_begun s)) (λ v. EventTells (with_folders_told (told_by heard) s.client) s v.state)
unfolding noticed
heard-tells (Told notice) method s tells = notice-tells notice s tells
heard-tells Malformed method s tells = absurd (true≢false (sym tells))
heard-tells Unhandled method s tells = absurd (true≢false (sym tells))
heard-tells Silent method s tells = absurd (true≢false (sym tells))

happened-tells : (meaning : Meaning) (event : Event) (s : State) → tells_settings (Next event) ≡ true
    → IfOk (happened meaning event (turn_begun s)) (λ v. EventTells (as_told (Next event) s.client) s v.state)
unfolding happened received
happened-tells meaning (Lsp (RequestMessage r)) s tells = absurd (true≢false (sym tells))
happened-tells meaning (Lsp (NotificationMessage n)) s tells = heard-tells (heard_of n) n.method s tells
happened-tells meaning (Lsp (ResponseMessage r)) s tells = response-tells r s
happened-tells meaning (Task batch) s tells = absurd (true≢false (sym tells))
happened-tells meaning (Vfs messages) s tells = absurd (true≢false (sym tells))
happened-tells meaning (Deferred tasks) s tells = absurd (true≢false (sym tells))
happened-tells meaning (News news) s tells = absurd (true≢false (sym tells))
happened-tells meaning (Timer ticket) s tells = absurd (true≢false (sym tells))

event-tells : (meaning : Meaning) (event : Event) (s : State) → tells_settings (Next event) ≡ true
    → IfOk (event_taken meaning event (turn_start s)) (λ v. EventTells (as_told (Next event) s.client) s v.state)
unfolding event_taken
event-tells meaning event s tells =
    let Goal : TurnState State → Type 0 = λ v. EventTells (as_told (Next event) s.client) s v.state in
    IfOk-and_then (turn_counted (turn_start s)) (happened meaning event) (λ v. v ≡ turn_begun s) Goal (counted-is s)
    (λ v is. subst (λ w. IfOk (happened meaning event w) Goal) (sym is) (happened-tells meaning event s tells))

-- a turn whose input tells something of them: behind its event settings files and parents are filed as in any other
abbrev TurnTells : Input → State → State → Type 0
TurnTells input s t = TurnAlters false (EventTells (as_told input s.client) s) t

step-tells : (meaning : Meaning) (input : Input) (s : State) → tells_settings input ≡ true
    → IfOk (step meaning input (turn_start s)) (λ v. TurnTells input s v.state)
step-tells meaning input s tells = turn-does false meaning s input (EventTells (as_told input s.client) s) (first input tells)
  where
    first : (input : Input) → tells_settings input ≡ true
        → Begins meaning s input (λ w. EventTells (as_told input s.client) s w.state) (λ w. EventTells (as_told input s.client) s w.state)
    first Start tells = absurd (true≢false (sym tells))
    first (Next event) tells = event-tells meaning event s tells

-- ---- the law

silent-change : (input : Input) (s t : State) → Altered input s t → AreOthers s → tells_settings input ≡ false → ChangesAsTold input s t
silent-change input s t a are silent =
    let later = a.behind.alters in
    record {
      in_event = a.event.entries;
      behind = later.entries;
      enters = enters-on a.event.entries later.entries s.files.host a.behind_event.files.host t.files.host a.event.enters
          (subst (λ (h : HostData). Enters later.entries h t.files.host) a.behind.renews.host later.enters);
      told = λ none before now.
          let kept : KeepsSettings s t = turn-keeps input s t a are silent none before now in
          let itself : as_told input s.client ≡ s.client = silent-told input s.client silent in
          record { settings = kept.settings ∙ ap (λ (c : Client). c.settings) (sym itself); errors = kept.errors ∙ ap (λ (c : Client). c.errors) (sym itself) };
      parents = turn-takes input s t a are;
    }

event-others : (client : Client) (s t : State) → EventTells client s t → AreOthers s → AreOthers t
event-others client s t e are = ap (λ (x : Sources). x.parents) e.sources ∙ are ∙ (λ i. others (sym e.parents i) (sym e.sources i).roots)

told-change : (input : Input) (s t : State) → Altered input s t → TurnTells input s t → AreOthers s → ChangesAsTold input s t
told-change input s t a turn are =
    let m = turn.behind_event in
    let mid = turn.behind.mid in
    let renews = turn.behind.renews in
    let later = turn.behind.alters in
    let others_mid : AreOthers mid = renews-others m mid renews (event-others (as_told input s.client) s m turn.event are) in
    record {
      in_event = [];
      behind = later.entries;
      enters = subst (λ (h : HostData). Enters later.entries h t.files.host) (renews.host ∙ turn.event.host) later.enters;
      told = λ none before now.
          let has : HasParentsOf mid.client.settings mid.sources.roots =
          ap (λ (c : ConfigData). c.settings.parents) renews.settings ∙ turn.event.parents ∙ now
          ∙ ap (λ (rs : List Root). parents_of (parent_map rs)) later.roots in
          let kept : KeepsSettings mid t = later.settings refl none ((others-wait mid others_mid).waits.1 has) in
          record { settings = kept.settings ∙ renews.settings ∙ turn.event.has.settings; errors = kept.errors ∙ renews.errors ∙ turn.event.has.errors };
      parents = turn-takes input s t a are;
    }

-- the settings change by what is told of them
pub settings-change : (meaning : Meaning) (settings : ConfigData) (turns : List Turn) (last : State) (turn : Turn) (new : State)
    → settings.settings.parents ≡ finmap.empty
    → Runs meaning (fresh settings) turns last → Steps meaning last turn new → ChangesAsTold turn.input last new
settings-change meaning settings turns last turn new none runs steps = by (tells_settings turn.input) refl
  where
    are : AreOthers last
    are = runs-others meaning (fresh settings) turns last runs (fresh-others settings none)

    altered : Altered turn.input last new
    altered = steps-alter meaning last turn new steps

    by : (tells : Bool) → tells_settings turn.input ≡ tells → ChangesAsTold turn.input last new
    by false silent = silent-change turn.input last new altered are silent
    by true tells = told-change turn.input last new altered
        (IfOk-at_ok (λ (v : TurnState State). TurnTells turn.input last v.state) steps (step-tells meaning turn.input last tells)) are
