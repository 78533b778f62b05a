-- What the parts of a session order beside jobs, log lines and tasks that are put off: nothing, but for files that are to be read anew.
use Rattle.std.proofs.Common.{◌≡◌, ℕ, List, [], ◌∷◌, ◌++◌, Bool, true, false, refl, ap, ◌∙◌, append-nil}
use Rattle.std.specs.Prelude.{ℤ, ◌==◌, Option, None, Some, Result, Ok, Err, IfOk, filter, map, if◌then◌else◌}
use Rattle.std.specs.FinMap as finmap
use Rattle.std.specs.List.{filter_map}
use Rattle.std.proofs.lemmas.List.Elements.{filter_map-append}
use Rattle.docs_vfs.specs.declared.source_roots.Root.{Root}
use Rattle.text_core.specs.declared.change.ContentChange.{ContentChange}
use Rattle.text_core.specs.declared.position.PositionEncoding.{PositionEncoding}
use Rattle.lsp_frame.specs.Outgoing.{number_limit}
use Rattle.lsp_frame.specs.declared.message.Request.{Request}
use Rattle.lsp_frame.specs.declared.message.RequestId.{RequestId}
use Rattle.lsp_frame.specs.declared.message.Response.{Response}
use Rattle.analysis_host.specs.SnapshotData.{SnapshotData}
use Rattle.method_table.specs.declared.class.PoolClass.{PoolClass}
use Rattle.project_model.specs.declared.crates.CrateData.{CrateData}
use Rattle.session_port.specs.declared.command.Command.{Command}
use Rattle.session_port.specs.declared.command.Command.TheVariants.{Log, Defer}
use Rattle.session_port.specs.declared.command.DeferredTask.{DeferredTask}
use Rattle.session_port.specs.declared.command.LogCode.{LogCode}
use Rattle.session_port.specs.declared.command.LogCode.TheVariants.{BadPath, DuplicateOpen, OrphanClose, SettingsError, SkippedChange, UnexpectedChange}
use Rattle.session_port.specs.declared.command.LogCode.TheVariants.{UnknownResponse}
use Rattle.session_port.specs.declared.event.LoaderMsg.{LoaderMsg}
use Rattle.session_port.specs.declared.event.TaskMsg.{TaskMsg}
use Rattle.session_port.specs.declared.fault.Counter.{Counter}
use Rattle.session_port.specs.declared.fault.Counter.TheVariants.{Jobs, Outgoing, Turns}
use Rattle.session_port.specs.declared.job.JobKind.{JobKind}
use Rattle.session_port.specs.Events.{revision_of}
use Rattle.session_port.specs.Record.{spawned}
use Rattle.session_port.specs.TurnState.{TurnState, logged, ordered, written}
use Rattle.session_port.specs.Written.{Written}
use Rattle.client.specs.Answers.{chooses, fault_in}
use Rattle.client.specs.Client.{Client}
use Rattle.client.specs.Folds.{after_asking, follows}
use Rattle.client.specs.Steps.{answered, asked_for, folders_changed, followed, logged_if, misses, names_none, notification_of, request_at}
use Rattle.client.specs.Texts.{id_text}
use Rattle.client.specs.declared.handler.ReqHandler.{ReqHandler}
use Rattle.client.specs.declared.handler.ReqHandler.TheVariants.{Ignore, OpenLogs, Settings}
use Rattle.notify.specs.declared.outgo.Outgo.{Outgo}
use Rattle.notify.specs.declared.outgo.Outgo.TheVariants.{OpenLogs as OpenLogsMessage}
use Rattle.desk.specs.Desk.{Desk}
use Rattle.desk.specs.Meaning.{Meaning}
use Rattle.desk.specs.Scene.{Scene}
use Rattle.desk.specs.Steps.{cancelled, counted, handed_over, jobs_kept, requested, result_taken}
use Rattle.desk_laws.specs.Settled.{PassesOver}
use Rattle.desk_laws.proofs.Appends.{passed-append}
use Rattle.desk_laws.proofs.Results.{IfOk-next, IfOk-weaker}
use Rattle.desk_laws.proofs.Settling.{cancel-settles, message-settles, request-settles}
use Rattle.session_laws.specs.Beside.{Tells}
use Rattle.session_laws.proofs.Telling.{tells-deferred, tells-logged, tells-none, tells-notification, tells-on, tells-ordered, tells-request}
use Rattle.session_files.specs.Changing.{has_skipped}
use Rattle.session_files.specs.Folds.{after_crates, after_editing, after_messages, after_opening, after_processing, is_open}
use Rattle.session_files.specs.SessionFiles.{SessionFiles}
use Rattle.session_files.proofs.SoundLemmas.{editing_keeps, messages_keep, opening_keeps}
use Rattle.session_files.specs.Steps.{become, changed_document, close_noted, crates_put, edited_document, loaded, open_noted, opened_document, processed}
use Rattle.session_files.specs.Steps.{skip_noted}

-- nothing was ordered but jobs, log lines and tasks that are put off
abbrev pub Passes : Written → Written → Type 0
Passes old new = (number_of : Command → Option ℕ) → PassesOver number_of → filter_map number_of new.commands ≡ filter_map number_of old.commands

pub passes-none : (out : Written) → Passes out out
passes-none out number_of passes = refl

pub passes-on : (a b c : Written) → Passes a b → Passes b c → Passes a c
passes-on a b c p q number_of passes = q number_of passes ∙ p number_of passes

pub passes-logged : {S : Type 0} (code : LogCode) (text : List ℕ) (w : TurnState S) → Passes w.out (logged code text w).out
unfolding logged ordered
passes-logged code text w number_of passes = passed-append number_of w.out.commands (Log code text) (passes.logs code text)

passes-deferred : {S : Type 0} (task : DeferredTask) (w : TurnState S) → Passes w.out (ordered (Defer task) w).out
unfolding ordered
passes-deferred task w number_of passes = passed-append number_of w.out.commands (Defer task) (passes.defers task)

passes-logged_if : {S : Type 0} (code : LogCode) (text : Option (List ℕ)) (w : TurnState S) → Passes w.out (logged_if code text w).out
passes-logged_if code None w = passes-none w.out
passes-logged_if code (Some text) w = passes-logged code text w

passes-if : {S : Type 0} (code : LogCode) (text : List ℕ) (b : Bool) (w : TurnState S) → Passes w.out (if b then logged code text w else w).out
passes-if code text true w = passes-logged code text w
passes-if code text false w = passes-none w.out

-- and nobody was answered
pub record Says (old new : Written) : Type 0 where
  pub passes : Passes old new
  pub tells : Tells old new

pub says-none : (out : Written) → Says out out
says-none out = record { passes = passes-none out; tells = tells-none out }

pub says-on : (a b c : Written) → Says a b → Says b c → Says a c
says-on a b c p q = record { passes = passes-on a b c p.passes q.passes; tells = tells-on a b c p.tells q.tells }

pub says-logged : {S : Type 0} (code : LogCode) (text : List ℕ) (w : TurnState S) → Says w.out (logged code text w).out
says-logged code text w = record { passes = passes-logged code text w; tells = tells-logged code text w }

pub says-deferred : {S : Type 0} (task : DeferredTask) (w : TurnState S) → Says w.out (ordered (Defer task) w).out
says-deferred task w = record { passes = passes-deferred task w; tells = tells-deferred task w }

-- an order to work beside the jobs
pub says-ordered : {S : Type 0} (command : Command) (w : TurnState S)
    → ((number_of : Command → Option ℕ) → PassesOver number_of → number_of command ≡ None) → spawned (command ∷ []) ≡ []
    → filter_map revision_of (command ∷ []) ≡ [] → Says w.out (ordered command w).out
unfolding ordered
says-ordered command w passes spawns revises = record {
  passes = λ number_of over. passed-append number_of w.out.commands command (passes number_of over);
  tells = tells-ordered command w spawns revises;
}

pub says-notified : {S : Type 0} (message : Outgo) (w : TurnState S) → Says w.out (written (notification_of message) w).out
unfolding written
says-notified message w = record { passes = passes-none w.out; tells = tells-notification _ w }

-- ---- the desk

abbrev FromDesk : TurnState Desk → TurnState Desk → Type 0
FromDesk w v = Passes w.out v.out

pub requested-passes : (meaning : Meaning) (scene : Scene) (r : Request) (w : TurnState Desk) → IfOk (requested meaning scene r w) (FromDesk w)
requested-passes meaning scene r w = IfOk-weaker (requested meaning scene r w) _ (FromDesk w) (request-settles meaning scene r w) (λ v settled. settled.others)

pub message-passes : (meaning : Meaning) (scene : Scene) (message : TaskMsg) (w : TurnState Desk) → IfOk (result_taken meaning scene message w) (FromDesk w)
message-passes meaning scene message w = IfOk-weaker (result_taken meaning scene message w) _ (FromDesk w) (message-settles meaning scene message w)
    (λ v settled. settled.others)

pub cancelled-passes : (id : RequestId) (w : TurnState Desk) → FromDesk w (cancelled id w)
cancelled-passes id w = (cancel-settles id w).others

pub spawned-passes : (snapshot : SnapshotData) (class : PoolClass) (kind : JobKind) (w : TurnState Desk) → IfOk (handed_over snapshot class kind w) (FromDesk w)
unfolding ordered
spawned-passes snapshot class kind w =
    IfOk-next w.state.last_job Jobs _ (FromDesk w) (λ number_of passes. passed-append number_of w.out.commands _ (passes.jobs _))

pub counted-passes : (w : TurnState Desk) → IfOk (counted w) (FromDesk w)
unfolding counted
counted-passes w = IfOk-next w.state.turns Turns _ (FromDesk w) (passes-none w.out)

pub kept-passes : (before : ℕ) (w : TurnState Desk) → FromDesk w (jobs_kept before w)
unfolding jobs_kept
kept-passes before w = passes-none w.out

-- ---- what is agreed with the client

abbrev pub FromClient : TurnState Client → TurnState Client → Type 0
FromClient w v = Passes w.out v.out

-- it is asked for something
abbrev pub Asks : ReqHandler → TurnState Client → TurnState Client → Type 0
Asks handler w v = Says w.out v.out × (v.state ≡ after_asking handler w.state)

asked-cases : (message : Outgo) (handler : ReqHandler) (w : TurnState Client) (b : Bool)
    → IfOk (if b then Err Outgoing else Ok (written (request_at w.state.asked.given message) (record w { state = after_asking handler w.state })))
    (Asks handler w)
unfolding written
asked-cases message handler w true = tt
asked-cases message handler w false =
    (record { passes = passes-none w.out; tells = tells-request _ (record w { state = after_asking handler w.state }) }, refl)

pub asked-says : (message : Outgo) (handler : ReqHandler) (w : TurnState Client) → IfOk (asked_for message handler w) (Asks handler w)
unfolding asked_for
asked-says message handler w = asked-cases message handler w (w.state.asked.given == number_limit)

shown-passes : (b : Bool) (w : TurnState Client) → FromClient w (if b then written (notification_of OpenLogsMessage) w else w)
unfolding written
shown-passes true w = passes-none w.out
shown-passes false w = passes-none w.out

followed-passes : (handler : Option ReqHandler) (response : Response) (w : TurnState Client) → FromClient w (followed handler response w)
unfolding followed
followed-passes None response w = passes-logged UnknownResponse (id_text response.id) w
followed-passes (Some Ignore) response w = passes-none w.out
followed-passes (Some Settings) response w = passes-logged_if SettingsError (fault_in response) w
followed-passes (Some OpenLogs) response w = shown-passes (chooses response) w

pub answered-passes : (response : Response) (w : TurnState Client) → FromClient w (answered response w)
unfolding answered
answered-passes response w = followed-passes (follows response.id w.state.asked) response w

logs-pass : (number_of : Command → Option ℕ) (passes : PassesOver number_of) (code : LogCode) (texts : List (List ℕ))
    → filter_map number_of (map (Log code) texts) ≡ []
logs-pass number_of passes code [] = refl
logs-pass number_of passes code (text ∷ texts) = rw (passes.logs code text) (logs-pass number_of passes code texts)

misses-pass : (number_of : Command → Option ℕ) (passes : PassesOver number_of) (commands : List Command) (urls : List (List ℕ))
    → filter_map number_of (commands ++ misses urls) ≡ filter_map number_of commands
misses-pass number_of passes commands urls =
    filter_map-append number_of commands (misses urls) ∙ ap (λ (ns : List ℕ). filter_map number_of commands ++ ns)
    (logs-pass number_of passes BadPath (filter names_none urls)) ∙ append-nil _

pub folders-pass : (added removed : List (List ℕ)) (w : TurnState Client) → FromClient w (folders_changed added removed w)
unfolding folders_changed
folders-pass added removed w number_of passes =
    misses-pass number_of passes (w.out.commands ++ misses removed) added ∙ misses-pass number_of passes w.out.commands removed

-- ---- the files

abbrev pub FromFiles : TurnState SessionFiles → TurnState SessionFiles → Type 0
FromFiles w v = Passes w.out v.out

become-passes : (r : Result SessionFiles Counter) (w u : TurnState SessionFiles) → Passes w.out u.out → IfOk (become r u) (FromFiles w)
become-passes (Ok files) w u passes = passes
become-passes (Err counter) w u passes = tt

-- and the world stays
abbrev pub Stays : TurnState SessionFiles → TurnState SessionFiles → Type 0
Stays w v = FromFiles w v × (v.state.host ≡ w.state.host)

become-stays : (r : Result SessionFiles Counter) (w u : TurnState SessionFiles) → ((now : SessionFiles) → r ≡ Ok now → now.host ≡ w.state.host)
    → Passes w.out u.out
    → IfOk (become r u) (Stays w)
become-stays (Ok files) w u same passes = (passes, same files refl)
become-stays (Err counter) w u same passes = tt

pub opened-passes : (excludes : List (List ℕ)) (path : List ℕ) (version : ℤ) (text : List ℕ) (w : TurnState SessionFiles)
    → IfOk (opened_document excludes path version text w) (Stays w)
unfolding opened_document open_noted
opened-passes excludes path version text w =
    become-stays (after_opening excludes path version text w.state) w _ (λ now is. (opening_keeps excludes path version text w.state now is).host)
    (passes-if DuplicateOpen path (is_open path w.state) w)

logged-stays : (code : LogCode) (text : List ℕ) (w : TurnState SessionFiles) → Stays w (logged code text w)
unfolding logged ordered
logged-stays code text w = (passes-logged code text w, refl)

changed-cases : (columns : PositionEncoding) (path : List ℕ) (version : ℤ) (changes : List ContentChange) (w : TurnState SessionFiles) (b : Bool)
    → IfOk (if b then edited_document columns path version changes w else Ok (logged UnexpectedChange path w)) (Stays w)
unfolding edited_document skip_noted
changed-cases columns path version changes w true =
    become-stays (after_editing columns path version changes w.state) w _ (λ now is. (editing_keeps columns path version changes w.state now is).host)
    (passes-if SkippedChange path (has_skipped columns changes (finmap.get w.state.texts path)) w)
changed-cases columns path version changes w false = logged-stays UnexpectedChange path w

pub changed-passes : (columns : PositionEncoding) (path : List ℕ) (version : ℤ) (changes : List ContentChange) (w : TurnState SessionFiles)
    → IfOk (changed_document columns path version changes w) (Stays w)
unfolding changed_document
changed-passes columns path version changes w = changed-cases columns path version changes w (is_open path w.state)

noted-cases : (path : List ℕ) (w : TurnState SessionFiles) (b : Bool) → Passes w.out (if b then w else logged OrphanClose path w).out
noted-cases path w true = passes-none w.out
noted-cases path w false = passes-logged OrphanClose path w

pub close-noted-passes : (path : List ℕ) (w : TurnState SessionFiles) → FromFiles w (close_noted path w)
unfolding close_noted
close-noted-passes path w = noted-cases path w (is_open path w.state)

pub loaded-passes : (messages : List LoaderMsg) (w : TurnState SessionFiles) → IfOk (loaded messages w) (Stays w)
unfolding loaded
loaded-passes messages w =
    become-stays (after_messages messages w.state) w w (λ now is. (messages_keep messages w.state now is).host) (passes-none w.out)

pub processed-passes : (roots : List Root) (w : TurnState SessionFiles) → IfOk (processed roots w) (FromFiles w)
unfolding processed
processed-passes roots w = become-passes (after_processing roots w.state) w w (passes-none w.out)

pub crates-pass : (roots : List Root) (crates : CrateData) (w : TurnState SessionFiles) → IfOk (crates_put roots crates w) (FromFiles w)
unfolding crates_put
crates-pass roots crates w = become-passes (after_crates roots crates w.state) w w (passes-none w.out)
