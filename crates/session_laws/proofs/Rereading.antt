-- A turn has those files read anew that its input says have changed, in order, and no others.
use Rattle.std.proofs.Common.{◌≡◌, ℕ, List, [], ◌∷◌, ◌++◌, map, Bool, true, false, cond, refl, sym, ap, ◌∙◌, append-nil, append_assoc, arith, true≢false}
use Rattle.std.specs.Prelude.{◌||◌, Option, None, Some, is_some, option_map, bytes_eq, Result, Ok, Err, IfOk, if◌then◌else◌}
use Rattle.std.specs.FinMap as finmap
use Rattle.std.specs.List.{cons_option, filter_map, list_any}
use Rattle.std.specs.Result.{result_ok}
use Rattle.std.specs.Cmp.Lexicographic.{nat_list_cmp_total}
use Rattle.std.proofs.lemmas.List.Elements.{filter_map-append}
use Rattle.std.proofs.lemmas.Map.Text.{is_eq-slice_cmp}
use Rattle.std.proofs.lemmas.Result.{IfOk-at_ok}
use Rattle.std.proofs.lemmas.Slice.Eq.{bytes_eq-Decides}
use Rattle.plain.specs.Texts.{text_cmp}
use Rattle.docs_vfs.specs.FileUrls.{path_of}
use Rattle.docs_vfs.specs.declared.file_url.UrlFault.{UrlFault}
use Rattle.lsp_frame.specs.declared.message.Notification.{Notification}
use Rattle.lsp_frame.specs.declared.message.Message.TheVariants.{Request as RequestMessage, Notification as NotificationMessage, Response as ResponseMessage}
use Rattle.notify.specs.declared.notice.Notice.{Notice}
use Rattle.notify.specs.declared.notice.Notice.TheVariants as notices
use Rattle.session_port.specs.declared.command.Command.{Command}
use Rattle.session_port.specs.declared.command.Command.TheVariants.{Invalidate}
use Rattle.session_port.specs.declared.fault.Counter.{Counter}
use Rattle.session_port.specs.TurnState.{TurnState, logged, ordered}
use Rattle.session_port.specs.Written.{Written}
use Rattle.desk.specs.Meaning.{Meaning}
use Rattle.desk_laws.proofs.Results.{IfOk-and_then, IfOk-weaker, IfOk-within}
use Rattle.session_files.specs.Steps.{close_noted, closed_document}
use Rattle.workspaces.specs.Workspaces.{Workspaces}
use Rattle.workspaces.specs.declared.follows.Follows.{Follows}
use Rattle.session_model.specs.Hearing.{heard_of, told_by}
use Rattle.session_model.specs.Diagnosing.{lists_cleared}
use Rattle.session_model.specs.Machine.{at_board, at_workspaces, document_closed_at, turn_counted, file_changed, files_changed, files_in, happened, loader_set, noticed}
use Rattle.session_model.specs.Machine.{received}
use Rattle.session_model.specs.Machine.{roots_renewed, step, switch_done, switch_taken, event_taken, told, with_files}
use Rattle.session_model.specs.Run.{Steps, Turn, turn_start}
use Rattle.session_model.specs.State.{State}
use Rattle.session_model.specs.Switching.{switch_made}
use Rattle.session_model.specs.declared.heard.Heard.{Heard}
use Rattle.session_model.specs.declared.heard.Heard.TheVariants.{Told, Malformed, Unhandled, Silent}
use Rattle.session_model.specs.declared.input.Event.{Event}
use Rattle.session_model.specs.declared.input.Event.TheVariants.{Lsp, Task, Vfs, Deferred, News, Timer}
use Rattle.session_model.specs.declared.input.Input.{Input}
use Rattle.session_model.specs.declared.input.Input.TheVariants.{Start, Next}
use Rattle.session_laws.specs.Ordered.{each_once, file_to_read, files_told, urls_told}
use Rattle.session_laws.proofs.Passing.{Passes, close-noted-passes}
use Rattle.session_model.specs.Machine.{checks_restarted_if}
use Rattle.session_model.specs.Restarting.{restart_checks}
use Rattle.session_laws.proofs.Saying.{logged-owes, restarted_if-owes}
use Rattle.session_laws.proofs.Walk.{Owed, closed-owes, counted-owes, happened-owes, notifies, owed-by, rereads, switched-owes, told-owes, walk}

-- ---- what passes has no file read anew

not-none : (n : ℕ) (ns : List ℕ) → n ∷ ns ≡ [] → ⊥
not-none n ns is = absurd cc

-- lists of texts of which each function of a text makes the same are the same
same-texts : (one other : List (List ℕ)) → ((number : List ℕ → ℕ) → map number one ≡ map number other) → one ≡ other
same-texts [] [] same = refl
same-texts [] (q ∷ qs) same = absurd (not-none 0 (map (λ text. 0) qs) (sym (same (λ text. 0))))
same-texts (p ∷ ps) [] same = absurd (not-none 0 (map (λ text. 0) ps) (same (λ text. 0)))
same-texts (p ∷ ps) (q ∷ qs) same = λ i. first i ∷ same-texts ps qs (λ number. ap rest (same number)) i
  where
    rest : List ℕ → List ℕ
    rest [] = []
    rest (n ∷ ns) = ns

    head : List ℕ → ℕ
    head [] = 0
    head (n ∷ ns) = n

    is_first : List ℕ → ℕ
    is_first text = if bytes_eq p text then 1 else 0

    one-is : (b : Bool) → (let n : ℕ = if b then 1 else 0 in n) ≡ 1 → b ≡ true
    one-is true is = refl
    one-is false is = absurd (omega (arith, is))

    own : is_first p ≡ 1
    own = ap (λ b. if b then 1 else 0) ((bytes_eq-Decides p p).1 refl)

    first : p ≡ q
    first = (bytes_eq-Decides p q).0 (one-is (bytes_eq p q) (sym (ap head (same is_first)) ∙ own))

abbrev file_number : (List ℕ → ℕ) → Command → Option ℕ
file_number number command = option_map number (file_to_read command)

numbers-are : (number : List ℕ → ℕ) (commands : List Command) → filter_map (file_number number) commands ≡ map number (filter_map file_to_read commands)
numbers-are number [] = refl
numbers-are number (command ∷ commands) = ap (cons_option (file_number number command)) (numbers-are number commands)
    ∙ by (file_to_read command) (filter_map file_to_read commands)
  where
    by : (file : Option (List ℕ)) (files : List (List ℕ)) → cons_option (option_map number file) (map number files) ≡ map number (cons_option file files)
    by None files = refl
    by (Some file) files = refl

passes-files : (old new : Written) → Passes old new → filter_map file_to_read new.commands ≡ filter_map file_to_read old.commands
passes-files old new passes =
    same-texts (filter_map file_to_read new.commands) (filter_map file_to_read old.commands)
    (λ number. sym (numbers-are number new.commands) ∙ passes (file_number number)
    (record {
      jobs = λ job. refl;
      logs = λ code text. refl;
      defers = λ task. refl;
      sets = λ checks. refl;
      restarts = λ id scope. refl;
      cancels = λ id. refl;
      runs = λ include exclude. refl;
      stops = refl;
      discovers = λ arg. refl;
    }) ∙ numbers-are number old.commands)

-- the files that have been ordered to be read anew
abbrev to_read : TurnState State → List (List ℕ)
to_read w = filter_map file_to_read w.out.commands

abbrev SameFiles : TurnState State → TurnState State → Type 0
SameFiles w v = to_read v ≡ to_read w

-- a command of another kind
other-passes : (command : Command) (w : TurnState State) → file_to_read command ≡ None → SameFiles w (ordered command w)
unfolding ordered
other-passes command w none = filter_map-append file_to_read w.out.commands (command ∷ []) ∙ ap (λ file. to_read w ++ cons_option file []) none ∙ append-nil _

same-files : Owed SameFiles
same-files = owed-by SameFiles (λ w v u p q. q ∙ p) (λ w v p. passes-files w.out v.out p.out) (λ ticket w. other-passes _ w refl)

-- ---- files that a client watches

-- these URLs were seen
abbrev AreSeen : finmap.FinMap text_cmp (Unit {0}) → List (List ℕ) → Type 0
AreSeen seen before = (url : List ℕ) → is_some (finmap.get seen url) ≡ list_any (bytes_eq url) before

seen-if : (b : Bool) (o : Option (Unit {0})) → is_some (cond b (Some tt) o) ≡ (b || is_some o)
seen-if true o = refl
seen-if false o = refl

seen-more : (seen : finmap.FinMap text_cmp (Unit {0})) (before : List (List ℕ)) (url : List ℕ) → AreSeen seen before
    → AreSeen (finmap.insert seen url tt) (url ∷ before)
seen-more seen before url are other =
    ap is_some (finmap.get-insert nat_list_cmp_total seen url tt other) ∙ seen-if _ (finmap.get seen other)
    ∙ (λ i. is_eq-slice_cmp other url i || are other i)

seen-none : AreSeen finmap.empty []
seen-none url = ap is_some (finmap.get-empty text_cmp url)

abbrev named : List ℕ → Option (List ℕ)
named url = result_ok (path_of url)

file-reads : (url : List ℕ) (o : Result (List ℕ) UrlFault) (w : TurnState State) (files : List (List ℕ))
    → to_read (file_changed url o w) ++ files ≡ to_read w ++ cons_option (result_ok o) files
unfolding file_changed logged ordered
file-reads url (Err fault) w files = ap (λ fs. fs ++ files) (filter_map-append file_to_read w.out.commands _ ∙ append-nil _)
file-reads url (Ok path) w files = ap (λ fs. fs ++ files) (filter_map-append file_to_read w.out.commands _) ∙ append_assoc (to_read w) (path ∷ []) files

-- one more URL, which was seen or was not
url-reads : (seen : finmap.FinMap text_cmp (Unit {0})) (before : List (List ℕ)) (url : List ℕ) (urls : List (List ℕ)) (w : TurnState State) (b : Bool)
    → to_read (files_changed seen urls w) ≡ to_read w ++ filter_map named (each_once before urls)
    → to_read (files_changed (finmap.insert seen url tt) urls (file_changed url (path_of url) w))
    ≡ to_read (file_changed url (path_of url) w) ++ filter_map named (each_once (url ∷ before) urls)
    → to_read (if b then files_changed seen urls w else files_changed (finmap.insert seen url tt) urls (file_changed url (path_of url) w))
    ≡ to_read w ++ filter_map named (if b then each_once before urls else url ∷ each_once (url ∷ before) urls)
url-reads seen before url urls w true again first = again
url-reads seen before url urls w false again first = first ∙ file-reads url (path_of url) w (filter_map named (each_once (url ∷ before) urls))

watched-reads : (seen : finmap.FinMap text_cmp (Unit {0})) (before urls : List (List ℕ)) (w : TurnState State) → AreSeen seen before
    → to_read (files_changed seen urls w) ≡ to_read w ++ filter_map named (each_once before urls)
unfolding files_changed
watched-reads seen before [] w are = sym (append-nil _)
watched-reads seen before (url ∷ urls) w are =
    let v : TurnState State = file_changed url (path_of url) w in
    url-reads seen before url urls w (is_some (finmap.get seen url)) (watched-reads seen before urls w are)
    (watched-reads (finmap.insert seen url tt) (url ∷ before) urls v (seen-more seen before url are))
    ∙ ap (λ b. to_read w ++ filter_map named (if b then each_once before urls else url ∷ each_once (url ∷ before) urls)) (are url)

-- ---- the event

-- these are to be read anew
abbrev Reads : List (List ℕ) → TurnState State → Type 0
Reads files w = to_read w ≡ files

closed-reads : (o : Result (List ℕ) UrlFault) (uri : List ℕ) (w : TurnState State) → Reads [] w
    → IfOk (document_closed_at o uri w) (Reads (cons_option (result_ok o) []))
unfolding document_closed_at closed_document ordered
closed-reads (Err fault) uri w none = logged-owes SameFiles same-files.saying _ uri w ∙ none
closed-reads (Ok path) uri w none =
    IfOk-within files_in with_files (λ f. Ok (closed_document path f)) (at_board (lists_cleared (finmap.get w.state.files.ids path)) w) (Reads (path ∷ []))
    (let noted = close_noted path (record { state = w.state.files; out = w.out }) in
    filter_map-append file_to_read noted.out.commands (Invalidate path ∷ [])
    ∙ ap (λ fs. fs ++ path ∷ []) (passes-files w.out noted.out (close-noted-passes path (record { state = w.state.files; out = w.out })) ∙ none))

-- what another notice tells has no file read anew
plain-reads : (notice : Notice) (w : TurnState State) → rereads notice ≡ false → Reads [] w → IfOk (told notice w) (Reads [])
plain-reads notice w plain none =
    IfOk-weaker (told notice w) (SameFiles w) (Reads [])
    (told-owes SameFiles same-files notice (λ is. absurd (true≢false (sym is ∙ plain))) (λ is v client out parents passes. passes-files v.out out passes) w)
    (λ v same. same ∙ none)

told-reads : (notice : Notice) (w : TurnState State) → Reads [] w → IfOk (told notice w) (Reads (filter_map named (urls_told (Some notice))))
unfolding told
told-reads (notices.CancelRequest id) w none = plain-reads (notices.CancelRequest id) w refl none
told-reads (notices.DidOpen document) w none = plain-reads (notices.DidOpen document) w refl none
told-reads (notices.DidChange change) w none = plain-reads (notices.DidChange change) w refl none
told-reads (notices.DidClose uri) w none = closed-reads (path_of uri) uri w none
told-reads (notices.DidSave uri) w none = plain-reads (notices.DidSave uri) w refl none
told-reads notices.DidChangeConfiguration w none = plain-reads notices.DidChangeConfiguration w refl none
told-reads (notices.DidChangeWorkspaceFolders added removed) w none = plain-reads (notices.DidChangeWorkspaceFolders added removed) w refl none
told-reads (notices.DidChangeWatchedFiles urls) w none =
    let v : TurnState State = files_changed finmap.empty urls w in
    let restarts : Bool = restart_checks w.state.client.settings urls in
    IfOk-weaker (checks_restarted_if restarts v) (SameFiles v) _ (restarted_if-owes SameFiles same-files.saying restarts v)
    (λ u same. same ∙ watched-reads finmap.empty [] urls w seen-none ∙ ap (λ fs. fs ++ filter_map named (each_once [] urls)) none)
told-reads (notices.CancelProgress token) w none = plain-reads (notices.CancelProgress token) w refl none
told-reads notices.CancelFlycheck w none = plain-reads notices.CancelFlycheck w refl none
told-reads notices.ClearFlycheck w none = none
told-reads (notices.RunFlycheck uri) w none = plain-reads (notices.RunFlycheck uri) w refl none
told-reads notices.AbortRunTest w none = plain-reads notices.AbortRunTest w refl none

heard-reads : (heard : Heard) (method : List ℕ) (w : TurnState State) → Reads [] w
    → IfOk (noticed heard method w) (Reads (filter_map named (urls_told (told_by heard))))
unfolding noticed
heard-reads (Told notice) method w none = told-reads notice w none
heard-reads Malformed method w none = logged-owes SameFiles same-files.saying _ method w ∙ none
heard-reads Unhandled method w none = logged-owes SameFiles same-files.saying _ method w ∙ none
heard-reads Silent method w none = none

-- an event that is no notification
other-reads : (meaning : Meaning) (event : Event) (w : TurnState State) → notifies event ≡ false → files_told (Next event) ≡ [] → Reads [] w
    → IfOk (happened meaning event w) (Reads (files_told (Next event)))
other-reads meaning event w silent nothing none =
    IfOk-weaker (happened meaning event w) (SameFiles w) (Reads (files_told (Next event)))
    (happened-owes SameFiles same-files meaning event (λ is. absurd (true≢false (sym is ∙ silent)))
    (λ is v client out parents passes. passes-files v.out out passes) w)
    (λ v same. same ∙ none ∙ sym nothing)

notified-reads : (meaning : Meaning) (n : Notification) (w : TurnState State) → Reads [] w
    → IfOk (happened meaning (Lsp (NotificationMessage n)) w) (Reads (files_told (Next (Lsp (NotificationMessage n)))))
unfolding happened received
notified-reads meaning n w none = heard-reads (heard_of n) n.method w none

happened-reads : (meaning : Meaning) (event : Event) (w : TurnState State) → Reads [] w → IfOk (happened meaning event w) (Reads (files_told (Next event)))
happened-reads meaning (Lsp (RequestMessage r)) w none = other-reads meaning (Lsp (RequestMessage r)) w refl refl none
happened-reads meaning (Lsp (NotificationMessage n)) w none = notified-reads meaning n w none
happened-reads meaning (Lsp (ResponseMessage r)) w none = other-reads meaning (Lsp (ResponseMessage r)) w refl refl none
happened-reads meaning (Task batch) w none = other-reads meaning (Task batch) w refl refl none
happened-reads meaning (Vfs messages) w none = other-reads meaning (Vfs messages) w refl refl none
happened-reads meaning (Deferred tasks) w none = other-reads meaning (Deferred tasks) w refl refl none
happened-reads meaning (News news) w none = other-reads meaning (News news) w refl refl none
happened-reads meaning (Timer ticket) w none = other-reads meaning (Timer ticket) w refl refl none

taken_in-reads : (meaning : Meaning) (event : Event) (s : State) → IfOk (event_taken meaning event (turn_start s)) (Reads (files_told (Next event)))
unfolding event_taken
taken_in-reads meaning event s =
    IfOk-and_then (turn_counted (turn_start s)) (happened meaning event) (SameFiles (turn_start s)) (Reads (files_told (Next event)))
    (counted-owes SameFiles same-files (turn_start s))
    (λ v same. happened-reads meaning event v same)

-- ---- whole turns

loader-reads : (version : ℕ) (w : TurnState State) → SameFiles w (roots_renewed (loader_set version w))
unfolding roots_renewed loader_set
loader-reads version w = other-passes _ w refl

switched-reads : (made : Result (Follows × Workspaces) Counter) (w : TurnState State) → IfOk (switch_taken made w) (SameFiles w)
unfolding switch_taken
switched-reads (Err counter) w = tt
switched-reads (Ok made) w = switched-owes SameFiles same-files loader-reads made (at_workspaces (λ before. made.1) w)

switch-reads : (files : List (List ℕ)) (w : TurnState State) → Reads files w → IfOk (switch_done w) (Reads files)
unfolding switch_done
switch-reads files w reads =
    let made = switch_made w.state.client.settings w.state.files w.state.workspaces in
    IfOk-weaker (switch_taken made w) (SameFiles w) (Reads files) (switched-reads made w) (λ v same. same ∙ reads)

step-reads : (meaning : Meaning) (s : State) (input : Input) → IfOk (step meaning input (turn_start s)) (Reads (files_told input))
step-reads meaning s Start =
    walk SameFiles same-files meaning s Start (Reads []) (Reads []) (Reads []) (λ w v reads same. same ∙ reads) (switch-reads []) refl
    (λ w now facts reads. IfOk-weaker _ (SameFiles w) (Reads []) (closed-owes SameFiles same-files (λ revision v. other-passes _ v refl) now w)
    (λ v same. same ∙ reads))
step-reads meaning s (Next event) =
    let files = files_told (Next event) in
    walk SameFiles same-files meaning s (Next event) (Reads files) (Reads files) (Reads files) (λ w v reads same. same ∙ reads) (switch-reads files)
    (taken_in-reads meaning event s)
    (λ w now facts reads. IfOk-weaker _ (SameFiles w) (Reads files) (closed-owes SameFiles same-files (λ revision v. other-passes _ v refl) now w)
    (λ v same. same ∙ reads))

pub turns-read : (meaning : Meaning) (old : State) (turn : Turn) (new : State) → Steps meaning old turn new
    → filter_map file_to_read turn.commands ≡ files_told turn.input
turns-read meaning old turn new steps = IfOk-at_ok (Reads (files_told turn.input)) steps (step-reads meaning old turn.input)
