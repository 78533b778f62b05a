-- An open document has contents, or its path is marked.
use Rattle.std.proofs.Common.{◌≡◌, ℕ, ℤ, List, [], ◌∷◌, Bool, true, false, cond, refl, sym, ap, ◌∙◌, subst}
use Rattle.std.proofs.lemmas.Bool.{cases_Bool, cond-true, cond-false}
use Rattle.std.proofs.Common.{⊎_elim}
use Rattle.std.specs.Prelude.{◌||◌, bytes_eq, is_some, Option, None, Some, Result, Ok, Err, if◌then◌else◌}
use Rattle.std.specs.FinMap as map
use Rattle.std.specs.Cmp.Lexicographic.{nat_list_cmp_total}
use Rattle.docs_vfs.specs.FileUrls.{path_of}
use Rattle.docs_vfs.specs.Files.{file_id_of, id_by, id_in, is_marked, kept_in, kept_of}
use Rattle.docs_vfs.specs.Paths.{path_cmp}
use Rattle.docs_vfs.specs.declared.file_kinds.FileRow.{FileRow}
use Rattle.docs_vfs.specs.declared.file_kinds.RowState.{RowState}
use Rattle.docs_vfs.specs.declared.file_kinds.RowState.TheVariants.{Nothing, Contents, Excluded}
use Rattle.docs_vfs.specs.declared.file_url.UrlFault.{UrlFault}
use Rattle.docs_vfs.proofs.PutLemmas.{one_path, same_path}
use Rattle.text_core.specs.declared.change.ContentChange.{ContentChange}
use Rattle.text_core.specs.declared.position.PositionEncoding.{PositionEncoding}
use Rattle.notify.specs.declared.notice.DidChange.{DidChange}
use Rattle.notify.specs.declared.notice.DidOpen.{DidOpen}
use Rattle.notify.specs.declared.notice.Notice.{Notice}
use Rattle.notify.specs.declared.notice.Notice.TheVariants as notices
use Rattle.ra_config.specs.Config.{ConfigData}
use Rattle.session_port.specs.declared.event.LoadedFile.{LoadedFile}
use Rattle.session_port.specs.declared.event.LoaderMsg.{LoaderMsg}
use Rattle.session_port.specs.declared.event.LoaderMsg.TheVariants.{Changed, Loaded, Progress}
use Rattle.desk.specs.Meaning.{Meaning}
use Rattle.session_files.specs.Changing.{text_after}
use Rattle.session_files.specs.Folds.{is_excluded_path, is_open}
use Rattle.session_files.specs.SessionFiles.{SessionFiles}
use Rattle.session_files.specs.Texts.{holds_text}
use Rattle.session_model.specs.Documents.{Documents, documents_after, documents_after_changed, documents_after_closing, documents_after_each_changed}
use Rattle.session_model.specs.Documents.{documents_after_each_loaded, documents_after_editing, documents_after_loaded, documents_after_message}
use Rattle.session_model.specs.Documents.{documents_after_messages, documents_after_notice, documents_after_opening, is_known, is_open_in, no_documents}
use Rattle.session_model.specs.Documents.{with_closed, with_contents, with_document_text, with_edits, with_kept, with_opened}
use Rattle.session_model.specs.Inputs.{notice_in}
use Rattle.session_model.specs.Places.{Place, beginning, place_after, place_after_all}
use Rattle.session_model.specs.Run.{Runs, Turn}
use Rattle.session_model.specs.State.{State, columns_in, excludes_in, fresh}
use Rattle.session_model.specs.declared.input.Event.TheVariants.{Lsp, Task, Vfs, Deferred, News, Timer}
use Rattle.session_model.specs.declared.input.Input.{Input}
use Rattle.session_model.specs.declared.input.Input.TheVariants.{Start, Next}
use Rattle.session_laws.specs.Invariant.{Stands, documents_of}
use Rattle.session_laws.proofs.Answered.{runs-stand}
use Rattle.quiet_laws.proofs.Bools.{else-is, or-left, then-is, true-false}

-- ---- maps by path

pub get-put : {X : Type 0} (m : map.FinMap path_cmp X) (path : List ℕ) (x : X) (q : List ℕ)
    → map.get (map.insert m path x) q ≡ cond (bytes_eq q path) (Some x) (map.get m q)
get-put m path x q = map.get-insert nat_list_cmp_total m path x q ∙ ap (λ b. cond b (Some x) (map.get m q)) (same_path q path)

pub get-off : {X : Type 0} (m : map.FinMap path_cmp X) (path q : List ℕ)
    → map.get (map.remove m path) q ≡ cond (bytes_eq q path) None (map.get m q)
get-off m path q = map.get-remove nat_list_cmp_total m path q ∙ ap (λ b. cond b None (map.get m q)) (same_path q path)

-- ---- documents

-- each open document is known
abbrev pub OpenAreKnown : Documents → Type 0
OpenAreKnown docs = (path : List ℕ) → is_open_in docs path ≡ true → is_known (docs.kept path) ≡ true

-- this is kept of a path; it is known, or the path isn't open
kept-known : (path : List ℕ) (kept : RowState) (docs : Documents) → (is_open_in docs path ≡ true → is_known kept ≡ true)
    → ((q : List ℕ) → bytes_eq q path ≡ false → is_open_in docs q ≡ true → is_known (docs.kept q) ≡ true) → OpenAreKnown (with_kept path kept docs)
kept-known path kept docs here there q held =
    ⊎_elim
    (λ same. ap is_known (then-is (bytes_eq q path) kept (docs.kept q) same) ∙ here (ap (is_open_in docs) (sym (one_path q path same)) ∙ held))
    (λ other. ap is_known (else-is (bytes_eq q path) kept (docs.kept q) other) ∙ there q other held)
    (cases_Bool (bytes_eq q path))

marked-known : (b : Bool) (text : List ℕ) → is_known (if b then Excluded else kept_of (Some text)) ≡ true
marked-known true text = refl
marked-known false text = refl

-- the version of a document is put
version-open : (path : List ℕ) (version : ℤ) (docs : Documents) (q : List ℕ) → bytes_eq q path ≡ false
    → is_some (map.get (map.insert docs.versions path version) q) ≡ true → is_open_in docs q ≡ true
version-open path version docs q other held = sym (ap is_some (get-put docs.versions path version q ∙ cond-false _ _ _ other)) ∙ held

opened-known : (excludes : List (List ℕ)) (path : List ℕ) (version : ℤ) (text : List ℕ) (docs : Documents) → OpenAreKnown docs
    → OpenAreKnown (with_opened excludes path version text docs)
opened-known excludes path version text docs known = by (is_excluded_path excludes path)
  where
    opened : Documents
    opened = record docs { versions = map.insert docs.versions path version; texts = map.insert docs.texts path text }

    others : (q : List ℕ) → bytes_eq q path ≡ false → is_open_in opened q ≡ true → is_known (docs.kept q) ≡ true
    others q other held = known q (version-open path version docs q other held)

    by : (b : Bool) → OpenAreKnown (if b then with_kept path Excluded opened else with_contents path (Some text) opened)
    by true = kept-known path Excluded opened (λ still. refl) others
    by false = kept-known path (if is_marked (docs.kept path) then Excluded else kept_of (Some text))
        opened (λ still. marked-known (is_marked (docs.kept path)) text)
        others

-- an open document gets another version
versioned-known : (path : List ℕ) (version : ℤ) (docs : Documents) → is_open_in docs path ≡ true → OpenAreKnown docs
    → OpenAreKnown (record docs { versions = map.insert docs.versions path version })
versioned-known path version docs there known q held =
    ⊎_elim
    (λ same. known q (ap (is_open_in docs) (one_path q path same) ∙ there))
    (λ other. known q (version-open path version docs q other held))
    (cases_Bool (bytes_eq q path))

text-known : (path text : List ℕ) (docs : Documents) → OpenAreKnown docs → OpenAreKnown (with_document_text path text docs)
text-known path text docs known = by (holds_text (map.get docs.texts path) text)
  where
    by : (b : Bool) → OpenAreKnown (if b then docs else with_contents path (Some text) (record docs { texts = map.insert docs.texts path text }))
    by true = known
    by false = kept-known path (if is_marked (docs.kept path) then Excluded else kept_of (Some text)) (record docs { texts = map.insert docs.texts path text })
        (λ held. marked-known (is_marked (docs.kept path)) text) (λ q other held. known q held)

edits-known : (columns : PositionEncoding) (path : List ℕ) (version : ℤ) (changes : List ContentChange) (docs : Documents) → OpenAreKnown docs
    → OpenAreKnown (with_edits columns path version changes docs)
edits-known columns path version changes docs known = by (is_open_in docs path) refl
  where
    versioned : Documents
    versioned = record docs { versions = map.insert docs.versions path version }

    by : (b : Bool) → is_open_in docs path ≡ b
        → OpenAreKnown (if b then with_document_text path (text_after columns changes (map.get docs.texts path)) versioned else docs)
    by true there = text-known path (text_after columns changes (map.get docs.texts path)) versioned (versioned-known path version docs there known)
    by false there = known

closed-known : (path : List ℕ) (docs : Documents) → OpenAreKnown docs → OpenAreKnown (with_closed path docs)
closed-known path docs known q held =
    ⊎_elim
    (λ same. true-false (sym (sym (ap is_some (get-off docs.versions path q ∙ cond-true _ _ _ same)) ∙ held)))
    (λ other. known q (sym (ap is_some (get-off docs.versions path q ∙ cond-false _ _ _ other)) ∙ held))
    (cases_Bool (bytes_eq q path))

-- a path that isn't open gets contents, or none
loose-known : (path : List ℕ) (contents : Option (List ℕ)) (docs : Documents) → is_open_in docs path ≡ false → OpenAreKnown docs
    → OpenAreKnown (with_contents path contents docs)
loose-known path contents docs closed known =
    kept-known path (if is_marked (docs.kept path) then Excluded else kept_of contents)
    docs (λ held. true-false (sym held ∙ closed)) (λ q other held. known q held)

changed-known : (file : LoadedFile) (docs : Documents) → OpenAreKnown docs → OpenAreKnown (documents_after_changed file docs)
changed-known file docs known = by (is_open_in docs file.path) refl
  where
    by : (b : Bool) → is_open_in docs file.path ≡ b → OpenAreKnown (if b then docs else with_contents file.path file.contents docs)
    by true is = known
    by false is = loose-known file.path file.contents docs is known

loaded-known : (file : LoadedFile) (docs : Documents) → OpenAreKnown docs → OpenAreKnown (documents_after_loaded file docs)
loaded-known file docs known = by (is_open_in docs file.path || is_known (docs.kept file.path)) refl
  where
    by : (b : Bool) → (is_open_in docs file.path || is_known (docs.kept file.path)) ≡ b
        → OpenAreKnown (if b then docs else with_contents file.path file.contents docs)
    by true is = known
    by false is = loose-known file.path file.contents docs (or-left (is_open_in docs file.path) (is_known (docs.kept file.path)) is) known

each-changed-known : (files : List LoadedFile) (docs : Documents) → OpenAreKnown docs → OpenAreKnown (documents_after_each_changed files docs)
each-changed-known [] docs known = known
each-changed-known (file ∷ later) docs known = each-changed-known later (documents_after_changed file docs) (changed-known file docs known)

each-loaded-known : (files : List LoadedFile) (docs : Documents) → OpenAreKnown docs → OpenAreKnown (documents_after_each_loaded files docs)
each-loaded-known [] docs known = known
each-loaded-known (file ∷ later) docs known = each-loaded-known later (documents_after_loaded file docs) (loaded-known file docs known)

message-known : (message : LoaderMsg) (docs : Documents) → OpenAreKnown docs → OpenAreKnown (documents_after_message message docs)
message-known (Changed files) docs known = each-changed-known files docs known
message-known (Loaded files) docs known = each-loaded-known files docs known
message-known (Progress total done dir version) docs known = known

messages-known : (messages : List LoaderMsg) (docs : Documents) → OpenAreKnown docs → OpenAreKnown (documents_after_messages messages docs)
messages-known [] docs known = known
messages-known (message ∷ later) docs known = messages-known later (documents_after_message message docs) (message-known message docs known)

opening-known : (settings : ConfigData) (o : Result (List ℕ) UrlFault) (document : DidOpen) (docs : Documents) → OpenAreKnown docs
    → OpenAreKnown (documents_after_opening settings o document docs)
opening-known settings (Err fault) document docs known = known
opening-known settings (Ok path) document docs known = opened-known (excludes_in settings) path document.version document.text docs known

editing-known : (settings : ConfigData) (o : Result (List ℕ) UrlFault) (change : DidChange) (docs : Documents) → OpenAreKnown docs
    → OpenAreKnown (documents_after_editing settings o change docs)
editing-known settings (Err fault) change docs known = known
editing-known settings (Ok path) change docs known = edits-known (columns_in settings) path change.version change.changes docs known

closing-known : (o : Result (List ℕ) UrlFault) (docs : Documents) → OpenAreKnown docs → OpenAreKnown (documents_after_closing o docs)
closing-known (Err fault) docs known = known
closing-known (Ok path) docs known = closed-known path docs known

notice-known : (settings : ConfigData) (o : Option Notice) (docs : Documents) → OpenAreKnown docs → OpenAreKnown (documents_after_notice settings o docs)
notice-known settings None docs known = known
notice-known settings (Some (notices.DidOpen document)) docs known = opening-known settings (path_of document.uri) document docs known
notice-known settings (Some (notices.DidChange change)) docs known = editing-known settings (path_of change.uri) change docs known
notice-known settings (Some (notices.DidClose uri)) docs known = closing-known (path_of uri) docs known
notice-known settings (Some (notices.CancelRequest id)) docs known = known
notice-known settings (Some (notices.DidSave uri)) docs known = known
notice-known settings (Some notices.DidChangeConfiguration) docs known = known
notice-known settings (Some (notices.DidChangeWorkspaceFolders added removed)) docs known = known
notice-known settings (Some (notices.DidChangeWatchedFiles urls)) docs known = known
notice-known settings (Some (notices.CancelProgress token)) docs known = known
notice-known settings (Some notices.CancelFlycheck) docs known = known
notice-known settings (Some notices.ClearFlycheck) docs known = known
notice-known settings (Some (notices.RunFlycheck uri)) docs known = known
notice-known settings (Some notices.AbortRunTest) docs known = known

input-known : (settings : ConfigData) (input : Input) (docs : Documents) → OpenAreKnown docs → OpenAreKnown (documents_after settings input docs)
input-known settings Start docs known = known
input-known settings (Next (Lsp message)) docs known = notice-known settings (notice_in (Next (Lsp message))) docs known
input-known settings (Next (Task batch)) docs known = known
input-known settings (Next (Vfs messages)) docs known = messages-known messages docs known
input-known settings (Next (Deferred tasks)) docs known = known
input-known settings (Next (News news)) docs known = known
input-known settings (Next (Timer ticket)) docs known = known

turns-known : (meaning : Meaning) (turns : List Turn) (place : Place) → OpenAreKnown place.documents
    → OpenAreKnown (place_after_all meaning turns place).documents
turns-known meaning [] place known = known
turns-known meaning (turn ∷ turns) place known =
    turns-known meaning turns (place_after meaning turn place) (input-known place.rest.client.settings turn.input place.documents known)

none-known : OpenAreKnown no_documents
none-known path held = true-false (sym (sym (ap is_some (map.get-empty path_cmp path)) ∙ held))

-- ---- the table

known-id : (o : Option FileRow) → is_known (kept_in o) ≡ true → is_some (id_in o) ≡ true
known-id None known = true-false (sym known)
known-id (Some row) known = by row.kept known
  where
    by : (kept : RowState) → is_known kept ≡ true → is_some (id_by row.file kept) ≡ true
    by Nothing known = true-false (sym known)
    by (Contents bytes) known = refl
    by Excluded known = refl

-- each open document has a number
abbrev pub OpenAreNumbered : SessionFiles → Type 0
OpenAreNumbered files = (path : List ℕ) → is_open path files ≡ true → is_some (file_id_of files.table path) ≡ true

pub runs-numbered : (meaning : Meaning) (settings : ConfigData) (turns : List Turn) (last : State) → Runs meaning (fresh settings) turns last
    → OpenAreNumbered last.files
runs-numbered meaning settings turns last runs =
    let stands : Stands meaning settings turns last = runs-stand meaning settings turns last runs in
    let known : OpenAreKnown (documents_of last.files) =
    subst OpenAreKnown (sym (ap (λ (p : Place). p.documents) stands.place)) (turns-known meaning turns (beginning settings) none-known) in
    λ path held. known-id (map.get last.files.table.rows path) (known path held)
