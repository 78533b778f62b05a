-- The table of files keeps the paths of its numbers, whatever comes.
use Rattle.std.proofs.Common.{◌≡◌, ℕ, zero, suc, ◌-◌, ℤ, List, [], ◌∷◌, ◌++◌, append-nil, append_assoc, Bool, true, false, refl, sym, ap, ◌∙◌}
use Rattle.std.specs.Prelude.{nat_lt, slice_get, ◌||◌, Option, None, Some, is_some, Result, Ok, Err, IfOk, if◌then◌else◌}
use Rattle.std.specs.FinMap as map
use Rattle.docs_vfs.specs.Files.{Files, file_id_of, is_full, is_marked, kept_at, mark_in, number_in, put_at, put_in, set_in, table_then}
use Rattle.docs_vfs.specs.Files.{with_number}
use Rattle.docs_vfs.specs.declared.file_kinds.ChangedFile.{ChangedFile}
use Rattle.docs_vfs.specs.declared.file_kinds.FileRow.{FileRow}
use Rattle.docs_vfs.specs.declared.file_kinds.RowState.{RowState}
use Rattle.docs_vfs.specs.declared.file_kinds.RowState.TheVariants.{Excluded}
use Rattle.docs_vfs.specs.declared.file_kinds.TableFault.{TableFault}
use Rattle.docs_vfs.specs.declared.file_kinds.TableFault.TheVariants.{Full}
use Rattle.docs_vfs.specs.declared.source_roots.Root.{Root}
use Rattle.text_core.specs.declared.change.ContentChange.{ContentChange}
use Rattle.text_core.specs.declared.position.PositionEncoding.{PositionEncoding}
use Rattle.analysis_host.specs.HostData.{HostData, changed}
use Rattle.analysis_host.specs.declared.host.WorldFault.{WorldFault}
use Rattle.project_model.specs.declared.crates.CrateData.{CrateData}
use Rattle.session_port.specs.TurnState.{TurnState, and_then, logged, ordered}
use Rattle.session_port.specs.declared.command.LogCode.{LogCode}
use Rattle.session_port.specs.declared.command.LogCode.TheVariants.{DuplicateOpen, OrphanClose, SkippedChange, UnexpectedChange}
use Rattle.session_port.specs.declared.event.LoadedFile.{LoadedFile}
use Rattle.session_port.specs.declared.event.LoaderMsg.{LoaderMsg}
use Rattle.session_port.specs.declared.event.LoaderMsg.TheVariants.{Changed, Loaded, Progress}
use Rattle.session_port.specs.declared.fault.Counter.{Counter}
use Rattle.desk_laws.proofs.Results.{IfOk-and_then, IfOk-if, IfOk-weaker}
use Rattle.session_files.specs.Changing.{has_skipped, text_after}
use Rattle.session_files.specs.Folds.{after_changed, after_crates, after_each_changed, after_each_loaded, after_editing, after_loaded}
use Rattle.session_files.specs.Folds.{after_loader_message}
use Rattle.session_files.specs.Folds.{after_messages, after_opening, after_processing, changed_files, contents_put, crates_with, is_excluded_path}
use Rattle.session_files.specs.Folds.{is_open}
use Rattle.session_files.specs.Folds.{made_of, mark_put, table_put, taken_up, text_edited, text_put, version_put, with_changes}
use Rattle.session_files.specs.Folds.{world_change, world_put}
use Rattle.session_files.specs.SessionFiles.{SessionFiles}
use Rattle.session_files.specs.Steps.{become, changed_document, close_noted, closed_document, crates_put, edited_document, loaded, open_noted}
use Rattle.session_files.specs.Steps.{opened_document, processed, skip_noted}
use Rattle.session_files.specs.Texts.{holds_text}
use Rattle.diagnostics_laws.proofs.KeyedBools.{none-some}
use Rattle.diagnostics_laws.proofs.StoringGenerations.{Grows}

-- ---- tables

-- a table with all paths of another one, in their places
pub record Longer (t u : Files) : Type 0 where
  pub first : u.first ≡ t.first
  pub more : List (List ℕ)
  pub paths : u.paths ≡ t.paths ++ more

pub longer-none : (t : Files) → Longer t t
longer-none t = record { first = refl; more = []; paths = sym (append-nil t.paths) }

pub longer-on : (t u v : Files) → Longer t u → Longer u v → Longer t v
longer-on t u v p q = record {
  first = q.first ∙ p.first;
  more = p.more ++ q.more;
  paths = q.paths ∙ ap (λ ps. ps ++ q.more) p.paths ∙ append_assoc t.paths p.more q.more;
}

get-more : (xs ys : List (List ℕ)) (i : ℕ) (path : List ℕ) → slice_get xs i ≡ Some path → slice_get (xs ++ ys) i ≡ Some path
get-more [] ys i path is = none-some path is
get-more (x ∷ xs) ys zero path is = is
get-more (x ∷ xs) ys (suc i) path is = get-more xs ys i path is

at-more : (b : Bool) (xs ys : List (List ℕ)) (i : ℕ) (path : List ℕ) → (if b then None else slice_get xs i) ≡ Some path
    → (if b then None else slice_get (xs ++ ys) i) ≡ Some path
at-more true xs ys i path is = none-some path is
at-more false xs ys i path is = get-more xs ys i path is

abbrev place : ℕ → List (List ℕ) → ℕ → Option (List ℕ)
place first paths n = if nat_lt n first then None else slice_get paths (n - first)

pub longer-grows : (t u : Files) → Longer t u → Grows t u
longer-grows t u h = λ file path is.
    (λ i. place (h.first i) (h.paths i) file.0) ∙ at-more (nat_lt file.0 t.first) t.paths h.more (file.0 - t.first) path is

if-table : {A B : Type 0} (r : Result A TableFault) (next : A → Result B TableFault) (P : A → Type 0) (Q : B → Type 0) → IfOk r P
    → ((x : A) → P x → IfOk (next x) Q) → IfOk (table_then r next) Q
if-table (Ok x) next P Q p q = q x p
if-table (Err e) next P Q p q = tt

number-longer : (t : Files) (path : List ℕ) (o : Option FileRow) → IfOk (number_in t path o) (λ n. Longer t n.0)
number-longer t path (Some row) = longer-none t
number-longer t path None = IfOk-if (is_full t) (Err Full) _ (λ n. Longer t n.0) tt (record { first = refl; more = path ∷ []; paths = refl })

put-longer : (t : Files) (path : List ℕ) (kept : RowState) → IfOk (put_in t path kept) (Longer t)
put-longer t path kept =
    if-table (with_number t path) (λ n. Ok (put_at n.0 n.1 path kept)) (λ n. Longer t n.0) (Longer t) (number-longer t path (map.get t.rows path))
    (λ n h. record { first = h.first; more = h.more; paths = h.paths })

set-longer : (t : Files) (path : List ℕ) (contents : Option (List ℕ)) → IfOk (set_in t path contents) (λ made. Longer t made.0)
set-longer t path contents =
    IfOk-if _ (Ok (t, false)) _ (λ made. Longer t made.0) (longer-none t)
    (if-table (put_in t path _) (λ u. Ok (u, true)) (Longer t) (λ made. Longer t made.0) (put-longer t path _) (λ u h. h))

mark-longer : (t : Files) (path : List ℕ) → IfOk (mark_in t path) (Longer t)
mark-longer t path = IfOk-if (is_marked (kept_at t path)) (Ok t) (put_in t path Excluded) (Longer t) (longer-none t) (put-longer t path Excluded)

-- ---- the files of a session

abbrev pub KeepsPaths : SessionFiles → SessionFiles → Type 0
KeepsPaths files now = Longer files.table now.table

made-keeps : (path : List ℕ) (files : SessionFiles) (r : Result (Files × Bool) TableFault) → IfOk r (λ made. Longer files.table made.0)
    → IfOk (table_put path (made_of r) files) (KeepsPaths files)
made-keeps path files (Ok made) h = h
made-keeps path files (Err fault) h = tt

table-keeps : (path : List ℕ) (files : SessionFiles) (r : Result Files TableFault) → IfOk r (Longer files.table)
    → IfOk (table_put path r files) (KeepsPaths files)
table-keeps path files (Ok table) h = h
table-keeps path files (Err fault) h = tt

contents-keep : (path : List ℕ) (contents : Option (List ℕ)) (files : SessionFiles) → IfOk (contents_put path contents files) (KeepsPaths files)
unfolding contents_put
contents-keep path contents files = made-keeps path files (set_in files.table path contents) (set-longer files.table path contents)

mark-keeps : (path : List ℕ) (files : SessionFiles) → IfOk (mark_put path files) (KeepsPaths files)
unfolding mark_put
mark-keeps path files = table-keeps path files (mark_in files.table path) (mark-longer files.table path)

opening-keeps : (excludes : List (List ℕ)) (path : List ℕ) (version : ℤ) (text : List ℕ) (files : SessionFiles)
    → IfOk (after_opening excludes path version text files) (KeepsPaths files)
unfolding after_opening
opening-keeps excludes path version text files =
    let opened : SessionFiles = text_put path text (version_put path version files) in
    IfOk-if (is_excluded_path excludes path) (mark_put path opened) (contents_put path (Some text) opened) (KeepsPaths files) (mark-keeps path opened)
    (contents-keep path (Some text) opened)

edited-keeps : (path text : List ℕ) (files : SessionFiles) → IfOk (text_edited path text files) (KeepsPaths files)
unfolding text_edited
edited-keeps path text files =
    let put : SessionFiles = text_put path text files in
    IfOk-if (holds_text (map.get files.texts path) text) (Ok files) (contents_put path (Some text) put) (KeepsPaths files) (longer-none files.table)
    (contents-keep path (Some text) put)

editing-keeps : (columns : PositionEncoding) (path : List ℕ) (version : ℤ) (edits : List ContentChange) (files : SessionFiles)
    → IfOk (after_editing columns path version edits files) (KeepsPaths files)
unfolding after_editing
editing-keeps columns path version edits files =
    edited-keeps path (text_after columns edits (map.get files.texts path)) (version_put path version files)

then-keeps : (r : Result SessionFiles Counter) (f : SessionFiles → Result SessionFiles Counter) (files : SessionFiles) → IfOk r (KeepsPaths files)
    → ((mid : SessionFiles) → IfOk (f mid) (KeepsPaths mid)) → IfOk (and_then r f) (KeepsPaths files)
then-keeps r f files first next =
    IfOk-and_then r f (KeepsPaths files) (KeepsPaths files) first
    (λ mid h. IfOk-weaker (f mid) (KeepsPaths mid) (KeepsPaths files) (next mid) (λ now k. longer-on files.table mid.table now.table h k))

changed-keeps : (file : LoadedFile) (files : SessionFiles) → IfOk (after_changed file files) (KeepsPaths files)
unfolding after_changed
changed-keeps file files =
    IfOk-if (is_open file.path files) (Ok files) (contents_put file.path file.contents files) (KeepsPaths files) (longer-none files.table)
    (contents-keep file.path file.contents files)

loaded-keeps : (file : LoadedFile) (files : SessionFiles) → IfOk (after_loaded file files) (KeepsPaths files)
unfolding after_loaded
loaded-keeps file files =
    IfOk-if (is_open file.path files || is_some (file_id_of files.table file.path)) (Ok files) (contents_put file.path file.contents files)
    (KeepsPaths files)
    (longer-none files.table) (contents-keep file.path file.contents files)

each-changed-keeps : (told : List LoadedFile) (files : SessionFiles) → IfOk (after_each_changed told files) (KeepsPaths files)
unfolding after_each_changed
each-changed-keeps [] files = longer-none files.table
each-changed-keeps (file ∷ later) files =
    then-keeps (after_changed file files) (after_each_changed later) files (changed-keeps file files) (each-changed-keeps later)

each-loaded-keeps : (told : List LoadedFile) (files : SessionFiles) → IfOk (after_each_loaded told files) (KeepsPaths files)
unfolding after_each_loaded
each-loaded-keeps [] files = longer-none files.table
each-loaded-keeps (file ∷ later) files =
    then-keeps (after_loaded file files) (after_each_loaded later) files (loaded-keeps file files) (each-loaded-keeps later)

message-keeps : (message : LoaderMsg) (files : SessionFiles) → IfOk (after_loader_message message files) (KeepsPaths files)
unfolding after_loader_message
message-keeps (Changed told) files = each-changed-keeps told files
message-keeps (Loaded told) files = each-loaded-keeps told files
message-keeps (Progress total done dir version) files = longer-none files.table

messages-keep : (messages : List LoaderMsg) (files : SessionFiles) → IfOk (after_messages messages files) (KeepsPaths files)
unfolding after_messages
messages-keep [] files = longer-none files.table
messages-keep (message ∷ later) files =
    then-keeps (after_loader_message message files) (after_messages later) files (message-keeps message files) (messages-keep later)

world-keeps : (r : Result HostData WorldFault) (files : SessionFiles) → IfOk (world_put r files) (KeepsPaths files)
world-keeps (Ok host) files = longer-none files.table
world-keeps (Err fault) files = tt

crates-keep : (roots : List Root) (crates : CrateData) (files : SessionFiles) → IfOk (after_crates roots crates files) (KeepsPaths files)
unfolding after_crates
crates-keep roots crates files = world-keeps (changed (crates_with roots crates) files.host) files

changes-keep : (roots : List Root) (list : List ChangedFile) (files : SessionFiles) → IfOk (with_changes roots list files) (KeepsPaths files)
changes-keep roots [] files = longer-none files.table
changes-keep roots (file ∷ later) files = world-keeps (changed (world_change roots (file ∷ later)) files.host) files

processing-keeps : (roots : List Root) (files : SessionFiles) → IfOk (after_processing roots files) (KeepsPaths files)
unfolding after_processing
processing-keeps roots files =
    IfOk-weaker (with_changes roots (changed_files files) (taken_up files)) (KeepsPaths (taken_up files)) (KeepsPaths files)
    (changes-keep roots (changed_files files) (taken_up files)) (λ now h. record { first = h.first; more = h.more; paths = h.paths })

-- ---- the steps of the files

-- the paths stay, and nothing is written
abbrev pub FilesStep : TurnState SessionFiles → TurnState SessionFiles → Type 0
FilesStep w v = KeepsPaths w.state v.state × (v.out.messages ≡ w.out.messages)

become-step : (r : Result SessionFiles Counter) (w u : TurnState SessionFiles) → IfOk r (KeepsPaths w.state) → u.out.messages ≡ w.out.messages
    → IfOk (become r u) (FilesStep w)
become-step (Ok files) w u h messages = (h, messages)
become-step (Err counter) w u h messages = tt

logged-silent : {S : Type 0} (code : LogCode) (text : List ℕ) (w : TurnState S) → (logged code text w).out.messages ≡ w.out.messages
unfolding logged ordered
logged-silent code text w = refl

noted-if : {S : Type 0} (b : Bool) (code : LogCode) (text : List ℕ) (w : TurnState S)
    → (if b then logged code text w else w).out.messages ≡ w.out.messages
noted-if true code text w = logged-silent code text w
noted-if false code text w = refl

noted-unless : {S : Type 0} (b : Bool) (code : LogCode) (text : List ℕ) (w : TurnState S)
    → (if b then w else logged code text w).out.messages ≡ w.out.messages
noted-unless true code text w = refl
noted-unless false code text w = logged-silent code text w

pub opened-step : (excludes : List (List ℕ)) (path : List ℕ) (version : ℤ) (text : List ℕ) (w : TurnState SessionFiles)
    → IfOk (opened_document excludes path version text w) (FilesStep w)
unfolding opened_document open_noted
opened-step excludes path version text w =
    become-step (after_opening excludes path version text w.state) w _ (opening-keeps excludes path version text w.state)
    (noted-if (is_open path w.state) DuplicateOpen path w)

logged-step : (code : LogCode) (text : List ℕ) (w : TurnState SessionFiles) → FilesStep w (logged code text w)
unfolding logged ordered
logged-step code text w = (longer-none w.state.table, refl)

edited-step : (columns : PositionEncoding) (path : List ℕ) (version : ℤ) (changes : List ContentChange) (w : TurnState SessionFiles)
    → IfOk (edited_document columns path version changes w) (FilesStep w)
unfolding edited_document skip_noted
edited-step columns path version changes w =
    become-step (after_editing columns path version changes w.state) w _ (editing-keeps columns path version changes w.state)
    (noted-if (has_skipped columns changes (map.get w.state.texts path)) SkippedChange path w)

pub changed-step : (columns : PositionEncoding) (path : List ℕ) (version : ℤ) (changes : List ContentChange) (w : TurnState SessionFiles)
    → IfOk (changed_document columns path version changes w) (FilesStep w)
unfolding changed_document
changed-step columns path version changes w =
    IfOk-if (is_open path w.state) (edited_document columns path version changes w) (Ok (logged UnexpectedChange path w)) (FilesStep w)
    (edited-step columns path version changes w) (logged-step UnexpectedChange path w)

pub closed-step : (path : List ℕ) (w : TurnState SessionFiles) → FilesStep w (closed_document path w)
unfolding closed_document close_noted ordered
closed-step path w = (longer-none w.state.table, noted-unless (is_open path w.state) OrphanClose path w)

pub loaded-step : (messages : List LoaderMsg) (w : TurnState SessionFiles) → IfOk (loaded messages w) (FilesStep w)
unfolding loaded
loaded-step messages w = become-step (after_messages messages w.state) w w (messages-keep messages w.state) refl

pub processed-step : (roots : List Root) (w : TurnState SessionFiles) → IfOk (processed roots w) (FilesStep w)
unfolding processed
processed-step roots w = become-step (after_processing roots w.state) w w (processing-keeps roots w.state) refl

pub crates-step : (roots : List Root) (crates : CrateData) (w : TurnState SessionFiles) → IfOk (crates_put roots crates w) (FilesStep w)
unfolding crates_put
crates-step roots crates w = become-step (after_crates roots crates w.state) w w (crates-keep roots crates w.state) refl
