-- Documents that are edited, and files that a loader brings, leave the world and the documents that are shown.
use Rattle.std.proofs.Common.{◌≡◌, ℕ, ℤ, List, [], ◌∷◌, Bool, true, false, cond, refl, sym, ap, ◌∙◌, ⊎_elim}
use Rattle.std.proofs.lemmas.Bool.{cases_Bool, cond-true, cond-false}
use Rattle.std.specs.Prelude.{◌||◌, bytes_eq, is_some, Option, None, Some, Result, Ok, Err, IfOk, if◌then◌else◌}
use Rattle.std.specs.FinMap as map
use Rattle.std.specs.List.{filter_map}
use Rattle.std.specs.Option.{option_map}
use Rattle.shared_map.specs.AsMap.{set_in_map}
use Rattle.docs_vfs.specs.FileLaws.{IsNumbered}
use Rattle.docs_vfs.specs.Files.{Files, file_id_of, id_by, id_in, is_marked, kept_in, kept_of, set_in}
use Rattle.docs_vfs.specs.Paths.{path_cmp}
use Rattle.docs_vfs.specs.declared.file_kinds.FileExcluded.{FileExcluded}
use Rattle.docs_vfs.specs.declared.file_kinds.FileId.{FileId}
use Rattle.docs_vfs.specs.declared.file_kinds.FileRow.{FileRow}
use Rattle.docs_vfs.specs.declared.file_kinds.RowState.{RowState}
use Rattle.docs_vfs.specs.declared.file_kinds.RowState.TheVariants.{Nothing, Contents, Excluded}
use Rattle.docs_vfs.specs.declared.file_kinds.TableFault.{TableFault}
use Rattle.docs_vfs.proofs.KeptLaws.{set_changes}
use Rattle.docs_vfs.proofs.PutLemmas.{itself, one_path}
use Rattle.text_core.specs.declared.change.ContentChange.{ContentChange}
use Rattle.text_core.specs.declared.position.PositionEncoding.{PositionEncoding}
use Rattle.analysis_host.specs.HostData.{HostData}
use Rattle.session_port.specs.declared.event.LoadedFile.{LoadedFile}
use Rattle.session_port.specs.declared.event.LoaderMsg.{LoaderMsg}
use Rattle.session_port.specs.declared.event.LoaderMsg.TheVariants.{Changed, Loaded, Progress}
use Rattle.session_port.specs.declared.fault.Counter.{Counter}
use Rattle.session_port.specs.TurnState.{and_then}
use Rattle.desk_laws.proofs.Results.{IfOk-and_then, IfOk-weaker}
use Rattle.session_files.specs.Changing.{text_after}
use Rattle.session_files.specs.Current.{IsSound}
use Rattle.session_files.specs.Folds.{after_changed, after_each_changed, after_each_loaded, after_editing, after_loaded, after_loader_message, after_messages}
use Rattle.session_files.specs.Folds.{contents_put, is_open, made_of, table_put, text_edited, text_put, version_put, with_table}
use Rattle.session_files.specs.SessionFiles.{SessionFiles}
use Rattle.session_files.specs.Texts.{holds_text}
use Rattle.session_files.proofs.NumberLemmas.{set_moves}
use Rattle.session_model.specs.Crates.{file_of, loaded_as}
use Rattle.session_model.specs.Diagnosing.{is_local_path, shown_file, subscribed}
use Rattle.session_laws.proofs.Same.{none-some, some-same}
use Rattle.quiet_laws.proofs.Bools.{or-left, then-is, true-false}
use Rattle.quiet_laws.proofs.CalmKeys.{keys-agree, keys-insert}
use Rattle.quiet_laws.proofs.CalmKnown.{OpenAreNumbered, get-off, get-put}

-- the world and the open documents stay, and so does what is known of the paths of the latter
pub record Brings (old new : SessionFiles) : Type 0 where
  pub host : new.host ≡ old.host
  pub keys : map.keys new.versions ≡ map.keys old.versions
  pub opens : (path : List ℕ) → is_open path new ≡ is_open path old
  pub ids : (path : List ℕ) → is_open path old ≡ true → map.get new.ids path ≡ map.get old.ids path

pub brings-same : (old new : SessionFiles) → new.host ≡ old.host → new.versions ≡ old.versions → new.ids ≡ old.ids → Brings old new
brings-same old new host versions ids = record {
  host = host;
  keys = ap (λ (m : map.FinMap path_cmp ℤ). map.keys m) versions;
  opens = λ path. ap (λ (m : map.FinMap path_cmp ℤ). is_some (map.get m path)) versions;
  ids = λ path there. ap (λ (m : map.FinMap path_cmp (FileId × FileExcluded)). map.get m path) ids;
}

pub brings-on : (a b c : SessionFiles) → Brings a b → Brings b c → Brings a c
brings-on a b c x y = record {
  host = y.host ∙ x.host;
  keys = y.keys ∙ x.keys;
  opens = λ path. y.opens path ∙ x.opens path;
  ids = λ path there. y.ids path (x.opens path ∙ there) ∙ x.ids path there;
}

-- the same files are shown
pub same-subscribed : (old new : SessionFiles) → Brings old new → subscribed new ≡ subscribed old
unfolding subscribed
same-subscribed old new brings =
    ap (filter_map (shown_file new)) brings.keys
    ∙ keys-agree (shown_file new) (shown_file old) old.versions (λ path there.
    ap (λ (host : HostData). if is_local_path host.world.roots path then loaded_as new.ids path else None) brings.host
    ∙ ap (λ (o : Option (FileId × FileExcluded)). if is_local_path old.host.world.roots path then file_of o else None) (brings.ids path there))

-- ---- contents of one path

get-set : (m : map.FinMap path_cmp (FileId × FileExcluded)) (path : List ℕ) (e : Option (FileId × FileExcluded)) (q : List ℕ)
    → map.get (set_in_map m path e) q ≡ cond (bytes_eq q path) e (map.get m q)
get-set m path None q = get-off m path q
get-set m path (Some e) q = get-put m path e q

-- what is known of the path stays, or it isn't open
table-brings : (path : List ℕ) (table : Files) (files : SessionFiles)
    → (is_open path files ≡ true → file_id_of table path ≡ map.get files.ids path) → Brings files (with_table path table files)
table-brings path table files same = record {
  host = refl;
  keys = refl;
  opens = λ q. refl;
  ids = λ q there. get-set files.ids path (file_id_of table path) q
      ∙ ⊎_elim
      (λ here. cond-true _ _ _ here ∙ same (ap (λ p. is_open p files) (sym (one_path q path here)) ∙ there)
      ∙ ap (map.get files.ids) (sym (one_path q path here)))
      (λ other. cond-false _ _ _ other)
      (cases_Bool (bytes_eq q path));
}

put-brings : (path : List ℕ) (contents : Option (List ℕ)) (files : SessionFiles) (r : Result (Files × Bool) TableFault) → set_in files.table path contents ≡ r
    → ((table : Files) (changed : Bool) → set_in files.table path contents ≡ Ok (table, changed) → is_open path files ≡ true
    → file_id_of table path ≡ map.get files.ids path)
    → IfOk (table_put path (made_of r) files) (Brings files)
put-brings path contents files (Ok made) is same = table-brings path made.0 files (same made.0 made.1 is)
put-brings path contents files (Err fault) is same = tt

-- a path that isn't open
loose-brings : (path : List ℕ) (contents : Option (List ℕ)) (files : SessionFiles) → is_open path files ≡ false
    → IfOk (contents_put path contents files) (Brings files)
unfolding contents_put
loose-brings path contents files closed =
    put-brings path contents files (set_in files.table path contents) refl (λ table changed is there. true-false (sym there ∙ closed))

-- ---- the loader

brings-none : (files : SessionFiles) → Brings files files
brings-none files = brings-same files files refl refl refl

changed-brings : (file : LoadedFile) (files : SessionFiles) → IfOk (after_changed file files) (Brings files)
unfolding after_changed
changed-brings file files = by (is_open file.path files) refl
  where
    by : (b : Bool) → is_open file.path files ≡ b → IfOk (if b then Ok files else contents_put file.path file.contents files) (Brings files)
    by true is = brings-none files
    by false is = loose-brings file.path file.contents files is

loaded-brings : (file : LoadedFile) (files : SessionFiles) → IfOk (after_loaded file files) (Brings files)
unfolding after_loaded
loaded-brings file files = by (is_open file.path files || is_some (file_id_of files.table file.path)) refl
  where
    by : (b : Bool) → (is_open file.path files || is_some (file_id_of files.table file.path)) ≡ b
        → IfOk (if b then Ok files else contents_put file.path file.contents files) (Brings files)
    by true is = brings-none files
    by false is = loose-brings file.path file.contents files (or-left (is_open file.path files) (is_some (file_id_of files.table file.path)) is)

then-brings : (r : Result SessionFiles Counter) (next : SessionFiles → Result SessionFiles Counter) (files : SessionFiles) → IfOk r (Brings files)
    → ((mid : SessionFiles) → IfOk (next mid) (Brings mid)) → IfOk (and_then r next) (Brings files)
then-brings r next files first rest =
    IfOk-and_then r next (Brings files) (Brings files) first
    (λ mid x. IfOk-weaker (next mid) (Brings mid) (Brings files) (rest mid) (λ now y. brings-on files mid now x y))

each-changed-brings : (list : List LoadedFile) (files : SessionFiles) → IfOk (after_each_changed list files) (Brings files)
unfolding after_each_changed
each-changed-brings [] files = brings-none files
each-changed-brings (file ∷ later) files = then-brings (after_changed file files) (after_each_changed later)
    files (changed-brings file files) (each-changed-brings later)

each-loaded-brings : (list : List LoadedFile) (files : SessionFiles) → IfOk (after_each_loaded list files) (Brings files)
unfolding after_each_loaded
each-loaded-brings [] files = brings-none files
each-loaded-brings (file ∷ later) files = then-brings (after_loaded file files) (after_each_loaded later)
    files (loaded-brings file files) (each-loaded-brings later)

message-brings : (message : LoaderMsg) (files : SessionFiles) → IfOk (after_loader_message message files) (Brings files)
unfolding after_loader_message
message-brings (Changed list) files = each-changed-brings list files
message-brings (Loaded list) files = each-loaded-brings list files
message-brings (Progress total done dir version) files = brings-same files _ refl refl refl

pub messages-bring : (messages : List LoaderMsg) (files : SessionFiles) → IfOk (after_messages messages files) (Brings files)
unfolding after_messages
messages-bring [] files = brings-none files
messages-bring (message ∷ later) files = then-brings (after_loader_message message files) (after_messages later)
    files (message-brings message files) (messages-bring later)

-- ---- edits

-- contents that replace others leave the number
id-by : (now : Option FileRow) (file : FileId) (kept : RowState) (text : List ℕ) → is_some (id_by file kept) ≡ true
    → option_map (λ (row : FileRow). row.file) now ≡ Some file
    → kept_in now ≡ (if is_marked kept then Excluded else kept_of (Some text)) → id_in now ≡ id_by file kept
id-by None file kept text there number is = none-some file number
id-by (Some row) file Nothing text there number is = true-false (sym there)
id-by (Some row) file (Contents bytes) text there number is = λ i. id_by (some-same row.file file number i) (is i)
id-by (Some row) file Excluded text there number is = λ i. id_by (some-same row.file file number i) (is i)

id-same : (old now : Option FileRow) (text : List ℕ) → is_some (id_in old) ≡ true
    → ((file : FileId) → option_map (λ (row : FileRow). row.file) old ≡ Some file → option_map (λ (row : FileRow). row.file) now ≡ Some file)
    → kept_in now ≡ (if is_marked (kept_in old) then Excluded else kept_of (Some text)) → id_in now ≡ id_in old
id-same None now text there number is = true-false (sym there)
id-same (Some row) now text there number is = id-by now row.file row.kept text there (number row.file refl) is

set-same : (t u : Files) (path text : List ℕ) (changed : Bool) → IsNumbered t → set_in t path (Some text) ≡ Ok (u, changed) → is_some (file_id_of t path) ≡ true
    → file_id_of u path ≡ file_id_of t path
set-same t u path text changed numbered is there =
    id-same (map.get t.rows path) (map.get u.rows path) text there ((set_moves t u path (Some text) changed numbered is).kept path)
    ((set_changes t u path (Some text) changed is).kept path ∙ then-is (bytes_eq path path) _ _ (itself path))

contents-bring : (path text : List ℕ) (files : SessionFiles) → IsSound files → is_some (file_id_of files.table path) ≡ true
    → IfOk (contents_put path (Some text) files) (Brings files)
unfolding contents_put
contents-bring path text files sound there =
    put-brings path (Some text) files (set_in files.table path (Some text)) refl
    (λ table changed is opens. set-same files.table table path text changed sound.numbered is there ∙ sym (sound.numbers path))

text-brings : (path text : List ℕ) (files : SessionFiles) → IsSound files → is_some (file_id_of files.table path) ≡ true
    → IfOk (text_edited path text files) (Brings files)
unfolding text_edited
text-brings path text files sound there = by (holds_text (map.get files.texts path) text)
  where
    put : SessionFiles
    put = text_put path text files

    by : (b : Bool) → IfOk (if b then Ok files else contents_put path (Some text) put) (Brings files)
    by true = brings-none files
    by false =
        IfOk-weaker (contents_put path (Some text) put) (Brings put) (Brings files)
        (contents-bring path text put (record { numbered = sound.numbered; numbers = sound.numbers; processed = sound.processed }) there)
        (λ now x. record { host = x.host; keys = x.keys; opens = x.opens; ids = x.ids })

still-open : (path : List ℕ) (version : ℤ) (files : SessionFiles) → is_open path files ≡ true → (q : List ℕ)
    → is_open q (version_put path version files) ≡ is_open q files
still-open path version files there q =
    ap is_some (get-put files.versions path version q)
    ∙ ⊎_elim
    (λ same. ap is_some (cond-true _ _ _ same) ∙ sym (ap (λ p. is_open p files) (one_path q path same) ∙ there))
    (λ other. ap is_some (cond-false _ _ _ other))
    (cases_Bool (bytes_eq q path))

pub editing-brings : (columns : PositionEncoding) (path : List ℕ) (version : ℤ) (changes : List ContentChange) (files : SessionFiles) → IsSound files
    → OpenAreNumbered files → is_open path files ≡ true → IfOk (after_editing columns path version changes files) (Brings files)
unfolding after_editing
editing-brings columns path version changes files sound numbered there =
    let put : SessionFiles = version_put path version files in
    let text : List ℕ = text_after columns changes (map.get files.texts path) in
    IfOk-weaker (text_edited path text put) (Brings put) (Brings files)
    (text-brings path text put (record { numbered = sound.numbered; numbers = sound.numbers; processed = sound.processed }) (numbered path there))
    (λ now x. brings-on files put now
    (record { host = refl; keys = keys-insert files.versions path version there; opens = still-open path version files there; ids = λ q opens. refl }) x)
