-- What a turn gives of each counter, and where it is refused: a step gives at most so many numbers, or with so many there would be too many.
use Rattle.std.proofs.Common.{◌≡◌, ℕ, ◌+◌, ◌-◌, ◌^◌, ◌≤◌, List, [], ◌∷◌, ◌++◌, length, Bool, true, false, refl, sym, ap, subst, inl, inr, arith, eqb-true}
use Rattle.std.proofs.lemmas.Bool.{leb-true, ltb-false}
use Rattle.std.proofs.lemmas.List.{length-append}
use Rattle.std.specs.FinMap as map
use Rattle.std.specs.Prelude.{◌==◌, ◌||◌, ℤ, Err, if◌then◌else◌, is_some, ltb, None, Ok, Option, Result, Some}
use Rattle.docs_vfs.specs.Files.{Files, table_then as and_then_table, contents_at, file_id_of, is_full, is_marked, kept_at, kept_of, mark_in, next_file}
use Rattle.docs_vfs.specs.Files.{number_in, put_at, put_in, same_contents, set_in}
use Rattle.docs_vfs.specs.declared.file_kinds.ChangedFile.{ChangedFile}
use Rattle.docs_vfs.specs.declared.file_kinds.FileId.{FileId}
use Rattle.docs_vfs.specs.declared.file_kinds.FileRow.{FileRow}
use Rattle.docs_vfs.specs.declared.file_kinds.RowState.{RowState}
use Rattle.docs_vfs.specs.declared.file_kinds.RowState.TheVariants.{Excluded}
use Rattle.docs_vfs.specs.declared.file_kinds.TableFault.{TableFault}
use Rattle.docs_vfs.specs.declared.file_kinds.TableFault.TheVariants.{Full}
use Rattle.docs_vfs.specs.declared.source_roots.Root.{Root}
use Rattle.lsp_frame.specs.Outgoing.{number_limit}
use Rattle.project_model.specs.declared.crates.CrateData.{CrateData}
use Rattle.analysis_host.specs.HostData.{HostData}
use Rattle.analysis_host.specs.SnapshotData.{SnapshotData}
use Rattle.analysis_host.specs.declared.host.WorldFault.TheVariants.{Exhausted}
use Rattle.session_port.specs.TurnState.{TurnState, and_then, ordered, put_back, lifted, written}
use Rattle.session_port.specs.declared.event.LoadedFile.{LoadedFile}
use Rattle.session_port.specs.declared.event.LoaderMsg.{LoaderMsg}
use Rattle.session_port.specs.declared.event.LoaderMsg.TheVariants.{Changed, Loaded, Progress}
use Rattle.session_port.specs.declared.fault.Counter.{Counter}
use Rattle.session_port.specs.declared.fault.Counter.TheVariants as counters
use Rattle.session_port.specs.declared.job.JobKind.{JobKind}
use Rattle.method_table.specs.declared.class.PoolClass.{PoolClass}
use Rattle.client.specs.Client.{Client}
use Rattle.client.specs.Folds.{after_asking}
use Rattle.client.specs.Steps.{asked_for, request_at}
use Rattle.client.specs.declared.handler.ReqHandler.{ReqHandler}
use Rattle.notify.specs.declared.outgo.Outgo.{Outgo}
use Rattle.desk.specs.Desk.{Desk}
use Rattle.desk.specs.Steps.{handed_over}
use Rattle.session_files.specs.Changing.{text_after}
use Rattle.session_files.proofs.SoundLemmas.{taken_none}
use Rattle.session_files.specs.Folds.{after_changed, after_crates, after_each_changed, after_each_loaded, after_editing, after_loaded, after_loader_message}
use Rattle.session_files.specs.Folds.{after_messages, after_opening, after_processing, are_some, changed_files, contents_put, has_changed, is_excluded_path}
use Rattle.session_files.specs.Folds.{is_open}
use Rattle.session_files.specs.Folds.{made_of, mark_put, table_put, taken_up, text_edited, text_put, version_put, with_changes, with_table, world_put}
use Rattle.session_files.specs.SessionFiles.{SessionFiles}
use Rattle.session_files.specs.Steps.{become}
use Rattle.session_files.specs.Texts.{holds_text}
use Rattle.workspaces.specs.Workspaces.{Workspaces}
use Rattle.session_model.specs.Inputs.{files_among, files_brought}
use Rattle.session_model.specs.Machine.{at_client, at_desk, client_in, desk_in, with_client, with_desk, with_files, with_workspaces}
use Rattle.session_model.specs.RunEnds.{AreTooMany, Numbers, given_at}
use Rattle.session_model.specs.State.{State}
use Rattle.session_laws.specs.Invariant.{place_of_state}
use Rattle.session_laws.proofs.Running.{versions_of}
use Rattle.text_core.specs.declared.change.ContentChange.{ContentChange}
use Rattle.text_core.specs.declared.position.PositionEncoding.{PositionEncoding}

-- ---- numbers

abbrev pub none : Numbers
none = record { turns = 0; jobs = 0; requests = 0; revisions = 0; files = 0; versions = 0; settings = 0 }

abbrev pub both : Numbers → Numbers → Numbers
both a b = record {
  turns = a.turns + b.turns;
  jobs = a.jobs + b.jobs;
  requests = a.requests + b.requests;
  revisions = a.revisions + b.revisions;
  files = a.files + b.files;
  versions = a.versions + b.versions;
  settings = a.settings + b.settings;
}

pub record AtMost (a b : Numbers) : Type 0 where
  pub turns : a.turns ≤ b.turns
  pub jobs : a.jobs ≤ b.jobs
  pub requests : a.requests ≤ b.requests
  pub revisions : a.revisions ≤ b.revisions
  pub files : a.files ≤ b.files
  pub versions : a.versions ≤ b.versions
  pub settings : a.settings ≤ b.settings

pub at-most : (a b : Numbers) → a.turns ≤ b.turns → a.jobs ≤ b.jobs → a.requests ≤ b.requests → a.revisions ≤ b.revisions → a.files ≤ b.files
    → a.versions ≤ b.versions → a.settings ≤ b.settings
    → AtMost a b
at-most a b turns jobs requests revisions files versions settings =
    record { turns = turns; jobs = jobs; requests = requests; revisions = revisions; files = files; versions = versions; settings = settings }

-- those that the session gave
abbrev pub given : State → Numbers
given s = given_at (place_of_state s)

abbrev pub files_given : Files → ℕ
files_given table = table.first + length table.paths

-- where these were given, a step gives no more than these, or with these there would be too many
abbrev pub Counts : {X : Type 0} → (X → State) → Numbers → Numbers → Result X Counter → Type 0
Counts of needs before (Ok x) = AtMost (given (of x)) (both before needs)
Counts of needs before (Err counter) = AreTooMany before needs counter

still : (n m : ℕ) → n ≤ n + m
still n m = omega arith

on-then : (n m k a b : ℕ) → m ≤ n + a → k ≤ m + b → k ≤ n + (a + b)
on-then n m k a b p q = omega (arith, p, q)

more : (limit n a b : ℕ) → limit ≤ n + a → a ≤ b → limit ≤ n + b
more limit n a b p q = omega (arith, p, q)

pub none-more : (before needs : Numbers) → AtMost before (both before needs)
none-more before needs =
    at-most _ _ (still before.turns needs.turns) (still before.jobs needs.jobs) (still before.requests needs.requests)
    (still before.revisions needs.revisions) (still before.files needs.files)
    (still before.versions needs.versions) (still before.settings needs.settings)

-- where the numbers stay
pub gives-same : (needs before after : Numbers) → after ≡ before → AtMost after (both before needs)
gives-same needs before after same = subst (λ (n : Numbers). AtMost n (both before needs)) (sym same) (none-more before needs)

pub gives-on : (a b n m k : Numbers) → AtMost m (both n a) → AtMost k (both m b) → AtMost k (both n (both a b))
gives-on a b n m k p q =
    at-most _ _ (on-then n.turns m.turns k.turns a.turns b.turns p.turns q.turns) (on-then n.jobs m.jobs k.jobs a.jobs b.jobs p.jobs q.jobs)
    (on-then n.requests m.requests k.requests a.requests b.requests p.requests q.requests)
    (on-then n.revisions m.revisions k.revisions a.revisions b.revisions p.revisions q.revisions)
    (on-then n.files m.files k.files a.files b.files p.files q.files)
    (on-then n.versions m.versions k.versions a.versions b.versions p.versions q.versions)
    (on-then n.settings m.settings k.settings a.settings b.settings p.settings q.settings)

many-on : (a b n m : Numbers) (counter : Counter) → AtMost m (both n a) → AreTooMany m b counter → AreTooMany n (both a b) counter
many-on a b n m counters.Turns p h = on-then n.turns m.turns (2 ^ 64) a.turns b.turns p.turns h
many-on a b n m counters.Bytes p h = h
many-on a b n m counters.Discoveries p h = h
many-on a b n m counters.Jobs p h = on-then n.jobs m.jobs (2 ^ 64) a.jobs b.jobs p.jobs h
many-on a b n m counters.Revisions p h = on-then n.revisions m.revisions (2 ^ 64) a.revisions b.revisions p.revisions h
many-on a b n m counters.Files p h = on-then n.files m.files (2 ^ 32) a.files b.files p.files h
many-on a b n m counters.Outgoing p h = omega (arith, p.requests, h)
many-on a b n m counters.LoaderSettings p (inl h) = inl (on-then n.versions m.versions (2 ^ 64) a.versions b.versions p.versions h)
many-on a b n m counters.LoaderSettings p (inr h) = inr (on-then n.settings m.settings (2 ^ 32) a.settings b.settings p.settings h)

pub many-more : (a b n : Numbers) (counter : Counter) → AtMost a b → AreTooMany n a counter → AreTooMany n b counter
many-more a b n counters.Turns le h = more (2 ^ 64) n.turns a.turns b.turns h le.turns
many-more a b n counters.Bytes le h = h
many-more a b n counters.Discoveries le h = h
many-more a b n counters.Jobs le h = more (2 ^ 64) n.jobs a.jobs b.jobs h le.jobs
many-more a b n counters.Revisions le h = more (2 ^ 64) n.revisions a.revisions b.revisions h le.revisions
many-more a b n counters.Files le h = more (2 ^ 32) n.files a.files b.files h le.files
many-more a b n counters.Outgoing le h = omega (arith, le.requests, h)
many-more a b n counters.LoaderSettings le (inl h) = inl (more (2 ^ 64) n.versions a.versions b.versions h le.versions)
many-more a b n counters.LoaderSettings le (inr h) = inr (more (2 ^ 32) n.settings a.settings b.settings h le.settings)

-- ---- steps

pub counts-behind : {Y : Type 0} (after : Y → State) (a b n m : Numbers) (r : Result Y Counter) → AtMost m (both n a) → Counts after b m r
    → Counts after (both a b) n r
counts-behind after a b n m (Ok y) p q = gives-on a b n m (given (after y)) p q
counts-behind after a b n m (Err counter) p q = many-on a b n m counter p q

-- one step and then another
pub counts-then : {X Y : Type 0} (of : X → State) (after : Y → State) (a b n : Numbers) (r : Result X Counter) (f : X → Result Y Counter)
    → Counts of a n r → ((x : X) → r ≡ Ok x → Counts after b (given (of x)) (f x)) → Counts after (both a b) n (and_then r f)
counts-then of after a b n (Ok x) f p q = counts-behind after a b n (given (of x)) (f x) p (q x refl)
counts-then of after a b n (Err counter) f p q = many-more a (both a b) n counter (none-more a b) p

pub counts-if : {X : Type 0} (of : X → State) (needs n : Numbers) (b : Bool) (r q : Result X Counter) → Counts of needs n r → Counts of needs n q
    → Counts of needs n (if b then r else q)
counts-if of needs n true r q x y = x
counts-if of needs n false r q x y = y

-- with more it is so too
pub counts-more : {X : Type 0} (of : X → State) (a b n : Numbers) (r : Result X Counter) → AtMost a b → Counts of a n r → Counts of b n r
counts-more of a b n (Ok x) le h =
    let now = given (of x) in
    at-most _ _ (more now.turns n.turns a.turns b.turns h.turns le.turns) (more now.jobs n.jobs a.jobs b.jobs h.jobs le.jobs)
    (more now.requests n.requests a.requests b.requests h.requests le.requests)
    (more now.revisions n.revisions a.revisions b.revisions h.revisions le.revisions) (more now.files n.files a.files b.files h.files le.files)
    (more now.versions n.versions a.versions b.versions h.versions le.versions) (more now.settings n.settings a.settings b.settings h.settings le.settings)
counts-more of a b n (Err counter) le h = many-more a b n counter le h

put-counts : {S P : Type 0} (of : TurnState S → State) (needs n : Numbers) (put : P → S → S) (state : S) (r : Result (TurnState P) Counter)
    → Counts (λ (v : TurnState P). of (record { state = put v.state state; out = v.out })) needs n r → Counts of needs n (put_back put state r)
put-counts of needs n put state (Ok v) h = h
put-counts of needs n put state (Err counter) h = h

-- a step of one part of the state
pub counts-within : {S P : Type 0} (of : TurnState S → State) (needs n : Numbers) (get : S → P) (put : P → S → S) (step : TurnState P → Result (TurnState P) Counter)
    (w : TurnState S)
    → Counts (λ (v : TurnState P). of (record { state = put v.state w.state; out = v.out })) needs n (step (record { state = get w.state; out = w.out }))
    → Counts of needs n (lifted get put step w)
unfolding lifted
counts-within of needs n get put step w h = put-counts of needs n put w.state (step (record { state = get w.state; out = w.out })) h

-- the session after a step
abbrev pub state_at : TurnState State → State
state_at w = w.state

-- files that have changed are to be processed once
abbrev pub pending : SessionFiles → ℕ
pending files = if has_changed files then 1 else 0

-- the session, with the revision that it comes to where the files that have changed are processed
abbrev pub ahead : State → State
ahead s = record s { files = record s.files { host = record s.files.host { revision = s.files.host.revision + pending s.files } } }

abbrev pub state_ahead : TurnState State → State
state_ahead w = ahead w.state

-- those that were given, with that revision
abbrev pub held : State → Numbers
held s = given (ahead s)

-- workspaces that get no version
pub given-workspaces : (s : State) (workspaces : Workspaces) → versions_of workspaces ≡ versions_of s.workspaces
    → given (with_workspaces workspaces s) ≡ given s
given-workspaces s workspaces same = ap (λ (versions : ℕ × ℕ). record (given s) { versions = versions.0; settings = versions.1 }) same

-- workspaces that get these
pub gives-versions : (s : State) (workspaces : Workspaces) → workspaces.version ≤ s.workspaces.version + 1
    → workspaces.loader_version ≤ s.workspaces.loader_version + 1
    → AtMost (given (with_workspaces workspaces s)) (both (given s) (record none { versions = 1; settings = 1 }))
gives-versions s workspaces version settings =
    at-most _ _ (still s.desk.turns 0) (still s.desk.last_job 0) (still s.client.asked.given 0) (still s.files.host.revision 0)
    (still (files_given s.files.table) 0) version settings

-- ---- requests of the session's own

abbrev pub requests : ℕ → Numbers
requests n = record none { requests = n }

gives-requests : (s : State) (client : Client) (n : ℕ) → client.asked.given ≤ s.client.asked.given + n
    → AtMost (given (with_client client s)) (both (given s) (requests n))
gives-requests s client n le =
    at-most _ _ (still s.desk.turns 0) (still s.desk.last_job 0) le (still s.files.host.revision 0) (still (files_given s.files.table) 0)
    (still s.workspaces.version 0)
    (still s.workspaces.loader_version 0)

pub asked-cases : (message : Outgo) (handler : ReqHandler) (s : State) (w : TurnState Client) (b : Bool) → w.state ≡ s.client
    → (w.state.asked.given == number_limit) ≡ b
    → Counts (λ (v : TurnState Client). with_client v.state s) (requests 1) (given s)
    (if b then Err counters.Outgoing else Ok (written (request_at w.state.asked.given message) (record w { state = after_asking handler w.state })))
unfolding written
asked-cases message handler s w true its all =
    let is = eqb-true _ _ all in let same = ap (λ (c : Client). c.asked.given) its in omega (arith, is, same)
asked-cases message handler s w false its some =
    let same = ap (λ (c : Client). c.asked.given) its in gives-requests s (after_asking handler w.state) 1 (omega (arith, same))

pub request-counts : (message : Outgo) (handler : ReqHandler) (w : TurnState State)
    → Counts state_ahead (requests 1) (held w.state) (at_client (asked_for message handler) w)
unfolding asked_for
request-counts message handler w =
    counts-within state_ahead (requests 1) (held w.state) client_in with_client (asked_for message handler) w
    (asked-cases message handler (ahead w.state) (record { state = w.state.client; out = w.out }) (w.state.client.asked.given == number_limit) refl refl)

-- ---- the turn's number, and jobs

abbrev pub turns : ℕ → Numbers
turns n = record none { turns = n }

abbrev pub jobs : ℕ → Numbers
jobs n = record none { jobs = n }

pub gives-desk : (needs : Numbers) (s : State) (desk : Desk) → desk.turns ≤ s.desk.turns + needs.turns → desk.last_job ≤ s.desk.last_job + needs.jobs
    → AtMost (given (with_desk desk s)) (both (given s) needs)
gives-desk needs s desk turns jobs =
    at-most _ _ turns jobs (still s.client.asked.given needs.requests) (still s.files.host.revision needs.revisions)
    (still (files_given s.files.table) needs.files)
    (still s.workspaces.version needs.versions) (still s.workspaces.loader_version needs.settings)

pub next-counts : {Y : Type 0} (of : Y → State) (needs before : Numbers) (n : ℕ) (counter : Counter) (f : ℕ → Y) (b : Bool) → ltb n (2 ^ 64 - 1) ≡ b
    → AtMost (given (of (f (n + 1)))) (both before needs)
    → (2 ^ 64 - 1 ≤ n → AreTooMany before needs counter) → Counts of needs before (and_then (if b then Ok (n + 1) else Err counter) (λ m. Ok (f m)))
next-counts of needs before n counter f true is gives short = gives
next-counts of needs before n counter f false is gives short = short (ltb-false n (2 ^ 64 - 1) is)

pub job-counts : (snapshot : SnapshotData) (class : PoolClass) (kind : JobKind) (w : TurnState State)
    → Counts state_ahead (jobs 1) (held w.state) (at_desk (handed_over snapshot class kind) w)
unfolding ordered
job-counts snapshot class kind w =
    counts-within state_ahead (jobs 1) (held w.state) desk_in with_desk (handed_over snapshot class kind) w
    (next-counts (λ (v : TurnState Desk). with_desk v.state (ahead w.state)) (jobs 1) (held w.state) w.state.desk.last_job counters.Jobs _
    (ltb w.state.desk.last_job (2 ^ 64 - 1)) refl
    (gives-desk (jobs 1) (ahead w.state) (record w.state.desk { last_job = w.state.desk.last_job + 1 }) (omega arith) (omega arith)) (λ last. omega (arith, last)))

-- ---- the numbers of files

abbrev pub files : ℕ → Numbers
files n = record none { files = n }

-- files that come to this, where the session was this
abbrev pub CountsFiles : ℕ → State → Result SessionFiles Counter → Type 0
CountsFiles n s r = Counts (λ (now : SessionFiles). with_files now s) (files n) (given s) r

gives-files : (s : State) (now : SessionFiles) (n m : ℕ) → files_given now.table ≤ files_given s.files.table + n → now.host.revision ≤ s.files.host.revision + m
    → AtMost (given (with_files now s)) (both (given s) (record none { files = n; revisions = m }))
gives-files s now n m files revisions =
    at-most _ _ (still s.desk.turns 0) (still s.desk.last_job 0) (still s.client.asked.given 0) revisions files
    (still s.workspaces.version 0) (still s.workspaces.loader_version 0)

abbrev TableGives : {X : Type 0} → (X → Files) → Files → Result X TableFault → Type 0
TableGives of table (Ok made) = files_given (of made) ≤ files_given table + 1
TableGives of table (Err fault) = 2 ^ 32 ≤ files_given table + 1

full-cases : (table : Files) (path : List ℕ) (b : Bool) → is_full table ≡ b
    → TableGives (λ (made : Files × FileId). made.0) table (if b then Err Full else Ok (record table { paths = table.paths ++ path ∷ [] }, next_file table))
full-cases table path true is = let last = leb-true 4294967295 (files_given table) is in omega (arith, last)
full-cases table path false is = omega (arith, length-append table.paths (path ∷ []))

number-gives : (table : Files) (path : List ℕ) (row : Option FileRow) → TableGives (λ (made : Files × FileId). made.0) table (number_in table path row)
number-gives table path (Some row) = omega arith
number-gives table path None = full-cases table path (is_full table) refl

put-at-gives : (table : Files) (path : List ℕ) (kept : RowState) (r : Result (Files × FileId) TableFault)
    → TableGives (λ (made : Files × FileId). made.0) table r
    → TableGives (λ (made : Files). made) table (and_then_table r (λ n. Ok (put_at n.0 n.1 path kept)))
put-at-gives table path kept (Ok made) h = h
put-at-gives table path kept (Err fault) h = h

put-gives : (table : Files) (path : List ℕ) (kept : RowState) → TableGives (λ (made : Files). made) table (put_in table path kept)
put-gives table path kept = put-at-gives table path kept (number_in table path (map.get table.rows path)) (number-gives table path (map.get table.rows path))

set-cases : (table : Files) (b : Bool) (r : Result Files TableFault) → TableGives (λ (made : Files). made) table r
    → TableGives (λ (made : Files). made) table (made_of (if b then Ok (table, false) else and_then_table r (λ u. Ok (u, true))))
set-cases table true r h = omega arith
set-cases table false (Ok made) h = h
set-cases table false (Err fault) h = h

mark-cases : (table : Files) (b : Bool) (r : Result Files TableFault) → TableGives (λ (made : Files). made) table r
    → TableGives (λ (made : Files). made) table (if b then Ok table else r)
mark-cases table true r h = omega arith
mark-cases table false r h = h

table-counts : (path : List ℕ) (s : State) (r : Result Files TableFault) → TableGives (λ (made : Files). made) s.files.table r
    → CountsFiles 1 s (table_put path r s.files)
table-counts path s (Ok table) h = gives-files s (with_table path table s.files) 1 0 h (still s.files.host.revision 0)
table-counts path s (Err fault) h = h

contents-count : (path : List ℕ) (contents : Option (List ℕ)) (s : State) → CountsFiles 1 s (contents_put path contents s.files)
unfolding contents_put
contents-count path contents s =
    let table = s.files.table in
    table-counts path s (made_of (set_in table path contents))
    (set-cases table (is_marked (kept_at table path) || same_contents (contents_at table path) contents) (put_in table path (kept_of contents))
    (put-gives table path (kept_of contents)))

mark-counts : (path : List ℕ) (s : State) → CountsFiles 1 s (mark_put path s.files)
unfolding mark_put
mark-counts path s =
    table-counts path s (mark_in s.files.table path) (mark-cases s.files.table (is_marked (kept_at s.files.table path)) (put_in s.files.table path Excluded)
    (put-gives s.files.table path Excluded))

same-files : (n : ℕ) (s : State) → CountsFiles n s (Ok s.files)
same-files n s = gives-same (files n) (given s) (given s) refl

files-if : (n : ℕ) (s : State) (b : Bool) (r q : Result SessionFiles Counter) → CountsFiles n s r → CountsFiles n s q → CountsFiles n s (if b then r else q)
files-if n s b r q x y = counts-if (λ (now : SessionFiles). with_files now s) (files n) (given s) b r q x y

pub opening-counts : (excludes : List (List ℕ)) (path : List ℕ) (version : ℤ) (text : List ℕ) (s : State)
    → CountsFiles 1 s (after_opening excludes path version text s.files)
unfolding after_opening
opening-counts excludes path version text s =
    let opened : State = with_files (text_put path text (version_put path version s.files)) s in
    files-if 1 s (is_excluded_path excludes path) (mark_put path opened.files) (contents_put path (Some text) opened.files) (mark-counts path opened)
    (contents-count path (Some text) opened)

text-counts : (path text : List ℕ) (s : State) → CountsFiles 1 s (text_edited path text s.files)
unfolding text_edited
text-counts path text s =
    let edited : State = with_files (text_put path text s.files) s in
    files-if 1 s (holds_text (map.get s.files.texts path) text) (Ok s.files) (contents_put path (Some text) edited.files) (same-files 1 s)
    (contents-count path (Some text) edited)

pub editing-counts : (columns : PositionEncoding) (path : List ℕ) (version : ℤ) (edits : List ContentChange) (s : State)
    → CountsFiles 1 s (after_editing columns path version edits s.files)
unfolding after_editing
editing-counts columns path version edits s =
    text-counts path (text_after columns edits (map.get s.files.texts path)) (with_files (version_put path version s.files) s)

-- ---- what a loader brings

changed-counts : (file : LoadedFile) (s : State) → CountsFiles 1 s (after_changed file s.files)
unfolding after_changed
changed-counts file s =
    files-if 1 s (is_open file.path s.files) (Ok s.files) (contents_put file.path file.contents s.files) (same-files 1 s)
    (contents-count file.path file.contents s)

loaded-counts : (file : LoadedFile) (s : State) → CountsFiles 1 s (after_loaded file s.files)
unfolding after_loaded
loaded-counts file s =
    files-if 1 s (is_open file.path s.files || is_some (file_id_of s.files.table file.path)) (Ok s.files) (contents_put file.path file.contents s.files)
    (same-files 1 s)
    (contents-count file.path file.contents s)

-- as many as two are
files-then : (n m all : ℕ) (s : State) (r : Result SessionFiles Counter) (f : SessionFiles → Result SessionFiles Counter) → n + m ≡ all → CountsFiles n s r
    → ((now : SessionFiles) → CountsFiles m (with_files now s) (f now)) → CountsFiles all s (and_then r f)
files-then n m all s r f sum p q =
    subst (λ k. CountsFiles k s (and_then r f)) sum
    (counts-then (λ (now : SessionFiles). with_files now s) (λ (now : SessionFiles). with_files now s) (files n) (files m) (given s) r f p (λ now is. q now))

each-changed : (list : List LoadedFile) (s : State) → CountsFiles (length list) s (after_each_changed list s.files)
unfolding after_each_changed
each-changed [] s = same-files 0 s
each-changed (file ∷ later) s =
    files-then 1 (length later) (length (file ∷ later)) s (after_changed file s.files) (after_each_changed later) (omega arith) (changed-counts file s)
    (λ now. each-changed later (with_files now s))

each-loaded : (list : List LoadedFile) (s : State) → CountsFiles (length list) s (after_each_loaded list s.files)
unfolding after_each_loaded
each-loaded [] s = same-files 0 s
each-loaded (file ∷ later) s =
    files-then 1 (length later) (length (file ∷ later)) s (after_loaded file s.files) (after_each_loaded later) (omega arith) (loaded-counts file s)
    (λ now. each-loaded later (with_files now s))

message-counts : (message : LoaderMsg) (s : State) → CountsFiles (files_brought message) s (after_loader_message message s.files)
unfolding after_loader_message
message-counts (Changed list) s = each-changed list s
message-counts (Loaded list) s = each-loaded list s
message-counts (Progress total done dir version) s = gives-same (files 0) (given s) (given s) refl

pub messages-count : (messages : List LoaderMsg) (s : State) → CountsFiles (files_among messages) s (after_messages messages s.files)
unfolding after_messages
messages-count [] s = same-files 0 s
messages-count (message ∷ later) s =
    files-then (files_brought message) (files_among later) (files_among (message ∷ later)) s (after_loader_message message s.files) (after_messages later) refl
    (message-counts message s)
    (λ now. messages-count later (with_files now s))

-- ---- revisions

abbrev pub revisions : ℕ → Numbers
revisions n = record none { revisions = n }

-- the session with these files, and with the revision that it comes to
abbrev pub files_ahead : State → SessionFiles → State
files_ahead s files = ahead (with_files files s)

-- one revision more, and these files are to be processed then
world-counts : (s : State) (host : HostData) (now : SessionFiles) (n : ℕ) (b : Bool) → ltb s.files.host.revision (2 ^ 64 - 1) ≡ b
    → host.revision ≡ s.files.host.revision + 1
    → files_given now.table ≡ files_given s.files.table → pending now + 1 ≤ pending s.files + n
    → Counts (files_ahead s) (revisions n) (held s) (world_put (if b then Ok host else Err Exhausted) now)
world-counts s host now n true is once table few =
    at-most _ _ (still s.desk.turns 0) (still s.desk.last_job 0) (still s.client.asked.given 0) (omega (arith, once, few)) (omega (arith, table))
    (still s.workspaces.version 0) (still s.workspaces.loader_version 0)
world-counts s host now n false is once table few = let last = ltb-false s.files.host.revision (2 ^ 64 - 1) is in omega (arith, last, few)

-- nothing is left to be processed
none-pending : (files : SessionFiles) → pending (taken_up files) ≡ 0
none-pending files = ap (λ (list : List ChangedFile). if are_some list then 1 else 0) (taken_none (taken_up files) refl)

list-counts : (roots : List Root) (list : List ChangedFile) (s : State) → changed_files s.files ≡ list
    → Counts (files_ahead s) none (held s) (with_changes roots list (taken_up s.files))
list-counts roots [] s is =
    let left : pending (taken_up s.files) ≡ 0 = none-pending s.files in
    at-most _ _ (still s.desk.turns 0) (still s.desk.last_job 0) (still s.client.asked.given 0) (omega (arith, left)) (still (files_given s.files.table) 0)
    (still s.workspaces.version 0) (still s.workspaces.loader_version 0)
list-counts roots (file ∷ later) s is =
    let left : pending (taken_up s.files) ≡ 0 = none-pending s.files in
    let some : pending s.files ≡ 1 = ap (λ (list : List ChangedFile). if are_some list then 1 else 0) is in
    world-counts s _ (taken_up s.files) 0 (ltb s.files.host.revision (2 ^ 64 - 1)) refl refl refl (omega (arith, left, some))

-- files that are processed give the revision that was to come
pub processing-counts : (roots : List Root) (s : State) → Counts (files_ahead s) none (held s) (after_processing roots s.files)
unfolding after_processing
processing-counts roots s = list-counts roots (changed_files s.files) s refl

pub crates-count : (roots : List Root) (crates : CrateData) (s : State) → Counts (files_ahead s) (revisions 1) (held s) (after_crates roots crates s.files)
unfolding after_crates
crates-count roots crates s = world-counts s _ s.files 1 (ltb s.files.host.revision (2 ^ 64 - 1)) refl refl refl (omega arith)

-- files that come to this, as a step of them
pub become-counts : (of : SessionFiles → State) (needs before : Numbers) (r : Result SessionFiles Counter) (w : TurnState SessionFiles)
    → Counts of needs before r → Counts (λ (v : TurnState SessionFiles). of v.state) needs before (become r w)
become-counts of needs before (Ok now) w h = h
become-counts of needs before (Err counter) w h = h
