-- What is written for a message has no float and nests little deeper than the values in it, and so a message can carry it.
use Rattle.std.proofs.Common.{◌≡◌, ℕ, ℤ, pos, negsuc, suc, ◌≤◌, Bool, true, false, not, ◌||◌, List, [], ◌∷◌, map, Option, None, Some, refl, sym, arith}
use Rattle.std.specs.Prelude.{nat_le, codes, All}
use Rattle.std.specs.Cmp.Lexicographic.{slice_cmp}
use Rattle.std.specs.Ordering.{nat_cmp, match_ordering}
use Rattle.std.specs.declared.cmp.Ordering.{Ordering}
use Rattle.std.specs.declared.cmp.Ordering.TheVariants.{Less, Equal, Greater}
use Rattle.std.proofs.lemmas.Bool.{and_parts, leb-true, true≢false}
use Rattle.plain.specs.Plain.{is_plain, most_levels}
use Rattle.serde_json.specs.Data.{Data, null, boolean, string, object, Members, no_members, member, put, depth, items_depth, members_depth}
use Rattle.serde_json.specs.View.{items_of}
use Rattle.serde_json.specs.Written.{has_float, items_have_float, members_have_float}
use Rattle.lsp_frame.specs.Written.{IsWritable, value_depth}
use Rattle.lsp_types.specs.Values.{put_some, watcher_value}
use Rattle.lsp_types.specs.declared.watcher.Watcher.{Watcher}
use Rattle.lsp_types.specs.declared.watcher.Watcher.TheVariants.{Relative, Text}
use Rattle.notify.specs.Objects.{one, with_text, list, optional_text, optional_number}
use Rattle.notify.specs.Progressing.{work_members, progress_value, progress_params}
use Rattle.notify.specs.Publishing.{publish_params, version_value}
use Rattle.notify.specs.Registering.{registering, registration, patterns, save_options, watch_options}
use Rattle.notify.specs.Showing.{message_members, asking_members, status_params}
use Rattle.notify.specs.Testing.{discovered_params, report_value, test_state}
use Rattle.notify.specs.Writing.{outgo_body, HoldsPlain}
use Rattle.lsp_types.specs.declared.diagnostic.Diagnostic.{Diagnostic}
use Rattle.lsp_types.specs.Shallow.{diagnostic_shallow, list_plain}
use Rattle.lsp_types.specs.Values.{diagnostic_value, list_value}
use Rattle.notify.specs.declared.outgo.MessageKind.{MessageKind}
use Rattle.notify.specs.declared.outgo.Outgo.{Outgo}
use Rattle.notify.specs.declared.outgo.Outgo.TheVariants.{RegisterSave, RegisterWatch, SemanticTokensRefresh, CodeLensRefresh, InlayHintRefresh, DiagnosticRefresh, CreateProgress, Progress, Configuration, ShowMessage, ShowMessageRequest, ServerStatus, Publish, OpenLogs, DiscoveredTests, TestState, EndRunTest, AppendOutput}
use Rattle.notify.specs.declared.outgo.ProgressValue.{ProgressValue}
use Rattle.notify.specs.declared.outgo.ProgressValue.TheVariants.{Begin, Report, End}
use Rattle.notify.specs.declared.outgo.TestReport.{TestReport}
use Rattle.notify.specs.declared.outgo.TestReport.TheVariants.{Started, Skipped, Passed, Failed}

-- ---- objects and lists of small values are small

neither : (a b : Bool) → a ≡ false → b ≡ false → (a || b) ≡ false
neither false false p q = refl
neither true b p q = absurd (true≢false p)
neither false true p q = absurd (true≢false q)

left_false : (a b : Bool) → (a || b) ≡ false → a ≡ false
left_false true b e = absurd (true≢false e)
left_false false b e = refl

right_false : (a b : Bool) → (a || b) ≡ false → b ≡ false
right_false true b e = absurd (true≢false e)
right_false false b e = e

-- no float, and at most so many levels
record Small (n : ℕ) (d : Data) : Type 0 where
  pub no_float : has_float d ≡ false
  pub levels : depth d ≤ n

record SmallMembers (n : ℕ) (ms : Members) : Type 0 where
  pub no_float : members_have_float ms ≡ false
  pub levels : members_depth ms ≤ n

with_member : (n : ℕ) (k : List ℕ) (d : Data) (ms : Members) → Small n d → SmallMembers n ms → SmallMembers n (member k d ms)
with_member n k d ms small more = record {
  no_float = neither (has_float d) (members_have_float ms) small.no_float more.no_float;
  levels = omega (arith, small.levels, more.levels);
}

of_rest : (n : ℕ) (k : List ℕ) (d : Data) (ms : Members) → SmallMembers n (member k d ms) → SmallMembers n ms
of_rest n k d ms all = record {
  no_float = right_false (has_float d) (members_have_float ms) all.no_float;
  levels = omega (arith, all.levels);
}

of_first : (n : ℕ) (k : List ℕ) (d : Data) (ms : Members) → SmallMembers n (member k d ms) → Small n d
of_first n k d ms all = record {
  no_float = left_false (has_float d) (members_have_float ms) all.no_float;
  levels = omega (arith, all.levels);
}

in_either_order : (n : ℕ) (r : Ordering) (a b c : Members) → SmallMembers n a → SmallMembers n b → SmallMembers n c
    → SmallMembers n (match_ordering r a b c)
in_either_order n Less a b c p q s = p
in_either_order n Equal a b c p q s = q
in_either_order n Greater a b c p q s = s

with_put : (n : ℕ) (k : List ℕ) (d : Data) (ms : Members) → Small n d → SmallMembers n ms → SmallMembers n (put k d ms)
with_put n k d no_members small more = with_member n k d no_members small more
with_put n k d (member l e ms) small more =
    let rest = of_rest n l e ms more in
    in_either_order n (slice_cmp nat_cmp k l) _ _ _
    (with_member n k d (member l e ms) small more) (with_member n l d ms small rest)
    (with_member n l e (put k d ms) (of_first n l e ms more) (with_put n k d ms small rest))

abbrev SmallOption : ℕ → Option Data → Type 0
SmallOption n None = Unit {0}
SmallOption n (Some d) = Small n d

with_some : (n : ℕ) (k : List ℕ) (d : Option Data) (ms : Members) → SmallOption n d → SmallMembers n ms → SmallMembers n (put_some k d ms)
with_some n k None ms small more = more
with_some n k (Some d) ms small more = with_put n k d ms small more

none_in : (n : ℕ) → SmallMembers n no_members
none_in n = record { no_float = refl; levels = omega arith }

in_object : (n : ℕ) (ms : Members) → SmallMembers n ms → Small (suc n) (object ms)
in_object n ms small = record { no_float = small.no_float; levels = omega (arith, small.levels) }

wider : (m n : ℕ) (d : Data) → m ≤ n → Small m d → Small n d
wider m n d within small = record { no_float = small.no_float; levels = omega (arith, within, small.levels) }

text_small : (n : ℕ) (text : List ℕ) → Small n (string text)
text_small n text = record { no_float = refl; levels = omega arith }

text_option : (n : ℕ) (text : Option (List ℕ)) → SmallOption n (optional_text text)
text_option n None = tt
text_option n (Some text) = text_small n text

number_option : (n : ℕ) (number : Option ℕ) → SmallOption n (optional_number number)
number_option n None = tt
number_option n (Some number) = record { no_float = refl; levels = omega arith }

one_small : (n : ℕ) (k : List ℕ) (d : Data) → Small n d → Small (suc n) (one k d)
one_small n k d small = in_object n _ (with_put n k d no_members small (none_in n))

with_text_small : (n : ℕ) (k text : List ℕ) → Small (suc n) (with_text k text)
with_text_small n k text = one_small n k (string text) (text_small n text)

-- a list of which each item is small
abbrev Each : {X : Type 0} → (X → Type 0) → List X → Type 0
Each P [] = Unit {0}
Each P (x ∷ xs) = P x × Each P xs

items_no_float : (n : ℕ) (ds : List Data) → Each (Small n) ds → items_have_float (items_of ds) ≡ false
items_no_float n [] h = refl
items_no_float n (d ∷ ds) h = neither (has_float d) (items_have_float (items_of ds)) h.0.no_float (items_no_float n ds h.1)

items_levels : (n : ℕ) (ds : List Data) → Each (Small n) ds → items_depth (items_of ds) ≤ n
items_levels n [] h = omega arith
items_levels n (d ∷ ds) h = omega (arith, h.0.levels, items_levels n ds h.1)

in_list : (n : ℕ) (ds : List Data) → Each (Small n) ds → Small (suc n) (list ds)
in_list n ds h = record { no_float = items_no_float n ds h; levels = omega (arith, items_levels n ds h) }

each_made : {X : Type 0} (n : ℕ) (value : X → Data) → ((x : X) → Small n (value x)) → (xs : List X) → Each (Small n) (map value xs)
each_made n value each [] = tt
each_made n value each (x ∷ xs) = (each x, each_made n value each xs)

-- ---- registrations

registering_small : (n : ℕ) (method : List ℕ) (options : Data) → Small n options → Small (suc (suc (suc n))) (registering method options)
registering_small n method options small =
    let ms = with_put n (codes "registerOptions") options _ small (with_put n (codes "method") (string method) _ (text_small n method)
    (with_put n (codes "id") (string method) no_members (text_small n method) (none_in n))) in
    one_small (suc (suc n)) (codes "registrations") (list (registration method options ∷ []))
    (in_list (suc n) (registration method options ∷ []) (in_object n _ ms, tt))

save_small : (files : List (List ℕ)) → Small 3 (save_options files)
save_small files =
    let filters = in_list 1 (map (with_text (codes "pattern")) (patterns files)) (each_made 1 (with_text (codes "pattern")) (with_text_small 0 (codes "pattern")) (patterns files)) in
    in_object 2 _ (with_put 2 (codes "includeText") (boolean false) _ (record { no_float = refl; levels = omega arith })
    (with_put 2 (codes "documentSelector") (list (map (with_text (codes "pattern")) (patterns files))) no_members filters (none_in 2)))

watcher_small : (watcher : Watcher) → Small 2 (watcher_value watcher)
watcher_small (Relative base pattern) =
    one_small 1 (codes "globPattern") _ (in_object 0 _ (with_put 0 (codes "pattern") (string pattern) _ (text_small 0 pattern)
    (with_put 0 (codes "baseUri") (string base) no_members (text_small 0 base) (none_in 0))))
watcher_small (Text pattern) = with_text_small 1 (codes "globPattern") pattern

watch_small : (watchers : List Watcher) → Small 4 (watch_options watchers)
watch_small watchers =
    one_small 3 (codes "watchers") (list (map watcher_value watchers)) (in_list 2 (map watcher_value watchers) (each_made 2 watcher_value watcher_small watchers))

-- ---- progress

work_small : (kind : List ℕ) (cancellable : Bool) (message : Option (List ℕ)) (percentage : Option ℕ) → SmallMembers 0 (work_members kind cancellable message percentage)
work_small kind cancellable message percentage =
    with_some 0 (codes "percentage") (optional_number percentage) _ (number_option 0 percentage)
    (with_some 0 (codes "message") (optional_text message) _ (text_option 0 message)
    (with_put 0 (codes "kind") (string kind) _ (text_small 0 kind)
    (with_put 0 (codes "cancellable") (boolean cancellable) no_members (record { no_float = refl; levels = omega arith }) (none_in 0))))

value_small : (value : ProgressValue) → Small 1 (progress_value value)
value_small (Begin cancellable message percentage title) =
    in_object 0 _ (with_put 0 (codes "title") (string title) _ (text_small 0 title) (work_small (codes "begin") cancellable message percentage))
value_small (Report cancellable message percentage) = in_object 0 _ (work_small (codes "report") cancellable message percentage)
value_small (End message) =
    in_object 0 _ (with_some 0 (codes "message") (optional_text message) _ (text_option 0 message)
    (with_put 0 (codes "kind") (string (codes "end")) no_members (text_small 0 _) (none_in 0)))

progress_small : (token : List ℕ) (value : ProgressValue) → Small 2 (progress_params token value)
progress_small token value =
    in_object 1 _ (with_put 1 (codes "value") (progress_value value) _ (value_small value)
    (with_put 1 (codes "token") (string token) no_members (text_small 1 token) (none_in 1)))

-- ---- what is shown

message_small : (n : ℕ) (message : List ℕ) (kind : MessageKind) → SmallMembers n (message_members message kind)
message_small n message kind =
    with_put n (codes "type") _ _ (record { no_float = refl; levels = omega arith })
    (with_put n (codes "message") (string message) no_members (text_small n message) (none_in n))

asking_small : (message : List ℕ) (kind : MessageKind) → SmallMembers 2 (asking_members message kind)
asking_small message kind =
    with_put 2 (codes "actions") (list (with_text (codes "title") (codes "Open server logs") ∷ [])) _ (in_list 1 (with_text (codes "title") (codes "Open server logs") ∷ []) (with_text_small 0 _ _, tt)) (message_small 2 message kind)

status_small : (health : List ℕ) (message : Option (List ℕ)) (quiescent : Bool) → Small 1 (status_params health message quiescent)
status_small health message quiescent =
    in_object 0 _ (with_put 0 (codes "quiescent") (boolean quiescent) _ (record { no_float = refl; levels = omega arith })
    (with_some 0 (codes "message") (optional_text message) _ (text_option 0 message)
    (with_put 0 (codes "health") (string health) no_members (text_small 0 health) (none_in 0))))

-- ---- tests

not_true : (b : Bool) → not b ≡ true → b ≡ false
not_true true e = sym e
not_true false e = refl

plain_small : (d : Data) → is_plain d ≡ true → Small 120 d
unfolding most_levels
plain_small d plain =
    let parts = and_parts (not (has_float d)) (nat_le (depth d) 120) plain in
    record { no_float = not_true (has_float d) parts.0; levels = leb-true _ _ parts.1 }

each_plain : (tests : List Data) → All (λ test. is_plain test ≡ true) tests → Each (Small 120) tests
each_plain [] h = tt
each_plain (test ∷ tests) h =
    (plain_small test (h 0 test (omega arith)), each_plain tests (λ k d less. h (suc k) d (omega (arith, less))))

discovered_small : (uris : List (List ℕ)) (tests : List Data) → All (λ test. is_plain test ≡ true) tests → Small 122 (discovered_params uris tests)
discovered_small uris tests plain =
    let files = in_list 1 (map (with_text (codes "uri")) uris) (each_made 1 (with_text (codes "uri")) (with_text_small 0 (codes "uri")) uris) in
    in_object 121 _ (with_put 121 (codes "tests") (list tests) _ (in_list 120 tests (each_plain tests plain))
    (with_put 121 (codes "scopeFile") (list (map (with_text (codes "uri")) uris)) _ (wider 2 121 _ (omega arith) files)
    (with_put 121 (codes "scope") null no_members (record { no_float = refl; levels = omega arith }) (none_in 121))))

report_small : (report : TestReport) → Small 1 (report_value report)
report_small Started = with_text_small 0 _ _
report_small Skipped = with_text_small 0 _ _
report_small Passed = with_text_small 0 _ _
report_small (Failed message) =
    in_object 0 _ (with_put 0 (codes "message") (string message) _ (text_small 0 message)
    (with_put 0 (codes "kind") (string (codes "failed")) no_members (text_small 0 _) (none_in 0)))

state_small : (state : TestReport) (id : List ℕ) → Small 2 (test_state state id)
state_small state id =
    in_object 1 _ (with_put 1 (codes "testId") (string id) _ (text_small 1 id)
    (with_put 1 (codes "state") (report_value state) no_members (report_small state) (none_in 1)))

-- ---- diagnostics

version_small : (n : ℕ) (version : Option ℤ) → SmallOption n (version_value version)
version_small n None = tt
version_small n (Some (pos number)) = record { no_float = refl; levels = omega arith }
version_small n (Some (negsuc number)) = record { no_float = refl; levels = omega arith }

publish_small : (diagnostics : List Diagnostic) (uri : List ℕ) (version : Option ℤ) → Small 121 (publish_params diagnostics uri version)
publish_small diagnostics uri version =
    in_object 120 _ (with_some 120 (codes "version") (version_value version) _ (version_small 120 version)
    (with_put 120 (codes "uri") (string uri) _ (text_small 120 uri)
    (with_put 120 (codes "diagnostics") (list_value diagnostic_value diagnostics) no_members
    (plain_small (list_value diagnostic_value diagnostics) (list_plain diagnostic_value diagnostic_shallow diagnostics)) (none_in 120))))

-- ---- each message

writable : (n : ℕ) (d : Data) → n ≤ 125 → Small n d → IsWritable d
unfolding value_depth
writable n d within small = record { no_float = small.no_float; nests = omega (arith, within, small.levels) }

nothing : Small 0 null
nothing = record { no_float = refl; levels = omega arith }

settings : Small 3 (outgo_body Configuration).1
settings = one_small 2 (codes "items") (list (with_text (codes "section") (codes "rust-analyzer") ∷ [])) (in_list 1 (with_text (codes "section") (codes "rust-analyzer") ∷ []) (with_text_small 0 _ _, tt))

pub body_writable : (message : Outgo) → HoldsPlain message → IsWritable (outgo_body message).1
body_writable (RegisterSave files) h = writable 6 _ (omega arith) (registering_small 3 _ _ (save_small files))
body_writable (RegisterWatch watchers) h = writable 7 _ (omega arith) (registering_small 4 _ _ (watch_small watchers))
body_writable SemanticTokensRefresh h = writable 0 _ (omega arith) nothing
body_writable CodeLensRefresh h = writable 0 _ (omega arith) nothing
body_writable InlayHintRefresh h = writable 0 _ (omega arith) nothing
body_writable DiagnosticRefresh h = writable 0 _ (omega arith) nothing
body_writable (CreateProgress token) h = writable 1 _ (omega arith) (with_text_small 0 _ _)
body_writable (Progress token value) h = writable 2 _ (omega arith) (progress_small token value)
body_writable Configuration h = writable 3 _ (omega arith) settings
body_writable (ShowMessage message kind) h = writable 1 _ (omega arith) (in_object 0 _ (message_small 0 message kind))
body_writable (ShowMessageRequest message kind) h = writable 3 _ (omega arith) (in_object 2 _ (asking_small message kind))
body_writable (ServerStatus health message quiescent) h = writable 1 _ (omega arith) (status_small health message quiescent)
body_writable (Publish diagnostics uri version) h = writable 121 _ (omega arith) (publish_small diagnostics uri version)
body_writable OpenLogs h = writable 0 _ (omega arith) nothing
body_writable (DiscoveredTests uris tests) h = writable 122 _ (omega arith) (discovered_small uris tests h)
body_writable (TestState state id) h = writable 2 _ (omega arith) (state_small state id)
body_writable EndRunTest h = writable 0 _ (omega arith) nothing
body_writable (AppendOutput text) h = writable 0 _ (omega arith) (text_small 0 text)
