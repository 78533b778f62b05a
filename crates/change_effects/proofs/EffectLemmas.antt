-- What follows from lists of changes.
use Rattle.std.proofs.Common.{◌≡◌, ◌≢◌, ℕ, Bool, true, false, not, ◌&&◌, ◌||◌, cond, List, [], ◌∷◌, refl, sym, ap, ◌∙◌}
use Rattle.std.specs.Prelude.{Option, Some, None, option_map, is_some, find}
use Rattle.std.specs.FinMap as map
use Rattle.std.specs.List.{All, Any, list_any, filter_map, cons_option}
use Rattle.std.specs.Cmp.Derive.{both_true}
use Rattle.std.proofs.lemmas.Bool.{true≢false}
use Rattle.std.proofs.lemmas.List.Elements.{All-nil, All-cons}
use Rattle.std.proofs.lemmas.List.Folds.{Any-from_list_any, list_any-from_Any, list_any_none}
use Rattle.docs_vfs.specs.Files.{Files, change_of, change_with, contents_at, kind_between, changes}
use Rattle.docs_vfs.specs.Kinds.{is_created_or_deleted}
use Rattle.docs_vfs.specs.declared.file_kinds.ChangeKind.{ChangeKind}
use Rattle.docs_vfs.specs.declared.file_kinds.ChangeKind.TheVariants.{Create, Modify, Delete}
use Rattle.docs_vfs.specs.declared.file_kinds.ChangedFile.{ChangedFile}
use Rattle.docs_vfs.specs.declared.file_kinds.FileId.{FileId}
use Rattle.docs_vfs.specs.declared.file_kinds.FileWas.{FileWas}
use Rattle.workspaces.specs.Fetches.{is_forced}
use Rattle.workspaces.specs.Workspaces.{Paths}
use Rattle.change_effects.specs.declared.effects.SettingsFile.{SettingsFile}
use Rattle.change_effects.specs.Changes.{came_or_went, is_awaited, asks_fetch, is_settings_file}
use Rattle.change_effects.specs.Effects.{are_awaited, have_come_or_gone, request_for, fetch_for, macro_sources_of, settings_among}
use Rattle.change_effects.specs.EffectLaws.{IsCause, IsModified, HasContentsOf}

-- ---- tests of lists

found_next : {X : Type 0} (b : Bool) (x : X) (o : Option X) (any : Bool) → is_some o ≡ any → is_some (cond b (Some x) o) ≡ (b || any)
found_next true x o any is = refl
found_next false x o any is = is

-- an item is found where one passes the test
found : {X : Type 0} (p : X → Bool) (xs : List X) → is_some (find p xs) ≡ list_any p xs
found p [] = refl
found p (x ∷ xs) = found_next (p x) x (find p xs) (list_any p xs) (found p xs)

-- some item passes a wider test too
any_wider : {X : Type 0} (p q : X → Bool) → ((x : X) → p x ≡ true → q x ≡ true) → (xs : List X) → list_any p xs ≡ true → list_any q xs ≡ true
any_wider p q wider xs is = let some = Any-from_list_any p xs is in
    list_any-from_Any q xs (some.0, some.1, some.2, some.3, wider some.1 some.4)

and_wider : (a b c : Bool) → (a && b) ≡ true → (a || c) ≡ true
and_wider true b c is = refl
and_wider false b c is = absurd (true≢false (sym is))

or_wider : (a c : Bool) → a ≡ true → (a || c) ≡ true
or_wider true c is = refl
or_wider false c is = absurd (true≢false (sym is))

-- ---- the fetch

mapped : (force : Bool) (o : Option ChangedFile) → is_some (option_map (request_for force) o) ≡ is_some o
mapped force None = refl
mapped force (Some change) = refl

asks_where : (p : ChangedFile → Bool) (additional : List (List ℕ)) → ((change : ChangedFile) → p change ≡ true → asks_fetch additional change ≡ true)
    → (list : List ChangedFile) → list_any p list ≡ true → (force : Bool) → is_some (fetch_for force additional list) ≡ true
asks_where p additional wider list is force =
    mapped force (find (asks_fetch additional) list) ∙ found (asks_fetch additional) list ∙ any_wider p (asks_fetch additional) wider list is

-- a file that came or went asks for a fetch
pub renewal_asks : (additional : List (List ℕ)) (list : List ChangedFile) → have_come_or_gone list ≡ true → (force : Bool)
    → is_some (fetch_for force additional list) ≡ true
renewal_asks additional = asks_where came_or_went additional (λ change came. or_wider (came_or_went change) _ came)

flag_of : (force : Bool) (o : Option ChangedFile) → (force ≡ true → is_some (option_map (request_for force) o) ≡ true)
    → is_forced (option_map (request_for force) o) ≡ force
flag_of force (Some change) some = refl
flag_of false None some = refl
flag_of true None some = some refl

-- it is forced exactly where a file came or went that crate data asked for
pub flag_is : (asked : Paths) (additional : List (List ℕ)) (list : List ChangedFile)
    → is_forced (fetch_for (are_awaited asked list) additional list) ≡ are_awaited asked list
flag_is asked additional list =
    let force = are_awaited asked list in
    flag_of force (find (asks_fetch additional) list)
    (λ is. asks_where (is_awaited asked) additional (λ change awaited. and_wider (came_or_went change) _ _ awaited) list is force)

told_unless : (force : Bool) (list : List ChangedFile) → is_some (macro_sources_of force list) ≡ not force
told_unless true list = refl
told_unless false list = refl

-- sources are told unless it is forced
pub sources_unless_forced : (asked : Paths) (additional : List (List ℕ)) (list : List ChangedFile)
    → is_some (macro_sources_of (are_awaited asked list) list) ≡ not (is_forced (fetch_for (are_awaited asked list) additional list))
sources_unless_forced asked additional list = told_unless (are_awaited asked list) list ∙ ap not (sym (flag_is asked additional list))

-- ---- causes

came_where : (kind : ChangeKind) → kind ≢ Modify → is_created_or_deleted kind ≡ true
came_where Create other = refl
came_where Delete other = refl
came_where Modify other = absurd (other refl)

other_where : (kind : ChangeKind) (b : Bool) → (is_created_or_deleted kind && b) ≡ true → (kind ≢ Modify) × (b ≡ true)
other_where Create b is = (λ same. true≢false (ap is_created_or_deleted same), is)
other_where Delete b is = (λ same. true≢false (ap is_created_or_deleted same), is)
other_where Modify b is = absurd (true≢false (sym is))

pub cause_of : (asked : Paths) (list : List ChangedFile) → are_awaited asked list ≡ true → Any (IsCause asked) list
cause_of asked list is = let some = Any-from_list_any (is_awaited asked) list is in
    (some.0, some.1, some.2, some.3, other_where some.1.kind _ some.4)

pub awaited_by : (asked : Paths) (list : List ChangedFile) → Any (IsCause asked) list → are_awaited asked list ≡ true
awaited_by asked list some =
    list_any-from_Any (is_awaited asked) list (some.0, some.1, some.2, some.3, both_true (came_where some.1.kind some.4.0) some.4.1)

-- ---- modifications

not_both : (kind : ChangeKind) (b : Bool) → kind ≡ Modify → (is_created_or_deleted kind && b) ≡ false
not_both kind b is = ap (λ kind. is_created_or_deleted kind && b) is

pub none_came : (list : List ChangedFile) → All IsModified list → have_come_or_gone list ≡ false
none_came list all = list_any_none came_or_went list (λ k d below. ap is_created_or_deleted (all k d below))

pub none_awaited : (asked : Paths) (list : List ChangedFile) → All IsModified list → are_awaited asked list ≡ false
none_awaited asked list all = list_any_none (is_awaited asked) list (λ k d below. not_both _ _ (all k d below))

-- ---- settings files

next_file : (files : Files) (path : List ℕ) (is_settings : Bool) (rest : List SettingsFile) → All (HasContentsOf files) rest
    → All (HasContentsOf files) (cons_option (cond is_settings (Some (record { path = path; contents = contents_at files path })) None) rest)
next_file files path true rest all = All-cons (HasContentsOf files) (record { path = path; contents = contents_at files path }) rest refl all
next_file files path false rest all = all

next_change : (files : Files) (file : FileId) (path : List ℕ) (kind : Option ChangeKind) (rest : List ChangedFile)
    → All (HasContentsOf files) (settings_among rest)
    → All (HasContentsOf files) (settings_among (cons_option (change_with file path (contents_at files path) kind) rest))
next_change files file path None rest all = all
next_change files file path (Some kind) rest all = next_file files path (is_settings_file path) (settings_among rest) all

told_of : (files : Files) (before : List (List ℕ × FileWas)) → All (HasContentsOf files) (settings_among (filter_map (change_of files.rows) before))
told_of files [] = All-nil (HasContentsOf files)
told_of files (first ∷ rest) =
    let kind = kind_between first.1.contents (contents_at files first.0) in
    next_change files first.1.file first.0 kind (filter_map (change_of files.rows) rest) (told_of files rest)

pub settings_told : (files : Files) → All (HasContentsOf files) (settings_among (changes files))
settings_told files = told_of files (map.entries files.before)
