-- What each part of a turn lets into the world, and what it makes of the settings.
use Rattle.std.proofs.Common.{◌≡◌, ℕ, ◌+◌, ◌-◌, ◌^◌, List, [], ◌∷◌, ◌++◌, length, map, Bool, true, false, ltb, refl, sym, ap, ◌∙◌, subst, arith, inl, inr}
use Rattle.std.proofs.Common.{true≢false}
use Rattle.std.specs.Prelude.{◌⊎◌, ◌&&◌, ◌||◌, ◌==◌, Option, None, Some, is_none, unwrap_or, Result, Ok, Err, if◌then◌else◌}
use Rattle.std.specs.FinMap as finmap
use Rattle.std.specs.List.{list_any}
use Rattle.std.proofs.lemmas.List.{length-append}
use Rattle.analysis_host.specs.HostData.{HostData, with_change, with_files}
use Rattle.analysis_host.specs.declared.host.WorldFault.{WorldFault}
use Rattle.analysis_host.specs.declared.host.WorldFault.TheVariants.{Exhausted}
use Rattle.analysis_host.specs.declared.text_entry.TextEntry.{TextEntry}
use Rattle.change_effects.specs.Changes.{is_settings_file}
use Rattle.change_effects.specs.Effects.{settings_among}
use Rattle.change_effects.specs.Filing.{filed_change}
use Rattle.change_effects.specs.declared.effects.SettingsFile.{SettingsFile}
use Rattle.client.specs.Client.{Client}
use Rattle.client.specs.Folds.{after_change}
use Rattle.docs_vfs.specs.Kinds.{is_created_or_deleted}
use Rattle.docs_vfs.specs.Paths.{path_cmp}
use Rattle.docs_vfs.specs.declared.file_kinds.ChangeKind.{ChangeKind}
use Rattle.docs_vfs.specs.declared.file_kinds.ChangeKind.TheVariants.{Create, Modify, Delete}
use Rattle.docs_vfs.specs.declared.file_kinds.ChangedFile.{ChangedFile}
use Rattle.docs_vfs.specs.declared.source_roots.Root.{Root}
use Rattle.layered_settings.specs.Change.{after, parents_after}
use Rattle.layered_settings.specs.Search.{Parents}
use Rattle.layered_settings.specs.declared.change.ConfigChange.{ConfigChange}
use Rattle.project_model.specs.declared.crates.CrateData.{CrateData}
use Rattle.ra_config.specs.Config.{ConfigData}
use Rattle.session_files.specs.Folds.{after_crates, after_processing, changed_files, crates_with, have_come_or_gone, taken_up, with_changes}
use Rattle.session_files.specs.Folds.{world_change, world_put}
use Rattle.session_files.specs.SessionFiles.{SessionFiles}
use Rattle.session_files.specs.Texts.{file_change}
use Rattle.session_port.specs.declared.fault.Counter.{Counter}
use Rattle.session_model.specs.Sources.{change_for, client_with, is_settled}
use Rattle.session_model.specs.State.{Sources, State}
use Rattle.session_laws.specs.Entering.{ArePresent, AreEntries, Enters, Entry, KeepsSettings, brings_roots, comes_or_goes, crates_after, hold_settings}
use Rattle.session_laws.specs.Entering.{holds_settings, roots_after, texts_after}

-- ---- entries, one after another

entries-on : (xs ys : List Entry) → AreEntries xs → AreEntries ys → AreEntries (xs ++ ys)
entries-on [] ys p q = q
entries-on (x ∷ xs) ys p q = (p.0, entries-on xs ys p.1 q)

pub present-on : (roots : List Root) (xs ys : List Entry) → ArePresent roots xs → ArePresent roots ys → ArePresent roots (xs ++ ys)
present-on roots [] ys p q = q
present-on roots (x ∷ xs) ys p q = (p.0, present-on roots xs ys p.1 q)

roots-on : (xs ys : List Entry) (roots : List Root) → roots_after (xs ++ ys) roots ≡ roots_after ys (roots_after xs roots)
roots-on [] ys roots = refl
roots-on (x ∷ xs) ys roots = roots-on xs ys (if brings_roots x then x.present else roots)

crates-on : (xs ys : List Entry) (crates : CrateData) → crates_after (xs ++ ys) crates ≡ crates_after ys (crates_after xs crates)
crates-on [] ys crates = refl
crates-on (x ∷ xs) ys crates = crates-on xs ys (unwrap_or x.crates crates)

texts-on : (xs ys : List Entry) (texts : finmap.FinMap path_cmp TextEntry) → texts_after (xs ++ ys) texts ≡ texts_after ys (texts_after xs texts)
texts-on [] ys texts = refl
texts-on (x ∷ xs) ys texts = texts-on xs ys (with_files (map file_change x.files) texts)

counted-on : (first second third n m k : ℕ) → second ≡ first + n → third ≡ second + m → k ≡ n + m → third ≡ first + k
counted-on first second third n m k p q r = omega (arith, p, q, r)

pub enters-none : (host : HostData) → Enters [] host host
enters-none host = record { each = tt; texts = refl; roots = refl; crates = refl; revision = omega arith }

pub enters-on : (xs ys : List Entry) (a b c : HostData) → Enters xs a b → Enters ys b c → Enters (xs ++ ys) a c
enters-on xs ys a b c p q = record {
  each = entries-on xs ys p.each q.each;
  texts = q.texts ∙ ap (texts_after ys) p.texts ∙ sym (texts-on xs ys a.world.texts);
  roots = q.roots ∙ ap (roots_after ys) p.roots ∙ sym (roots-on xs ys a.world.roots);
  crates = q.crates ∙ ap (crates_after ys) p.crates ∙ sym (crates-on xs ys a.world.crates);
  revision = counted-on a.revision b.revision c.revision (length xs) (length ys) (length (xs ++ ys)) p.revision q.revision (length-append xs ys);
}

or-left : (a b : Bool) → (a || b) ≡ false → a ≡ false
or-left true b none = none
or-left false b none = refl

or-right : (a b : Bool) → (a || b) ≡ false → b ≡ false
or-right true b none = absurd (true≢false none)
or-right false b none = none

pub none-left : (xs ys : List Entry) → hold_settings (xs ++ ys) ≡ false → hold_settings xs ≡ false
none-left [] ys none = refl
none-left (x ∷ xs) ys none =
    ap (λ b. b || hold_settings xs) (or-left (holds_settings x) (hold_settings (xs ++ ys)) none)
    ∙ none-left xs ys (or-right (holds_settings x) (hold_settings (xs ++ ys)) none)

pub none-right : (xs ys : List Entry) → hold_settings (xs ++ ys) ≡ false → hold_settings ys ≡ false
none-right [] ys none = none
none-right (x ∷ xs) ys none = none-right xs ys (or-right (holds_settings x) (hold_settings (xs ++ ys)) none)

-- ---- what a part does

abbrev pub parents_in : State → Parents
parents_in s = s.client.settings.settings.parents

-- the parents that wait stay so, and those of the settings too; or what waits is told
abbrev pub TellsParents : State → State → Type 0
TellsParents s t =
    ((t.sources.parents ≡ s.sources.parents) × (parents_in t ≡ parents_in s))
    ⊎ ((t.sources.parents ≡ None) × (parents_in t ≡ parents_after s.sources.parents (parents_in s)))

-- these enter, while the roots that are present stay. Where this flag isn't set, settings stay but for settings files and parents that wait
pub record Alters (tells : Bool) (s t : State) : Type 0 where
  pub entries : List Entry
  pub enters : Enters entries s.files.host t.files.host
  pub present : ArePresent s.sources.roots entries
  pub roots : t.sources.roots ≡ s.sources.roots
  pub parents : TellsParents s t
  pub settings : tells ≡ false → hold_settings entries ≡ false → s.sources.parents ≡ None → KeepsSettings s t

pub none-waits : (s t : State) → TellsParents s t → s.sources.parents ≡ None → t.sources.parents ≡ None
none-waits s t (inl same) none = same.0 ∙ none
none-waits s t (inr told) none = told.0

parents-on : (s t u : State) → TellsParents s t → TellsParents t u → TellsParents s u
parents-on s t u (inl p) (inl q) = inl (q.0 ∙ p.0, q.1 ∙ p.1)
parents-on s t u (inl p) (inr q) = inr (q.0, q.1 ∙ (λ i. parents_after (p.0 i) (p.1 i)))
parents-on s t u (inr p) (inl q) = inr (q.0 ∙ p.0, q.1 ∙ p.1)
parents-on s t u (inr p) (inr q) = inr (q.0, q.1 ∙ ap (λ o. parents_after o (parents_in t)) p.0 ∙ p.1)

pub keeps-settings-on : (s t u : State) → KeepsSettings s t → KeepsSettings t u → KeepsSettings s u
keeps-settings-on s t u p q = record { settings = q.settings ∙ p.settings; errors = q.errors ∙ p.errors }

pub alters-on : (tells : Bool) (s t u : State) → Alters tells s t → Alters tells t u → Alters tells s u
alters-on tells s t u p q = record {
  entries = p.entries ++ q.entries;
  enters = enters-on p.entries q.entries s.files.host t.files.host u.files.host p.enters q.enters;
  present = present-on s.sources.roots p.entries q.entries p.present (subst (λ (rs : List Root). ArePresent rs q.entries) p.roots q.present);
  roots = q.roots ∙ p.roots;
  parents = parents-on s t u p.parents q.parents;
  settings = λ silent none waits. keeps-settings-on s t u (p.settings silent (none-left p.entries q.entries none) waits)
      (q.settings silent (none-right p.entries q.entries none) (none-waits s t p.parents waits));
}

-- nothing enters, and settings and roots stay
pub record Still (s t : State) : Type 0 where
  pub host : t.files.host ≡ s.files.host
  pub sources : t.sources ≡ s.sources
  pub settings : t.client.settings ≡ s.client.settings
  pub errors : t.client.errors ≡ s.client.errors

pub still-none : (s : State) → Still s s
still-none s = record { host = refl; sources = refl; settings = refl; errors = refl }

pub still-on : (s t u : State) → Still s t → Still t u → Still s u
still-on s t u p q = record { host = q.host ∙ p.host; sources = q.sources ∙ p.sources; settings = q.settings ∙ p.settings; errors = q.errors ∙ p.errors }

pub still-same : (s t : State) → t ≡ s → Still s t
still-same s t same = subst (Still s) (sym same) (still-none s)

pub alters-still : (tells : Bool) (s t : State) → Still s t → Alters tells s t
alters-still tells s t still = record {
  entries = [];
  enters = subst (Enters [] s.files.host) (sym still.host) (enters-none s.files.host);
  present = tt;
  roots = ap (λ (x : Sources). x.roots) still.sources;
  parents = inl (ap (λ (x : Sources). x.parents) still.sources, ap (λ (c : ConfigData). c.settings.parents) still.settings);
  settings = λ silent none waits. record { settings = still.settings; errors = still.errors };
}

-- ---- crate data

put-host : (b : Bool) (host : HostData) (files now : SessionFiles)
    → (let r : Result HostData WorldFault = if b then Ok host else Err Exhausted in world_put r files) ≡ Ok now → now.host ≡ host
put-host true host files now is = sym (ap host_in is)
  where
    host_in : Result SessionFiles Counter → HostData
    host_in (Ok made) = made.host
    host_in (Err counter) = host
put-host false host files now is = absurd cc

-- what crate data makes of the host
abbrev crates_host : List Root → CrateData → HostData → HostData
crates_host roots crates host = record { world = with_change (crates_with roots crates) host.world; revision = host.revision + 1 }

crates-host : (roots : List Root) (crates : CrateData) (files now : SessionFiles) → after_crates roots crates files ≡ Ok now
    → now.host ≡ crates_host roots crates files.host
unfolding after_crates
crates-host roots crates files now is = put-host (ltb files.host.revision (2 ^ 64 - 1)) (crates_host roots crates files.host) files now is

abbrev crates_entry : List Root → CrateData → Entry
crates_entry roots crates = record { present = roots; crates = Some crates; files = [] }

crates-enter : (roots : List Root) (crates : CrateData) (host : HostData) → Enters (crates_entry roots crates ∷ []) host (crates_host roots crates host)
crates-enter roots crates host = record { each = (inl (refl, refl), tt); texts = refl; roots = refl; crates = refl; revision = refl }

pub crates-alter : (tells : Bool) (crates : CrateData) (s : State) (files : SessionFiles) → after_crates s.sources.roots crates s.files ≡ Ok files
    → Alters tells s (record s { files = files })
crates-alter tells crates s files is = record {
  entries = crates_entry s.sources.roots crates ∷ [];
  enters = subst (Enters (crates_entry s.sources.roots crates ∷ []) s.files.host) (sym (crates-host s.sources.roots crates s.files files is))
      (crates-enter s.sources.roots crates s.files.host);
  present = (refl, tt);
  roots = refl;
  parents = inl (refl, refl);
  settings = λ silent none waits. record { settings = refl; errors = refl };
}

-- ---- files

abbrev files_host : List Root → List ChangedFile → HostData → HostData
files_host roots list host = record { world = with_change (world_change roots list) host.world; revision = host.revision + 1 }

abbrev pub files_entry : List Root → List ChangedFile → Entry
files_entry roots list = record { present = roots; crates = None; files = list }

kind-comes : (kind : ChangeKind) → is_created_or_deleted kind ≡ comes_or_goes kind
kind-comes Create = refl
kind-comes Modify = refl
kind-comes Delete = refl

any-comes : (list : List ChangedFile) → have_come_or_gone list ≡ list_any (λ (file : ChangedFile). comes_or_goes file.kind) list
any-comes [] = refl
any-comes (file ∷ list) = λ i. kind-comes file.kind i || any-comes list i

given : (b c : Bool) (roots old : List Root) → b ≡ c → unwrap_or (if b then Some roots else None) old ≡ (if c then roots else old)
given true c roots old same = ap (λ d. if d then roots else old) same
given false c roots old same = ap (λ d. if d then roots else old) same

files-enter : (roots : List Root) (file : ChangedFile) (later : List ChangedFile) (host : HostData)
    → Enters (files_entry roots (file ∷ later) ∷ []) host (files_host roots (file ∷ later) host)
files-enter roots file later host = record {
  each = (inr (refl, λ none. absurd (omega (arith, none))), tt);
  texts = refl;
  roots = given (have_come_or_gone (file ∷ later)) (list_any (λ (f : ChangedFile). comes_or_goes f.kind) (file ∷ later)) roots host.world.roots
      (any-comes (file ∷ later));
  crates = refl;
  revision = refl;
}

-- what entered where these files had changed
abbrev pub files_entries : List Root → List ChangedFile → List Entry
files_entries roots [] = []
files_entries roots (file ∷ later) = files_entry roots (file ∷ later) ∷ []

list-enters : (roots : List Root) (list : List ChangedFile) (files now : SessionFiles) → with_changes roots list (taken_up files) ≡ Ok now
    → Enters (files_entries roots list) files.host now.host
list-enters roots [] files now is = subst (Enters [] files.host) (ap host_in is) (enters-none files.host)
  where
    host_in : Result SessionFiles Counter → HostData
    host_in (Ok made) = made.host
    host_in (Err counter) = files.host
list-enters roots (file ∷ later) files now is =
    subst (Enters (files_entry roots (file ∷ later) ∷ []) files.host)
    (sym (put-host (ltb files.host.revision (2 ^ 64 - 1)) (files_host roots (file ∷ later) files.host) (taken_up files) now is))
    (files-enter roots file later files.host)

pub processing-enters : (roots : List Root) (files now : SessionFiles) → after_processing roots files ≡ Ok now
    → Enters (files_entries roots (changed_files files)) files.host now.host
unfolding after_processing
processing-enters roots files now is = list-enters roots (changed_files files) files now is

pub files-present : (roots : List Root) (list : List ChangedFile) → ArePresent roots (files_entries roots list)
files-present roots [] = tt
files-present roots (file ∷ later) = (refl, tt)

-- ---- what files that entered make of the settings

none-among : (list : List ChangedFile) → list_any (λ (file : ChangedFile). is_settings_file file.path) list ≡ false → settings_among list ≡ []
none-among [] none = refl
none-among (file ∷ list) none =
    let first = or-left (is_settings_file file.path) (list_any (λ (f : ChangedFile). is_settings_file f.path) list) none in
    let rest = none-among list (or-right (is_settings_file file.path) (list_any (λ (f : ChangedFile). is_settings_file f.path) list) none) in
    among file list first rest
  where
    among : (file : ChangedFile) (list : List ChangedFile) → is_settings_file file.path ≡ false → settings_among list ≡ [] → settings_among (file ∷ list) ≡ []
    among file list other rest = rw other rest

-- the client once the settings files among some have been filed
abbrev pub filed_client : List SettingsFile → State → Client
filed_client files s = client_with (change_for files s.files.host.world.roots s.sources s.workspaces.present) s.client

changed-parents : (change : ConfigChange) (client : Client) → (after_change change client).settings.settings.parents ≡ parents_after change.parents
    client.settings.settings.parents
unfolding after
changed-parents change client = refl

settled-none : (parents : Option (List (ℕ × ℕ))) (b : Bool) → (is_none parents && b) ≡ true → parents ≡ None
settled-none None b is = refl
settled-none (Some pairs) b is = absurd (true≢false (sym is))

by-settled : (b : Bool) (files : List SettingsFile) (s : State) → is_settled files s.sources ≡ b
    → (client_with (if b then None else Some (filed_change s.files.host.world.roots s.sources.parents s.workspaces.present files))
    s.client).settings.settings.parents
    ≡ parents_after s.sources.parents (parents_in s)
by-settled true files s is = sym (ap (λ o. parents_after o (parents_in s)) (settled-none s.sources.parents (length files == 0) is))
by-settled false files s is = changed-parents (filed_change s.files.host.world.roots s.sources.parents s.workspaces.present files) s.client

pub filed-parents : (files : List SettingsFile) (s : State) → (filed_client files s).settings.settings.parents ≡ parents_after s.sources.parents (parents_in s)
filed-parents files s = by-settled (is_settled files s.sources) files s refl

pub filed-same : (files : List SettingsFile) (s : State) → files ≡ [] → s.sources.parents ≡ None → filed_client files s ≡ s.client
filed-same files s none waits = λ i. client_with (if is_none (waits i) && length (none i) == 0 then None
    else Some (filed_change s.files.host.world.roots s.sources.parents s.workspaces.present files)) s.client

-- no settings file is among files that entered
pub none-filed : (roots : List Root) (list : List ChangedFile) → hold_settings (files_entries roots list) ≡ false → settings_among list ≡ []
none-filed roots [] none = refl
none-filed roots (file ∷ later) none = none-among (file ∷ later) (or-left (holds_settings (files_entry roots (file ∷ later))) false none)
