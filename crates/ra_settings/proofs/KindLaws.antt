-- Each value that a layer reads has its row's kind.
use Rattle.std.proofs.Common.{◌≡◌, ℕ, List, Bool, true, false, cond, Option, Some, None, option_map, refl, sym, ◌∙◌, ◌<◌, ◌+◌, ◌++◌, [], ◌∷◌, length, drop, drop-cons, add-one, append_assoc}
use Rattle.serde_json.specs.Data.{Data}
use Rattle.serde_json.specs.Find.{as_bool, as_str, as_array, as_object, as_number, as_u64, as_i64}
use Rattle.std.specs.Prelude.{option_and_then, is_some, codes}
use Rattle.ra_settings.specs.declared.row.Row.{Row}
use Rattle.ra_settings.specs.declared.row.Kind.{Kind}
use Rattle.ra_settings.specs.declared.value.SettingValue.{SettingValue}
use Rattle.ra_settings.specs.declared.value.FilesWatcher.{FilesWatcher}
use Rattle.ra_settings.specs.declared.value.Reason.{Reason}
use Rattle.ra_settings.specs.declared.value.Reason.TheVariants.{WrongType, UnknownValue}
use Rattle.ra_settings.specs.declared.value.Reading.{Reading}
use Rattle.ra_settings.specs.declared.layer.Source.{Source}
use Rattle.ra_settings.specs.Facts.{facts_of}
use Rattle.ra_settings.specs.Find.{find_at}
use Rattle.ra_settings.specs.declared.value.InvocationStrategy.{InvocationStrategy}
use Rattle.ra_settings.specs.declared.value.CargoFeatures.{CargoFeatures}
use Rattle.serde_json.specs.Data.{null, boolean, number, string, array, object, Items}
use Rattle.plain.specs.Reading.{is_null}
use Rattle.ra_settings.specs.Read.{read, value_or, typed, same, one_of, watcher_of, strategy_of, texts_of, texts_in, paths_of, env_of, lists_of, text_or_null, texts_or_null, small, thread_count, read_features, are_projects, typed_projects, projects_of, discover_or_null}
use Rattle.ra_settings.specs.Layers.{allows, reading, value_in, layer_of, value_at, nothing_set, none_of, Values, HasKinds}
use Rattle.ra_settings.specs.Values.{kind_of}

abbrev HasKind : Kind → Reading → Type 0
HasKind k (Reading.Value v) = kind_of v ≡ k
HasKind k (Reading.Refused r) = Unit {0}

value_or-kind : {A : Type 0} (k : Kind) (reason : Reason) (wrap : A → SettingValue) (o : Option A) → ((x : A) → kind_of (wrap x) ≡ k) → HasKind k (value_or reason wrap o)
value_or-kind k reason wrap None h = tt
value_or-kind k reason wrap (Some x) h = h x

typed-kind : {A : Type 0} (k : Kind) (judge : A → Reading) (o : Option A) → ((x : A) → HasKind k (judge x)) → HasKind k (typed o judge)
typed-kind k judge None h = tt
typed-kind k judge (Some x) h = h x

cond-kind : (k : Kind) (b : Bool) (r s : Reading) → HasKind k r → HasKind k s → HasKind k (cond b r s)
cond-kind k true r s h i = h
cond-kind k false r s h i = i

one_of-kind : (k : Kind) (first : List ℕ) (x : SettingValue) (second : List ℕ) (y : SettingValue) (s : List ℕ) → kind_of x ≡ k → kind_of y ≡ k → HasKind k (one_of first x second y s)
one_of-kind k first x second y s p q =
    cond-kind k (same s first) (Reading.Value x) (cond (same s second) (Reading.Value y) (Reading.Refused UnknownValue)) p (cond-kind k (same s second) (Reading.Value y) (Reading.Refused UnknownValue) q tt)

fits-kind : (b : Bool) (n : ℕ) → HasKind Kind.Small (cond b (Reading.Value (SettingValue.Small n)) (Reading.Refused UnknownValue))
fits-kind true n = refl
fits-kind false n = tt

small-kind : (o : Option ℕ) (whole : Bool) → HasKind Kind.Small (small o whole)
small-kind (Some n) whole = fits-kind _ n
small-kind None true = tt
small-kind None false = tt

thread-kind : (o : Option ℕ) (whole : Bool) → HasKind Kind.Threads (thread_count o whole)
thread-kind (Some n) whole = cond-kind _ _ (Reading.Value (SettingValue.Threads (Some n))) (Reading.Refused UnknownValue) refl tt
thread-kind None true = tt
thread-kind None false = tt

features-kind : (d : Data) → HasKind Kind.Features (read_features d)
features-kind (string s) = cond-kind _ _ (Reading.Value (SettingValue.Features CargoFeatures.All)) (Reading.Refused UnknownValue) refl tt
features-kind (array ds) = value_or-kind _ WrongType (λ ts. SettingValue.Features (CargoFeatures.Selected ts)) (texts_of ds) (λ _. refl)
features-kind null = tt
features-kind (boolean b) = tt
features-kind (number n) = tt
features-kind (object ms) = tt

projects-kind : (root : List ℕ) (ds : Items) → HasKind Kind.Projects (typed_projects root ds)
projects-kind root ds = cond-kind _ (are_projects ds) _ (Reading.Refused WrongType) (value_or-kind _ UnknownValue SettingValue.Projects (projects_of root ds) (λ _. refl)) tt

-- a value that is read has the kind by which it is read
read-kind : (k : Kind) (root : List ℕ) (d : Data) → HasKind k (read k root d)
read-kind Kind.Truth root d = value_or-kind _ WrongType SettingValue.Truth (as_bool d) (λ _. refl)
read-kind Kind.Text root d = value_or-kind _ WrongType SettingValue.Text (as_str d) (λ _. refl)
read-kind Kind.TextOrNull root d = value_or-kind _ WrongType SettingValue.TextOrNull (text_or_null d) (λ _. refl)
read-kind Kind.TextsOrNull root d = value_or-kind _ WrongType SettingValue.TextsOrNull (texts_or_null d) (λ _. refl)
read-kind Kind.Watcher root d = typed-kind _ watcher_of (as_str d) (λ s. one_of-kind Kind.Watcher (codes "client") (SettingValue.Watcher FilesWatcher.Client) (codes "server") (SettingValue.Watcher FilesWatcher.Server) s refl refl)
read-kind Kind.Strategy root d = typed-kind _ strategy_of (as_str d) (λ s. one_of-kind Kind.Strategy (codes "per_workspace") (SettingValue.Strategy InvocationStrategy.PerWorkspace) (codes "once") (SettingValue.Strategy InvocationStrategy.Once) s refl refl)
read-kind Kind.Paths root d = typed-kind _ _ (texts_in d) (λ ts. value_or-kind _ UnknownValue SettingValue.Paths (paths_of root ts) (λ _. refl))
read-kind Kind.Projects root d = typed-kind _ _ (as_array d) (λ ds. projects-kind root ds)
read-kind Kind.Features root d = features-kind d
read-kind Kind.Env root d = value_or-kind _ WrongType SettingValue.Env (option_and_then env_of (as_object d)) (λ _. refl)
read-kind Kind.Lists root d = value_or-kind _ WrongType SettingValue.Lists (option_and_then lists_of (as_object d)) (λ _. refl)
read-kind Kind.Small root d = small-kind (option_and_then as_u64 (as_number d)) (is_some (option_and_then as_i64 (as_number d)))
read-kind Kind.Threads root d = cond-kind _ (is_null d) (Reading.Value (SettingValue.Threads None)) _ refl (thread-kind (option_and_then as_u64 (as_number d)) (is_some (option_and_then as_i64 (as_number d))))
read-kind Kind.Discover root d = value_or-kind _ WrongType SettingValue.Discover (discover_or_null d) (λ _. refl)

value_of-kind : (k : Kind) (r : Reading) (v : SettingValue) → HasKind k r → value_in (Some r) ≡ Some v → kind_of v ≡ k
value_of-kind k (Reading.Value w) v h p = cc
value_of-kind k (Reading.Refused reason) v h p = cc

value_in-kind : (k : Kind) (root : List ℕ) (b : Bool) (o : Option Data) (v : SettingValue) → value_in (cond b (option_map (read k root) o) None) ≡ Some v → kind_of v ≡ k
value_in-kind k root false o v p = cc
value_in-kind k root true None v p = cc
value_in-kind k root true (Some d) v p = value_of-kind k (read k root d) v (read-kind k root d) p

-- a layer has at each row what the row is read as
pub value_at-layer : (row : Row) (source : Source) (root : List ℕ) (d : Data) → value_at row (layer_of source root d) ≡ value_in (reading source root d row)
unfolding facts_of
value_at-layer Row.DetachedFiles source root d = refl
value_at-layer _ source root d = refl

pub layer-kinds : (source : Source) (root : List ℕ) (d : Data) → HasKinds (layer_of source root d)
unfolding reading HasKinds
layer-kinds source root d row v p = value_in-kind (kind_of (facts_of row).default) root (allows source (facts_of row).scope) (find_at (facts_of row).path d) v (sym (value_at-layer row source root d) ∙ p)

pub nothing-kinds : HasKinds nothing_set
unfolding HasKinds facts_of
nothing-kinds Row.DetachedFiles v p = cc
nothing-kinds _ v p = cc

pub kinds_at : (values : Values) (row : Row) (v : SettingValue) → HasKinds values → value_at row values ≡ Some v → kind_of v ≡ kind_of (facts_of row).default
unfolding HasKinds
kinds_at values row v has p = has row v p

pub none_more : (made : Values) (rows : List Row) (i : ℕ) → i < length rows → (made ++ None ∷ []) ++ none_of (drop (i + 1) rows) ≡ made ++ none_of (drop i rows)
none_more made rows i h = rw (drop-cons rows i Row.FilesExclude, add-one, append_assoc)
