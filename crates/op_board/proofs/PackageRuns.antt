-- What the board has of a package of a check after a run.
use Rattle.std.proofs.Common.{◌≡◌, ℕ, ◌<◌, ◌≤◌, Bool, true, false, ◌&&◌, ◌||◌, List, [], ◌∷◌, ◌++◌, refl, ap, sym, subst, ◌∙◌, arith}
use Rattle.std.specs.Prelude.{T, max, not, Option, None, Some, cond, nat_eq, nat_lt, option_to_list}
use Rattle.std.specs.List.{list_any, filter}
use Rattle.std.specs.Ordering.{nat_cmp}
use Rattle.std.specs.Cmp.{nat_cmp_total, unsigned_tied}
use Rattle.std.specs.FinMap as map
use Rattle.std.specs.FinMap.Entries.{below_all}
use Rattle.std.proofs.lemmas.Bool.{cond_both, cond-true, cond-false, eqb-true, eq-eqb, ne_eqb, ltb-true, ltb-false, and_parts}
use Rattle.std.proofs.Common.{append_assoc}
use Rattle.docs_vfs.specs.declared.file_kinds.FileId.{FileId}
use Rattle.lsp_types.specs.declared.diagnostic.Diagnostic.{Diagnostic}
use Rattle.op_board.specs.declared.check_package.CheckPackage.{CheckPackage}
use Rattle.op_board.specs.declared.check_package.CheckEntry.{CheckEntry}
use Rattle.op_board.specs.declared.diagnostic.NativePass.{NativePass}
use Rattle.op_board.specs.declared.diagnostic.NativePass.TheVariants.{Syntax, Semantic}
use Rattle.lsp_types.specs.Diagnostics.{same_diagnostic, diagnostic_told}
use Rattle.op_board.specs.Packages.{package_cmp}
use Rattle.op_board.specs.Marked.{Marked}
use Rattle.op_board.specs.Checks.{Packages, Checks, mark_package, listed, list_in, new_package, add_entry, renewed, add_to, package_or_new, packages_or_none, add_check, older_than, drops_at, kept, with_left, drop_package, forget, drop_in, sift}
use Rattle.op_board.specs.Acts.{Act, step, after}
use Rattle.op_board.specs.Acts.Act.{Counts, Gives, Clears, Adds, Forgets, ForgetsIn, ForgetsOlder, ForgetsOlderIn, ForgetsAll, Takes}
use Rattle.op_board.specs.Board.{Board}
use Rattle.op_board.specs.Runs.{same_file}
use Rattle.op_board.specs.CheckRuns.{Came, same_id, same_name, newest, came, of_generation, same_entry, as_told, entries, said_of, fixes_told, package_in, package_at, listed_in, fixes_at}
use Rattle.op_board.proofs.RowLemmas.{tie, front, back, none_below}
use Rattle.op_board.proofs.PackageOrder.{package_total, package_same}

-- ---- tests and numbers

or_none : (a : Bool) → (a || false) ≡ a
or_none true = refl
or_none false = refl

or_assoc : (a b c : Bool) → (a || (b || c)) ≡ ((a || b) || c)
or_assoc true b c = refl
or_assoc false b c = refl

or_turned : (a b : Bool) → (a || b) ≡ (b || a)
or_turned true true = refl
or_turned true false = refl
or_turned false true = refl
or_turned false false = refl

absorbed : (a b : Bool) → (a ≡ true → b ≡ true) → b ≡ (a || b)
absorbed true b h = h refl
absorbed false b h = refl

pub no_more : {X : Type 0} (xs : List X) → xs ++ [] ≡ xs
no_more [] = refl
no_more (x ∷ xs) = ap (λ l. x ∷ l) (no_more xs)

pushed : {X : Type 0} (t : Bool) (x : X) (xs ys : List X) → cond t (x ∷ (xs ++ ys)) (xs ++ ys) ≡ cond t (x ∷ xs) xs ++ ys
pushed true x xs ys = refl
pushed false x xs ys = refl

below_itself : (a g n : ℕ) → a ≡ g → max a n < g → ⊥
below_itself a g n e lt = omega (arith, e, lt)

less_of : (a g n : ℕ) → max a n < g → n < g
less_of a g n lt = omega (arith, lt)

max_of_less : (g n : ℕ) → g < n → max g n ≡ n
max_of_less g n lt = omega (arith, lt)

max_of_most : (g n : ℕ) → n ≤ g → max g n ≡ g
max_of_most g n le = omega (arith, le)

below_same : (g n : ℕ) → g ≡ n → g < n → ⊥
below_same g n e lt = omega (arith, e, lt)

both_most : (n g : ℕ) → n ≤ g → g ≤ n → n ≡ g
both_most n g a b = omega (arith, a, b)

-- ---- what entries say

said_more : (file : FileId) (xs ys : List CheckEntry) → said_of file (xs ++ ys) ≡ said_of file xs ++ said_of file ys
said_more file [] ys = refl
said_more file (x ∷ xs) ys =
    ap (λ l. cond (same_file file x.file) (x.diagnostic ∷ l) l) (said_more file xs ys) ∙ pushed (same_file file x.file) x.diagnostic (said_of file xs) (said_of file ys)

fixes_more : (xs ys : List CheckEntry) → fixes_told (xs ++ ys) ≡ fixes_told xs ++ fixes_told ys
fixes_more [] ys = refl
fixes_more (x ∷ xs) ys = ap (λ l. option_to_list x.fix ++ l) (fixes_more xs ys) ∙ sym (append_assoc (option_to_list x.fix) (fixes_told xs) (fixes_told ys))

any_more : (d : Diagnostic) (xs ys : List Diagnostic) → list_any (same_diagnostic d) (xs ++ ys) ≡ (list_any (same_diagnostic d) xs || list_any (same_diagnostic d) ys)
any_more d [] ys = refl
any_more d (x ∷ xs) ys = ap (λ b. same_diagnostic d x || b) (any_more d xs ys) ∙ or_assoc (same_diagnostic d x) _ _

last_any : (t s : Bool) (d x : Diagnostic) → same_diagnostic d x ≡ s → list_any (same_diagnostic d) (cond t (x ∷ []) []) ≡ (t && s)
last_any true s d x is = or_none (same_diagnostic d x) ∙ is
last_any false s d x is = refl

-- an entry that came before, by another that is equal to it
known_by : (f : FileId) (d : Diagnostic) (x : CheckEntry) (es : List CheckEntry) → list_any (same_entry x.file x.diagnostic) es ≡ true
    → list_any (same_entry f d) es ≡ (same_entry f d x || list_any (same_entry f d) es)
known_by f d x es there =
    absorbed (same_entry f d x) (list_any (same_entry f d) es) (λ is.
    let parts = and_parts _ _ is in
    (λ i. list_any (λ (e : CheckEntry). nat_eq (eqb-true f.0 x.file.0 parts.0 i) e.file.0 && same_diagnostic ((diagnostic_told d x.diagnostic).0 parts.1 i) e.diagnostic) es)
    ∙ there)

-- whether a diagnostic stands among those that were told is whether it came
known_is : (f : FileId) (d : Diagnostic) (es : List CheckEntry) → list_any (same_diagnostic d) (said_of f (as_told es)) ≡ list_any (same_entry f d) es
known_is f d [] = refl
known_is f d (x ∷ es) =
    cond_both (list_any (same_entry x.file x.diagnostic) es) (as_told es) (as_told es ++ x ∷ [])
    (λ l. list_any (same_diagnostic d) (said_of f l) ≡ (same_entry f d x || list_any (same_entry f d) es))
    (λ there. known_is f d es ∙ known_by f d x es there)
    (λ _.
    ap (list_any (same_diagnostic d)) (said_more f (as_told es) (x ∷ []))
    ∙ any_more d (said_of f (as_told es)) (said_of f (x ∷ []))
    ∙ (λ i. known_is f d es i || last_any (same_file f x.file) (same_diagnostic d x.diagnostic) d x.diagnostic refl i)
    ∙ or_turned (list_any (same_entry f d) es) (same_entry f d x))

-- ---- a package

-- a package is of this generation and says what these entries say, the last first
record Says (p : CheckPackage) (generation : ℕ) (es : List CheckEntry) : Type 0 where
  generation_is : p.generation ≡ generation
  lists : (file : FileId) → list_in file p ≡ said_of file (as_told es)
  fixes : p.fixes ≡ fixes_told (as_told es)

pub put_list : (lists : map.FinMap nat_cmp (List Diagnostic)) (k q : ℕ) (v : List Diagnostic) → map.get (map.insert lists k v) q ≡ cond (nat_eq q k) (Some v) (map.get lists q)
put_list lists k q v = map.get-insert nat_cmp_total lists k v q ∙ ap (λ b. cond b (Some v) (map.get lists q)) (unsigned_tied q k)

pub put_listed : (here : Bool) (old : List Diagnostic) (d : Diagnostic) (o : Option (List Diagnostic)) → (here ≡ true → old ≡ listed o)
    → listed (cond here (Some (old ++ d ∷ [])) o) ≡ listed o ++ cond here (d ∷ []) []
put_listed true old d o is = ap (λ l. l ++ d ∷ []) (is refl)
put_listed false old d o is = sym (no_more (listed o))

add_says : (e : CheckEntry) (p : CheckPackage) (m : Marked) (g : ℕ) (es : List CheckEntry) → Says p g es → Says (add_entry e (p, m)).0 g (e ∷ es)
add_says e p m g es k =
    let known : list_any (same_diagnostic e.diagnostic) (list_in e.file p) ≡ list_any (same_entry e.file e.diagnostic) es =
    ap (list_any (same_diagnostic e.diagnostic)) (k.lists e.file) ∙ known_is e.file e.diagnostic es in
    cond_both (list_any (same_diagnostic e.diagnostic) (list_in e.file p)) _ _ (λ (x : CheckPackage × Marked). Says x.0 g (e ∷ es))
    (λ there.
    let told : as_told (e ∷ es) ≡ as_told es = cond-true _ _ _ (sym known ∙ there) in
    record {
      generation_is = k.generation_is;
      lists = λ file. k.lists file ∙ ap (said_of file) (sym told);
      fixes = k.fixes ∙ ap fixes_told (sym told);
    })
    (λ not_there.
    let told : as_told (e ∷ es) ≡ as_told es ++ e ∷ [] = cond-false _ _ _ (sym known ∙ not_there) in
    record {
      generation_is = k.generation_is;
      lists = λ file.
          ap listed (put_list p.lists e.file.0 file.0 (list_in e.file p ++ e.diagnostic ∷ []))
          ∙ put_listed (same_file file e.file) (list_in e.file p) e.diagnostic (map.get p.lists file.0)
          (λ here. ap (λ q. listed (map.get p.lists q)) (sym (eqb-true file.0 e.file.0 here)))
          ∙ ap (λ l. l ++ cond (same_file file e.file) (e.diagnostic ∷ []) []) (k.lists file)
          ∙ sym (said_more file (as_told es) (e ∷ []))
          ∙ ap (said_of file) (sym told);
      fixes =
          ap (λ l. l ++ option_to_list e.fix) k.fixes
          ∙ ap (λ l. fixes_told (as_told es) ++ l) (sym (no_more (option_to_list e.fix)))
          ∙ sym (fixes_more (as_told es) (e ∷ []))
          ∙ ap fixes_told (sym told);
    })

new_says : (g : ℕ) → Says (new_package g) g []
new_says g = record { generation_is = refl; lists = λ file. ap listed (map.get-empty nat_cmp file.0); fixes = refl }

none_above : (g : ℕ) (cs : List Came) → newest cs < g → of_generation g cs ≡ []
none_above g [] above = refl
none_above g (c ∷ cs) above =
    cond-false _ _ _ (ne_eqb c.0 g (λ e. below_itself c.0 g (newest cs) e above)) ∙ none_above g cs (less_of c.0 g (newest cs) above)

-- an entry that comes for a package
added : (g : ℕ) (e : CheckEntry) (p : CheckPackage) (m : Marked) (cs : List Came) → Says p (newest cs) (of_generation (newest cs) cs)
    → Says (add_to g e (p, m)).0 (newest ((g, e) ∷ cs)) (of_generation (newest ((g, e) ∷ cs)) ((g, e) ∷ cs))
added g e p m cs k =
    let n = newest cs in
    cond_both (nat_lt g p.generation) (p, m) (add_entry e (renewed g (p, m))) (λ (x : CheckPackage × Marked). Says x.0 (max g n) (of_generation (max g n) ((g, e) ∷ cs)))
    (λ lt.
    let low : g < n = subst (λ x. g < x) k.generation_is (ltb-true g p.generation lt) in
    subst (λ x. Says p x (of_generation x ((g, e) ∷ cs))) (sym (max_of_less g n low))
    (subst (λ l. Says p n l) (sym (cond-false (nat_eq g n) _ _ (ne_eqb g n (λ is. below_same g n is low)))) k))
    (λ not_lt.
    let high : n ≤ g = subst (λ x. x ≤ g) k.generation_is (ltb-false g p.generation not_lt) in
    subst (λ x. Says (add_entry e (renewed g (p, m))).0 x (of_generation x ((g, e) ∷ cs))) (sym (max_of_most g n high))
    (subst (λ l. Says (add_entry e (renewed g (p, m))).0 g l) (sym (cond-true (nat_eq g g) _ _ (eq-eqb g g refl)))
    (cond_both (nat_lt p.generation g) (new_package g, mark_package p m) (p, m) (λ (x : CheckPackage × Marked). Says (add_entry e x).0 g (e ∷ of_generation g cs))
    (λ newer.
    let above : n < g = subst (λ x. x < g) k.generation_is (ltb-true p.generation g newer) in
    subst (λ l. Says (add_entry e (new_package g, mark_package p m)).0 g (e ∷ l)) (sym (none_above g cs above)) (add_says e (new_package g) (mark_package p m) g [] (new_says g)))
    (λ not_newer.
    let same : n ≡ g = both_most n g high (subst (λ x. g ≤ x) k.generation_is (ltb-false p.generation g not_newer)) in
    add_says e p m g (of_generation g cs) (subst (λ x. Says p x (of_generation x cs)) same k)))))

first_added : (g : ℕ) (e : CheckEntry) (m : Marked)
    → Says (add_to g e (new_package g, m)).0 (newest ((g, e) ∷ [])) (of_generation (newest ((g, e) ∷ [])) ((g, e) ∷ []))
first_added g e m =
    cond_both (nat_lt g g) (new_package g, m) (add_entry e (renewed g (new_package g, m))) (λ (x : CheckPackage × Marked). Says x.0 (max g 0) (of_generation (max g 0) ((g, e) ∷ [])))
    (λ lt. absurd (below_same g g refl (ltb-true g g lt)))
    (λ _.
    subst (λ x. Says (add_entry e (renewed g (new_package g, m))).0 x (of_generation x ((g, e) ∷ []))) (sym (max_of_most g 0 (omega arith)))
    (subst (λ l. Says (add_entry e (renewed g (new_package g, m))).0 g l) (sym (cond-true (nat_eq g g) _ _ (eq-eqb g g refl)))
    (cond_both (nat_lt g g) (new_package g, mark_package (new_package g) m) (new_package g, m) (λ (x : CheckPackage × Marked). Says (add_entry e x).0 g (e ∷ []))
    (λ lt. absurd (below_same g g refl (ltb-true g g lt)))
    (λ _. add_says e (new_package g) m g [] (new_says g)))))

pub same_checks : (p : NativePass) (g : ℕ) (f : FileId) (l : List Diagnostic) (b : Board) → (step (Gives p g f l) b).checks ≡ b.checks
same_checks Syntax g f l b = refl
same_checks Semantic g f l b = refl

-- ---- keys

pub id_is : (x y : ℕ) → same_id x y ≡ true → x ≡ y
id_is x y e = map.nat_cmp-IsAntisymmetric x y (tie (nat_cmp x y) e)

pub name_is : (x y : Option (List ℕ)) → same_name x y ≡ true → x ≡ y
name_is x y e = package_same x y (tie (package_cmp x y) e)

in_by : (here : Bool) (name : Option (List ℕ)) (packages : Packages) (o : Option Packages)
    → package_in name (cond here (Some packages) o) ≡ cond here (map.get packages name) (package_in name o)
in_by true name packages o = refl
in_by false name packages o = refl

out_by : (here : Bool) (name : Option (List ℕ)) (o : Option Packages) → package_in name (cond here None o) ≡ cond here None (package_in name o)
out_by true name o = refl
out_by false name o = refl

pub or_none_at : (name : Option (List ℕ)) (o : Option Packages) → map.get (packages_or_none o) name ≡ package_in name o
or_none_at name None = map.get-empty package_cmp name
or_none_at name (Some packages) = refl

-- what becomes of a package that a test may drop
abbrev pub dropped : (CheckPackage → Bool) → Option CheckPackage → Option CheckPackage
dropped drops None = None
dropped drops (Some p) = cond (drops p) None (Some p)

keep_row : (drops : CheckPackage → Bool) (q : Option (List ℕ)) (row : Option (List ℕ) × CheckPackage) (rest : List (Option (List ℕ) × CheckPackage)) (found : Option CheckPackage) (t here : Bool)
    → drops row.1 ≡ t → same_name q row.0 ≡ here → map.find package_cmp q rest ≡ dropped drops found → (here ≡ true → found ≡ None)
    → map.find package_cmp q (cond (not t) (row ∷ rest) rest) ≡ dropped drops (cond here (Some row.1) found)
keep_row drops q row rest found true true is at more none = more ∙ ap (dropped drops) (none refl) ∙ sym (cond-true _ _ _ is)
keep_row drops q row rest found true false is at more none = more
keep_row drops q row rest found false true is at more none = cond-true _ _ _ at ∙ sym (cond-false _ _ _ is)
keep_row drops q row rest found false false is at more none = cond-false _ _ _ at ∙ more

kept_rows : (drops : CheckPackage → Bool) (q : Option (List ℕ)) (rows : List (Option (List ℕ) × CheckPackage)) → T (map.is_sorted package_cmp rows)
    → map.find package_cmp q (filter (λ row. not (drops row.1)) rows) ≡ dropped drops (map.find package_cmp q rows)
kept_rows drops q [] up = refl
kept_rows drops q (row ∷ rows) up =
    keep_row drops q row (filter (λ row. not (drops row.1)) rows) (map.find package_cmp q rows) (drops row.1) (same_name q row.0) refl refl
    (kept_rows drops q rows (back (below_all package_cmp row.0 rows) _ up))
    (λ here. none_below package_cmp q rows (subst (λ k. T (below_all package_cmp k rows)) (sym (name_is q row.0 here)) (front _ _ up)))

kept_at : (drops : CheckPackage → Bool) (q : Option (List ℕ)) (packages : Packages) → map.get (kept drops packages) q ≡ dropped drops (map.get packages q)
kept_at drops q packages =
    map.get-from_entries package_total (filter (λ row. not (drops row.1)) (map.entries packages)) q
    ∙ kept_rows drops q (map.entries packages) (map.entries_sorted packages)
    ∙ ap (dropped drops) (sym (map.get-entries packages q))

-- ---- one package after an act

module _ (id : ℕ) (name : Option (List ℕ)) where
  put_at : (checks : Checks) (i : ℕ) (packages : Packages) → package_at id name (map.insert checks i packages) ≡ cond (same_id id i) (map.get packages name) (package_at id name checks)
  put_at checks i packages = ap (package_in name) (map.get-insert nat_cmp_total checks i packages id) ∙ in_by (same_id id i) name packages (map.get checks id)

  left_by : (none : Bool) (checks : Checks) (i : ℕ) (packages : Packages) → nat_eq (map.len packages) 0 ≡ none
      → package_at id name (cond none (map.remove checks i) (map.insert checks i packages)) ≡ cond (same_id id i) (map.get packages name) (package_at id name checks)
  left_by true checks i packages is =
      ap (package_in name) (map.get-remove nat_cmp_total checks i id)
      ∙ out_by (same_id id i) name (map.get checks id)
      ∙ ap (λ o. cond (same_id id i) o (package_at id name checks))
      (sym (ap (λ (m : Packages). map.get m name) (map.empty_of_len packages (eqb-true _ _ is)) ∙ map.get-empty package_cmp name))
  left_by false checks i packages is = put_at checks i packages

  left_at : (checks : Checks) (i : ℕ) (packages : Packages) → package_at id name (with_left i packages checks) ≡ cond (same_id id i) (map.get packages name) (package_at id name checks)
  left_at checks i packages = left_by (nat_eq (map.len packages) 0) checks i packages refl

  -- where a check has nothing, neither has the package
  nothing_here : (i : ℕ) (checks : Checks) → map.get checks i ≡ None → same_id id i ≡ true → package_at id name checks ≡ None
  nothing_here i checks is here = ap (λ k. package_in name (map.get checks k)) (id_is id i here) ∙ ap (package_in name) is

  forget_none : (here : Bool) (o : Option CheckPackage) → (here ≡ true → o ≡ None) → o ≡ cond here None o
  forget_none true o is = is refl
  forget_none false o is = refl

  pub forget_at : (i : ℕ) (o : Option Packages) (checks : Checks) (m : Marked) → map.get checks i ≡ o
      → package_at id name (forget i o (checks, m)).0 ≡ cond (same_id id i) None (package_at id name checks)
  forget_at i None checks m is = forget_none (same_id id i) _ (nothing_here i checks is)
  forget_at i (Some packages) checks m is = ap (package_in name) (map.get-remove nat_cmp_total checks i id) ∙ out_by (same_id id i) name (map.get checks id)

  drop_none : (here : Bool) (drops : CheckPackage → Bool) (o : Option CheckPackage) → (here ≡ true → o ≡ None) → o ≡ cond here (dropped drops o) o
  drop_none true drops o is = is refl ∙ sym (ap (dropped drops) (is refl))
  drop_none false drops o is = refl

  removed : (here drop : Bool) (n : Option (List ℕ)) (p : CheckPackage) (packages : Packages) (m n' : Marked) → same_name name n ≡ here → (here ≡ true → map.get packages name ≡ Some p)
      → map.get (cond {A = Packages × Marked} drop (map.remove packages n, n') (packages, m)).0 name ≡ cond here (cond drop None (Some p)) (map.get packages name)
  removed true true n p packages m n' is there = map.get-remove package_total packages n name ∙ cond-true _ _ _ is
  removed false true n p packages m n' is there = map.get-remove package_total packages n name ∙ cond-false _ _ _ is
  removed true false n p packages m n' is there = there refl
  removed false false n p packages m n' is there = refl

  drop_by : (here : Bool) (drops : CheckPackage → Bool) (p : CheckPackage) (o : Option CheckPackage) → (here ≡ true → o ≡ Some p)
      → cond here (cond (drops p) None (Some p)) o ≡ cond here (dropped drops o) o
  drop_by true drops p o is = sym (ap (dropped drops) (is refl))
  drop_by false drops p o is = refl

  drop_one : (drops : CheckPackage → Bool) (n : Option (List ℕ)) (o : Option CheckPackage) (packages : Packages) (m : Marked) → map.get packages n ≡ o
      → map.get (drop_package drops n o (packages, m)).0 name ≡ cond (same_name name n) (dropped drops (map.get packages name)) (map.get packages name)
  drop_one drops n None packages m is = drop_none (same_name name n) drops _ (λ here. ap (map.get packages) (name_is name n here) ∙ is)
  drop_one drops n (Some p) packages m is =
      let there : same_name name n ≡ true → map.get packages name ≡ Some p = λ here. ap (map.get packages) (name_is name n here) ∙ is in
      removed (same_name name n) (drops p) n p packages m _ refl there ∙ drop_by (same_name name n) drops p (map.get packages name) there

  both_here : (a b : Bool) (x y z : Option CheckPackage) → (a ≡ true → y ≡ z) → cond a (cond b x y) z ≡ cond (a && b) x z
  both_here true true x y z is = refl
  both_here true false x y z is = is refl
  both_here false b x y z is = refl

  in_check : (i : ℕ) (packages : Packages) (checks : Checks) → map.get checks i ≡ Some packages → same_id id i ≡ true → map.get packages name ≡ package_at id name checks
  in_check i packages checks is here = sym (ap (λ k. package_in name (map.get checks k)) (id_is id i here) ∙ ap (package_in name) is)

  both_drop : (a b : Bool) (drops : CheckPackage → Bool) (y z : Option CheckPackage) → (a ≡ true → y ≡ z) → cond a (cond b (dropped drops y) y) z ≡ cond (a && b) (dropped drops z) z
  both_drop true true drops y z is = ap (dropped drops) (is refl)
  both_drop true false drops y z is = is refl
  both_drop false b drops y z is = refl

  second_none : (a b : Bool) (drops : CheckPackage → Bool) (o : Option CheckPackage) → (a ≡ true → o ≡ None) → o ≡ cond (a && b) (dropped drops o) o
  second_none true b drops o is = drop_none b drops o (λ _. is refl)
  second_none false b drops o is = refl

  pub drop_at : (drops : CheckPackage → Bool) (i : ℕ) (n : Option (List ℕ)) (o : Option Packages) (checks : Checks) (m : Marked) → map.get checks i ≡ o
      → package_at id name (drop_in drops i n o (checks, m)).0 ≡ cond (same_id id i && same_name name n) (dropped drops (package_at id name checks)) (package_at id name checks)
  drop_at drops i n None checks m is = second_none (same_id id i) (same_name name n) drops _ (nothing_here i checks is)
  drop_at drops i n (Some packages) checks m is =
      left_at checks i (drop_package drops n (map.get packages n) (packages, m)).0
      ∙ ap (λ o. cond (same_id id i) o (package_at id name checks)) (drop_one drops n (map.get packages n) packages m refl)
      ∙ both_drop (same_id id i) (same_name name n) drops (map.get packages name) (package_at id name checks) (in_check i packages checks is)

  one_drop : (a : Bool) (drops : CheckPackage → Bool) (y z : Option CheckPackage) → (a ≡ true → y ≡ z) → cond a (dropped drops y) z ≡ cond a (dropped drops z) z
  one_drop true drops y z is = ap (dropped drops) (is refl)
  one_drop false drops y z is = refl

  pub sift_at : (drops : CheckPackage → Bool) (i : ℕ) (o : Option Packages) (checks : Checks) (m : Marked) → map.get checks i ≡ o
      → package_at id name (sift drops i o (checks, m)).0 ≡ cond (same_id id i) (dropped drops (package_at id name checks)) (package_at id name checks)
  sift_at drops i None checks m is = drop_none (same_id id i) drops _ (nothing_here i checks is)
  sift_at drops i (Some packages) checks m is =
      left_at checks i (kept drops packages)
      ∙ ap (λ o. cond (same_id id i) o (package_at id name checks)) (kept_at drops name packages)
      ∙ one_drop (same_id id i) drops (map.get packages name) (package_at id name checks) (in_check i packages checks is)

  -- ---- the invariant

  abbrev Fits : Option CheckPackage → List Came → Type 0
  Fits None cs = cs ≡ []
  Fits (Some p) cs = Says p (newest cs) (of_generation (newest cs) cs)

  fits_by : (t : Bool) (x y : Option CheckPackage) (cs ds : List Came) → Fits x cs → Fits y ds → Fits (cond t x y) (cond t cs ds)
  fits_by true x y cs ds h k = h
  fits_by false x y cs ds h k = k

  and_fits : (a t : Bool) (x y : Option CheckPackage) (cs : List Came) → Fits x (cond t [] cs) → Fits y cs → Fits (cond a x y) (cond (a && t) [] cs)
  and_fits true t x y cs h k = h
  and_fits false t x y cs h k = k

  three_fits : (a b t : Bool) (x y : Option CheckPackage) (cs : List Came) → Fits x (cond t [] cs) → Fits y cs → Fits (cond (a && b) x y) (cond (a && b && t) [] cs)
  three_fits true true t x y cs h k = h
  three_fits true false t x y cs h k = k
  three_fits false b t x y cs h k = k

  add_cases : (a b : Bool) (x y z : Option CheckPackage) (ds cs : List Came) → Fits z cs → (a ≡ true → y ≡ z) → (a ≡ true → b ≡ true → Fits x ds)
      → Fits (cond a (cond b x y) z) (cond (a && b) ds cs)
  add_cases true true x y z ds cs k same new = new refl refl
  add_cases true false x y z ds cs k same new = subst (λ o. Fits o cs) (sym (same refl)) k
  add_cases false b x y z ds cs k same new = k

  no_came : (t : Bool) (cs : List Came) → cs ≡ [] → cond t [] cs ≡ []
  no_came true cs is = refl
  no_came false cs is = is

  fits_dropped : (drops : CheckPackage → Bool) (t : Bool) (o : Option CheckPackage) (cs : List Came)
      → ((p : CheckPackage) → p.generation ≡ newest cs → drops p ≡ t) → Fits o cs → Fits (dropped drops o) (cond t [] cs)
  fits_dropped drops t None cs is k = no_came t cs k
  fits_dropped drops t (Some p) cs is k = subst (λ b. Fits (cond b None (Some p)) (cond t [] cs)) (sym (is p k.generation_is)) (fits_by t None (Some p) [] cs refl k)

  fits_added : (g : ℕ) (e : CheckEntry) (o : Option CheckPackage) (m : Marked) (cs : List Came) → Fits o cs → Fits (Some (add_to g e (package_or_new g o, m)).0) ((g, e) ∷ cs)
  fits_added g e None m cs k = subst (λ cs. Fits (Some (add_to g e (new_package g, m)).0) ((g, e) ∷ cs)) (sym k) (first_added g e m)
  fits_added g e (Some p) m cs k = added g e p m cs k

  pub add_at : (i g : ℕ) (n : Option (List ℕ)) (e : CheckEntry) (checks : Checks) (m : Marked)
      → package_at id name (add_check i g n e (checks, m)).0
      ≡ cond (same_id id i) (cond (same_name name n) (Some (add_to g e (package_or_new g (map.get (packages_or_none (map.get checks i)) n), m)).0) (map.get (packages_or_none (map.get checks i)) name)) (package_at id name checks)
  add_at i g n e checks m =
      let packages = packages_or_none (map.get checks i) in
      put_at checks i (map.insert packages n (add_to g e (package_or_new g (map.get packages n), m)).0)
      ∙ ap (λ o. cond (same_id id i) o (package_at id name checks)) (map.get-insert package_total packages n (add_to g e (package_or_new g (map.get packages n), m)).0 name)

  fits_add : (i g : ℕ) (n : Option (List ℕ)) (e : CheckEntry) (checks : Checks) (m : Marked) (cs : List Came) → Fits (package_at id name checks) cs
      → Fits (package_at id name (add_check i g n e (checks, m)).0) (cond (same_id id i && same_name name n) ((g, e) ∷ cs) cs)
  fits_add i g n e checks m cs k =
      let packages = packages_or_none (map.get checks i) in
      let here : same_id id i ≡ true → map.get packages name ≡ package_at id name checks =
      λ a. or_none_at name (map.get checks i) ∙ sym (ap (λ k. package_in name (map.get checks k)) (id_is id i a)) in
      subst (λ o. Fits o (cond (same_id id i && same_name name n) ((g, e) ∷ cs) cs)) (sym (add_at i g n e checks m))
      (add_cases (same_id id i) (same_name name n) (Some (add_to g e (package_or_new g (map.get packages n), m)).0) (map.get packages name) (package_at id name checks) ((g, e) ∷ cs) cs k here
      (λ a b. subst (λ o. Fits (Some (add_to g e (package_or_new g o, m)).0) ((g, e) ∷ cs)) (sym (ap (map.get packages) (sym (name_is name n b)) ∙ here a)) (fits_added g e (package_at id name checks) m cs k)))

  keeps : (run : List Act) → Fits (package_at id name (after run).checks) (came id name run)
  keeps [] = subst (λ o. Fits o []) (sym (ap (package_in name) (map.get-empty nat_cmp id))) refl
  keeps (Counts ∷ before) = keeps before
  keeps (Gives p g f l ∷ before) = subst (λ (checks : Checks). Fits (package_at id name checks) (came id name before)) (sym (same_checks p g f l (after before))) (keeps before)
  keeps (Clears f ∷ before) = keeps before
  keeps (Adds i g n e ∷ before) = fits_add i g n e (after before).checks (after before).marked (came id name before) (keeps before)
  keeps (Forgets i ∷ before) =
      let b = after before in
      subst (λ o. Fits o (cond (same_id id i) [] (came id name before))) (sym (forget_at i (map.get b.checks i) b.checks b.marked refl))
      (fits_by (same_id id i) None (package_at id name b.checks) [] (came id name before) refl (keeps before))
  keeps (ForgetsIn i n ∷ before) =
      let b = after before in
      let here = same_id id i && same_name name n in
      subst (λ o. Fits o (cond here [] (came id name before))) (sym (drop_at (drops_at None) i n (map.get b.checks i) b.checks b.marked refl))
      (fits_by here (dropped (drops_at None) (package_at id name b.checks)) (package_at id name b.checks) [] (came id name before)
      (fits_dropped (drops_at None) true (package_at id name b.checks) (came id name before) (λ p is. refl) (keeps before)) (keeps before))
  keeps (ForgetsOlder i g ∷ before) =
      let b = after before in
      let t = nat_lt (newest (came id name before)) g in
      subst (λ o. Fits o (cond (same_id id i && t) [] (came id name before))) (sym (sift_at (older_than g) i (map.get b.checks i) b.checks b.marked refl))
      (and_fits (same_id id i) t (dropped (older_than g) (package_at id name b.checks)) (package_at id name b.checks) (came id name before)
      (fits_dropped (older_than g) t (package_at id name b.checks) (came id name before) (λ p is. ap (λ x. nat_lt x g) is) (keeps before)) (keeps before))
  keeps (ForgetsOlderIn i n g ∷ before) =
      let b = after before in
      let t = nat_lt (newest (came id name before)) g in
      subst (λ o. Fits o (cond (same_id id i && same_name name n && t) [] (came id name before))) (sym (drop_at (drops_at (Some g)) i n (map.get b.checks i) b.checks b.marked refl))
      (three_fits (same_id id i) (same_name name n) t (dropped (drops_at (Some g)) (package_at id name b.checks)) (package_at id name b.checks) (came id name before)
      (fits_dropped (drops_at (Some g)) t (package_at id name b.checks) (came id name before) (λ p is. ap (λ x. nat_lt x g) is) (keeps before)) (keeps before))
  keeps (ForgetsAll ∷ before) = subst (λ o. Fits o []) (sym (ap (package_in name) (map.get-empty nat_cmp id))) refl
  keeps (Takes ∷ before) = keeps before

  fits_lists : (file : FileId) (o : Option CheckPackage) (cs : List Came) → Fits o cs → listed_in file o ≡ said_of file (as_told (of_generation (newest cs) cs))
  fits_lists file None cs k = sym (ap (λ cs. said_of file (as_told (of_generation (newest cs) cs))) k)
  fits_lists file (Some p) cs k = k.lists file

  fits_fixes : (o : Option CheckPackage) (cs : List Came) → Fits o cs → fixes_at o ≡ fixes_told (as_told (of_generation (newest cs) cs))
  fits_fixes None cs k = sym (ap (λ cs. fixes_told (as_told (of_generation (newest cs) cs))) k)
  fits_fixes (Some p) cs k = k.fixes

  pub lists_are : (run : List Act) (file : FileId) → listed_in file (package_at id name (after run).checks) ≡ said_of file (entries id name run)
  lists_are run file = fits_lists file (package_at id name (after run).checks) (came id name run) (keeps run)

  pub fixes_are : (run : List Act) → fixes_at (package_at id name (after run).checks) ≡ fixes_told (entries id name run)
  fixes_are run = fits_fixes (package_at id name (after run).checks) (came id name run) (keeps run)
