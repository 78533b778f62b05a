-- What is shown at the URL of each file is what the board has of the file.
use Rattle.std.proofs.Common.{◌≡◌, ℕ, ◌<◌, ◌⊎◌, inl, inr, List, [], ◌∷◌, ◌++◌, Bool, true, false, refl, sym, ap, ◌∙◌, subst, arith}
use Rattle.std.specs.Prelude.{All, bytes_eq, nat_eq, Option, None, Some, if◌then◌else◌}
use Rattle.std.specs.List.{Contains, flat_map}
use Rattle.std.proofs.lemmas.Bool.{eq-eqb, eqb-true}
use Rattle.std.proofs.lemmas.Slice.Eq.{bytes_eq-Decides}
use Rattle.std.proofs.lemmas.List.Elements.{Contains-append_cases, Contains-append_left, Contains-append_right, Contains-push, Contains-push_cases}
use Rattle.serde_json.specs.Data.{Data}
use Rattle.docs_vfs.specs.FileUrls.{url_of}
use Rattle.docs_vfs.specs.Files.{path_at}
use Rattle.docs_vfs.specs.declared.file_kinds.FileId.{FileId}
use Rattle.op_board.specs.Acts.{Act, after, step as after_act}
use Rattle.op_board.specs.Acts.Act.{Takes}
use Rattle.op_board.specs.Board.{Board, diagnostics_of}
use Rattle.op_board.specs.Changes.{files_in as files_taken}
use Rattle.op_board.specs.Marked.{taken}
use Rattle.op_board.proofs.Takes.{lists_changes}
use Rattle.ra_config.specs.Config.{ConfigData}
use Rattle.desk.specs.Meaning.{Meaning}
use Rattle.session_files.specs.Current.{IsSound}
use Rattle.session_files.specs.SessionFiles.{SessionFiles}
use Rattle.session_model.specs.Run.{Runs, Turn}
use Rattle.session_model.specs.State.{State, fresh}
use Rattle.session_laws.specs.Published.{Published, published_among}
use Rattle.diagnostics_laws.specs.Shown.{HasBytePaths, ShowsBoard, shown_past, told_list}
use Rattle.diagnostics_laws.proofs.Batching.{published_as_at, published_of}
use Rattle.diagnostics_laws.proofs.KeyedBools.{none-some, some-is, true-false}
use Rattle.diagnostics_laws.proofs.Standing.{Advances, Based, advances, first-based, named-apart, runs-reach}
use Rattle.diagnostics_laws.proofs.StoringGenerations.{Grows}
use Rattle.diagnostics_laws.proofs.StoringRuns.{unchanged, unnamed}

-- ---- members

none-among : {X P : Type 0} (x : X) → Contains [] x → P
none-among x h = absurd (omega (arith, h.1))

head-among : {X : Type 0} (x : X) (xs : List X) → Contains (x ∷ xs) x
head-among x xs = Contains-append_left (x ∷ []) xs x (Contains-push [] x)

tail-among : {X : Type 0} (y x : X) (xs : List X) → Contains xs x → Contains (y ∷ xs) x
tail-among y x xs h = Contains-append_right (y ∷ []) xs x h

among-cases : {X P : Type 0} (y x : X) (xs : List X) → Contains (y ∷ xs) x → (y ≡ x → P) → (Contains xs x → P) → P
among-cases {X} {P} y x xs h at-head at-tail = by-part (Contains-append_cases (y ∷ []) xs x h)
  where
    by-one : Contains [] x ⊎ (y ≡ x) → P
    by-one (inl nothing) = none-among x nothing
    by-one (inr same) = at-head same

    by-part : Contains (y ∷ []) x ⊎ Contains xs x → P
    by-part (inl one) = by-one (Contains-push_cases [] y x one)
    by-part (inr rest) = at-tail rest

-- a file is among these, or it isn't
among-or : (files : List FileId) (file : FileId) → Contains files file ⊎ (Contains files file → ⊥)
among-or [] file = inr (λ h. none-among file h)
among-or (first ∷ files) file = by-head (nat_eq first.0 file.0) refl (among-or files file)
  where
    by-head : (b : Bool) → nat_eq first.0 file.0 ≡ b → Contains files file ⊎ (Contains files file → ⊥)
        → Contains (first ∷ files) file ⊎ (Contains (first ∷ files) file → ⊥)
    by-head true is rest =
        let same : first ≡ file = ap (λ n. let f : FileId = record { 0 = n } in f) (eqb-true first.0 file.0 is) in
        inl (subst (λ f. Contains (first ∷ files) f) same (head-among first files))
    by-head false is (inl there) = inl (tail-among first file files there)
    by-head false is (inr absent) =
        inr (λ h. among-cases first file files h (λ same. true-false (sym (eq-eqb first.0 file.0 (ap (λ (f : FileId). f.0) same)) ∙ is)) absent)

-- ---- what is shown past a list

past-append : (xs ys : List Published) (url : List ℕ) (d : Data) → shown_past (xs ++ ys) url d ≡ shown_past ys url (shown_past xs url d)
past-append [] ys url d = refl
past-append (x ∷ xs) ys url d = past-append xs ys url _

-- paths with one URL are one path
abbrev pub UrlsDiffer : Type 0
UrlsDiffer = (one other : List ℕ) → All (λ b. b < 256) one → All (λ b. b < 256) other → url_of one ≡ url_of other → one ≡ other

module _ (differ : UrlsDiffer) (files : SessionFiles) (sound : IsSound files) (bytes : HasBytePaths files.table) (board : Board) where
  abbrev told : FileId → Data
  told file = told_list (diagnostics_of file board)

  -- files at one URL are one file
  one-file : (f g : FileId) (p q : List ℕ) → path_at files.table f ≡ Some p → path_at files.table g ≡ Some q → url_of q ≡ url_of p → g ≡ f
  one-file f g p q f_at g_at same =
      let paths : q ≡ p = differ q p (bytes g q g_at) (bytes f p f_at) same in
      some-is g f (sym (sound.numbered.number_of q g g_at) ∙ sound.numbered.number_of q f (f_at ∙ ap Some (sym paths)))

  -- one file is published: at the URL it is shown as told, where it is this file or was shown so before
  one-kept : (b : Bool) (f g : FileId) (p q : List ℕ) (d : Data) → bytes_eq (url_of q) (url_of p) ≡ b → path_at files.table f ≡ Some p
      → path_at files.table g ≡ Some q → d ≡ told f → (if b then told g else d) ≡ told f
  one-kept true f g p q d is f_at g_at kept =
      ap told (one-file f g p q f_at g_at ((bytes_eq-Decides (url_of q) (url_of p)).0 is))
  one-kept false f g p q d is f_at g_at kept = kept

  at-kept : (o : Option (List ℕ)) (f g : FileId) (p : List ℕ) (d : Data) → path_at files.table g ≡ o → path_at files.table f ≡ Some p → d ≡ told f
      → shown_past (published_as_at board g o) (url_of p) d ≡ told f
  at-kept None f g p d g_at f_at kept = kept
  at-kept (Some q) f g p d g_at f_at kept = one-kept (bytes_eq (url_of q) (url_of p)) f g p q d refl f_at g_at kept

  all-kept : (list : List FileId) (f : FileId) (p : List ℕ) (d : Data) → path_at files.table f ≡ Some p → d ≡ told f
      → shown_past (published_of files board list) (url_of p) d ≡ told f
  all-kept [] f p d f_at kept = kept
  all-kept (g ∷ later) f p d f_at kept =
      past-append (published_as_at board g (path_at files.table g)) (published_of files board later) (url_of p) d
      ∙ all-kept later f p (shown_past (published_as_at board g (path_at files.table g)) (url_of p) d) f_at
      (at-kept (path_at files.table g) f g p d refl f_at kept)

  -- a file that is published is shown as told
  itself-told : (f : FileId) (p : List ℕ) (d : Data) → path_at files.table f ≡ Some p
      → shown_past (published_as_at board f (path_at files.table f)) (url_of p) d ≡ told f
  itself-told f p d f_at =
      ap (λ o. shown_past (published_as_at board f o) (url_of p) d) f_at
      ∙ ap (λ b. if b then told f else d) ((bytes_eq-Decides (url_of p) (url_of p)).1 refl)

  all-told : (list : List FileId) (f : FileId) (p : List ℕ) (d : Data) → path_at files.table f ≡ Some p → Contains list f
      → shown_past (published_of files board list) (url_of p) d ≡ told f
  all-told [] f p d f_at among = none-among f among
  all-told (g ∷ later) f p d f_at among =
      past-append (published_as_at board g (path_at files.table g)) (published_of files board later) (url_of p) d
      ∙ among-cases g f later among
      (λ same. all-kept later f p (shown_past (published_as_at board g (path_at files.table g)) (url_of p) d) f_at
      (subst (λ (h : FileId). shown_past (published_as_at board h (path_at files.table h)) (url_of p) d ≡ told f) (sym same)
      (itself-told f p d f_at)))
      (λ there. all-told later f p (shown_past (published_as_at board g (path_at files.table g)) (url_of p) d) f_at there)

  -- none of these files has the URL
  abbrev HasNone : List FileId → List ℕ → Type 0
  HasNone list url = (g : FileId) (q : List ℕ) → Contains list g → path_at files.table g ≡ Some q → url_of q ≡ url → ⊥

  one-other : (b : Bool) (g : FileId) (q url : List ℕ) (d : Data) → bytes_eq (url_of q) url ≡ b → (url_of q ≡ url → ⊥) → (if b then told g else d) ≡ d
  one-other true g q url d is other = absurd (other ((bytes_eq-Decides (url_of q) url).0 is))
  one-other false g q url d is other = refl

  at-other : (o : Option (List ℕ)) (g : FileId) (url : List ℕ) (d : Data) → path_at files.table g ≡ o
      → ((q : List ℕ) → path_at files.table g ≡ Some q → url_of q ≡ url → ⊥) → shown_past (published_as_at board g o) url d ≡ d
  at-other None g url d is other = refl
  at-other (Some q) g url d is other = one-other (bytes_eq (url_of q) url) g q url d refl (other q is)

  all-other : (list : List FileId) (url : List ℕ) (d : Data) → HasNone list url → shown_past (published_of files board list) url d ≡ d
  all-other [] url d none = refl
  all-other (g ∷ later) url d none =
      past-append (published_as_at board g (path_at files.table g)) (published_of files board later) url d
      ∙ ap (shown_past (published_of files board later) url)
      (at-other (path_at files.table g) g url d refl (λ q is same. none g q (head-among g later) is same))
      ∙ all-other later url d (λ h q among is same. none h q (tail-among g h later among) is same)

-- ---- a turn

-- what is shown at each URL is what the board has of its file; and at the URL of no file nothing is
record Shows (shown : List ℕ → Data) (s : State) : Type 0 where
  here : (file : FileId) (path : List ℕ) → path_at s.files.table file ≡ Some path → shown (url_of path) ≡ told_list (diagnostics_of file s.board)
  nowhere : (url : List ℕ) → ((file : FileId) (path : List ℕ) → path_at s.files.table file ≡ Some path → url_of path ≡ url → ⊥)
      → shown url ≡ told_list []

step-shows : (differ : UrlsDiffer) (s : State) (turn : Turn) (mid : State) (base : Based s) → Advances s turn mid base → HasBytePaths mid.files.table
    → (shown : List ℕ → Data) → Shows shown s → Shows (λ url. shown_past (published_among turn.messages) url (shown url)) mid
step-shows differ s turn mid base a bytes shown h = record {
  here = λ file path is.
      let told_here = ap (λ (ps : List Published). shown_past ps (url_of path) (shown (url_of path))) a.told in
      told_here ∙ by-mark file path is (among-or marked file) ∙ ap (λ (b : Board). told_list (diagnostics_of file b)) (sym a.board);
  nowhere = λ url none.
      ap (λ (ps : List Published). shown_past ps url (shown url)) a.told
      ∙ all-other differ mid.files sound bytes now marked url (shown url) (λ g q among is same. none g q is same)
      ∙ h.nowhere url (λ g q is same. none g q (a.grows g q is) same);
}
  where
    whole : List Act
    whole = a.more ++ base.run

    now : Board
    now = after_act Takes (after whole)

    marked : List FileId
    marked = files_taken (taken (after whole).marked)

    sound : IsSound mid.files
    sound = a.based.seen.sound

    -- a file that is not marked was shown so before
    before : (file : FileId) (path : List ℕ) (o : Option (List ℕ)) → path_at s.files.table file ≡ o → path_at mid.files.table file ≡ Some path
        → shown (url_of path) ≡ told_list (diagnostics_of file (after base.run))
    before file path (Some old) was is =
        let same : old ≡ path = some-is old path (sym (a.grows file old was) ∙ is) in
        h.here file path (was ∙ ap Some same) ∙ ap (λ (b : Board). told_list (diagnostics_of file b)) base.board
    before file path None was is =
        h.nowhere (url_of path) (λ g q at same.
        let it : g ≡ file = one-file differ mid.files sound bytes now file g path q is (a.grows g q at) same in
        none-some q (sym was ∙ ap (path_at s.files.table) (sym it) ∙ at))
        ∙ ap told_list (sym (unnamed file base.run (named-apart s.files.table file base.run was base.named)))

    by-mark : (file : FileId) (path : List ℕ) → path_at mid.files.table file ≡ Some path → Contains marked file ⊎ (Contains marked file → ⊥)
        → shown_past (published_of mid.files now marked) (url_of path) (shown (url_of path)) ≡ told_list (diagnostics_of file now)
    by-mark file path is (inl among) = all-told differ mid.files sound bytes now marked file path (shown (url_of path)) is among
    by-mark file path is (inr absent) =
        all-other differ mid.files sound bytes now marked (url_of path) (shown (url_of path))
        (λ g q among at same. absent (subst (λ f. Contains marked f) (one-file differ mid.files sound bytes now file g path q is at same) among))
        ∙ before file path (path_at s.files.table file) refl is
        ∙ ap told_list (sym (unchanged file a.more base.run a.none (λ changed. absent (((lists_changes whole).changed file).1 changed))))

-- ---- a run

runs-show : (differ : UrlsDiffer) (meaning : Meaning) (s : State) (turns : List Turn) (last : State) (base : Based s) → Runs meaning s turns last
    → HasBytePaths last.files.table → (shown : List ℕ → Data) → Shows shown s
    → Shows (λ url. shown_past (flat_map (λ (turn : Turn). published_among turn.messages) turns) url (shown url)) last
runs-show differ meaning s [] last base runs bytes shown h = subst (Shows shown) (sym runs) h
runs-show differ meaning s (turn ∷ turns) last base (mid, steps_are, runs) bytes shown h =
    let a = advances meaning s turn mid base steps_are in
    let grows : Grows mid.files.table last.files.table = (runs-reach meaning mid turns last a.based runs).grows in
    let shown_then : List ℕ → Data = λ url. shown_past (published_among turn.messages) url (shown url) in
    let one = step-shows differ s turn mid base a (λ file path is. bytes file path (grows file path is)) shown h in
    let rest = runs-show differ meaning mid turns last a.based runs bytes shown_then one in
    let later : List Published = flat_map (λ (turn : Turn). published_among turn.messages) turns in
    record {
      here = λ file path is. past-append (published_among turn.messages) later (url_of path) (shown (url_of path)) ∙ rest.here file path is;
      nowhere = λ url none. past-append (published_among turn.messages) later url (shown url) ∙ rest.nowhere url none;
    }

first-shows : (settings : ConfigData) → Shows (λ url. told_list []) (fresh settings)
first-shows settings = record {
  here = λ file path is. ap told_list (sym (unnamed file [] tt));
  nowhere = λ url none. refl;
}

pub runs-show-board : UrlsDiffer → (meaning : Meaning) (settings : ConfigData) (turns : List Turn) (last : State)
    → Runs meaning (fresh settings) turns last
    → HasBytePaths last.files.table → ShowsBoard turns last
runs-show-board differ meaning settings turns last runs bytes =
    let base = first-based meaning settings in
    record {
      shown = (runs-show differ meaning (fresh settings) turns last base runs bytes (λ url. told_list []) (first-shows settings)).here;
      unmarked = (runs-reach meaning (fresh settings) turns last base runs).based.marks;
    }
