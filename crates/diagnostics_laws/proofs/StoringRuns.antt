-- Runs of the board: a file none of whose lists changed has the same diagnostics as before, and one that no act names has none.
use Rattle.std.proofs.Common.{◌≡◌, ℕ, Bool, true, false, ◌&&◌, List, [], ◌∷◌, ◌++◌, inl, inr, refl, sym, ap, ◌∙◌}
use Rattle.std.specs.Prelude.{◌≢◌, Option, cond, map as each}
use Rattle.std.specs.List.{flat_map, list_any}
use Rattle.std.specs.Ordering.{nat_cmp}
use Rattle.std.specs.Cmp.Lexicographic.{pointwise, pointwise_decides}
use Rattle.std.specs.FinMap as map
use Rattle.std.proofs.lemmas.Bool.{cond-false, true≢false}
use Rattle.docs_vfs.specs.declared.file_kinds.FileId.{FileId}
use Rattle.lsp_types.specs.Diagnostics.{diagnostic_told, same_diagnostic}
use Rattle.lsp_types.specs.declared.diagnostic.Diagnostic.{Diagnostic}
use Rattle.op_board.specs.Acts.{Act, after}
use Rattle.op_board.specs.Acts.Act.{Adds, Clears, Counts, Forgets, ForgetsAll, ForgetsIn, ForgetsOlder, ForgetsOlderIn, Gives, Takes}
use Rattle.op_board.specs.Board.{diagnostics_of, list_of}
use Rattle.op_board.specs.Changes.{ChangedSince, Differs, OfPackage, OfPass, Place, said}
use Rattle.op_board.specs.CheckRuns.{Came, as_told, came, newest, of_generation, said_of, same_entry, same_id, same_name}
use Rattle.op_board.specs.Checks.{Packages, checks_of, lists_in}
use Rattle.op_board.specs.declared.pass_list.PassList.{PassList}
use Rattle.op_board.specs.Diagnostics.{in_order}
use Rattle.op_board.specs.Runs.{accepts, last_list, same_file, same_pass}
use Rattle.op_board.specs.declared.check_package.CheckEntry.{CheckEntry}
use Rattle.op_board.specs.declared.diagnostic.NativePass.{NativePass}
use Rattle.op_board.specs.declared.diagnostic.NativePass.TheVariants.{Syntax, Semantic}
use Rattle.op_board.proofs.NativeRuns.{stored_is}
use Rattle.op_board.proofs.PackageRuns.{lists_are}
use Rattle.op_board.proofs.Taken.{entries_empty}
use Rattle.diagnostics_laws.proofs.StoringChecks.{checks-alike}

-- ---- lists that stay

same-by : (old new : List Diagnostic) (b : Bool) → pointwise same_diagnostic old new ≡ b → (old ≢ new → ⊥) → old ≡ new
same-by old new true is h = (pointwise_decides diagnostic_told old new).0 is
same-by old new false is h = absurd (h (λ e. true≢false (sym ((pointwise_decides diagnostic_told old new).1 e) ∙ is)))

-- each list of the file is the same after both runs
abbrev Agrees : FileId → List Act → List Act → Type 0
Agrees file old new = (place : Place) → said place file old ≡ said place file new

agrees : (file : FileId) (old new : List Act) → (Differs file old new → ⊥) → Agrees file old new
agrees file old new h = λ place.
    same-by (said place file old) (said place file new) (pointwise same_diagnostic (said place file old) (said place file new)) refl
    (λ other. h (place, other))

-- and so are its diagnostics
diagnostics-agree : (file : FileId) (old new : List Act) → Agrees file old new → diagnostics_of file (after new) ≡ diagnostics_of file (after old)
diagnostics-agree file old new h =
    let syntax_is : list_of (map.get (after new).syntax file.0) ≡ list_of (map.get (after old).syntax file.0) =
    stored_is Syntax file new ∙ sym (h (OfPass Syntax)) ∙ sym (stored_is Syntax file old) in
    let semantic_is : list_of (map.get (after new).semantic file.0) ≡ list_of (map.get (after old).semantic file.0) =
    stored_is Semantic file new ∙ sym (h (OfPass Semantic)) ∙ sym (stored_is Semantic file old) in
    let checks_are : checks_of file (after new).checks ≡ checks_of file (after old).checks =
    checks-alike file (after new).checks (after old).checks
    (λ id name. lists_are id name new file ∙ sym (h (OfPackage id name)) ∙ sym (lists_are id name old file)) in
    λ i. syntax_is i ++ semantic_is i ++ checks_are i

-- no act takes the marks
abbrev pub TakesNone : List Act → Type 0
TakesNone [] = Unit {0}
TakesNone (Takes ∷ before) = ⊥
TakesNone (act ∷ before) = TakesNone before

-- a file of which no list changed since a run has the diagnostics that it had then
pub unchanged : (file : FileId) (acts run : List Act) → TakesNone acts → (ChangedSince file (acts ++ run) → ⊥)
    → diagnostics_of file (after (acts ++ run)) ≡ diagnostics_of file (after run)
unchanged file [] run none h = refl
unchanged file (Counts ∷ acts) run none h =
    diagnostics-agree file (acts ++ run) (Counts ∷ (acts ++ run)) (agrees file _ _ (λ d. h (inl d)))
    ∙ unchanged file acts run none (λ c. h (inr c))
unchanged file (Gives p g f l ∷ acts) run none h =
    diagnostics-agree file (acts ++ run) (Gives p g f l ∷ (acts ++ run)) (agrees file _ _ (λ d. h (inl d)))
    ∙ unchanged file acts run none (λ c. h (inr c))
unchanged file (Clears f ∷ acts) run none h =
    diagnostics-agree file (acts ++ run) (Clears f ∷ (acts ++ run)) (agrees file _ _ (λ d. h (inl d)))
    ∙ unchanged file acts run none (λ c. h (inr c))
unchanged file (Adds id g name e ∷ acts) run none h =
    let emptied : List Act = ForgetsOlderIn id name g ∷ (acts ++ run) in
    diagnostics-agree file emptied (Adds id g name e ∷ (acts ++ run)) (agrees file _ _ (λ d. h (inl (inr d))))
    ∙ diagnostics-agree file (acts ++ run) emptied (agrees file _ _ (λ d. h (inl (inl d))))
    ∙ unchanged file acts run none (λ c. h (inr c))
unchanged file (Forgets id ∷ acts) run none h =
    diagnostics-agree file (acts ++ run) (Forgets id ∷ (acts ++ run)) (agrees file _ _ (λ d. h (inl d)))
    ∙ unchanged file acts run none (λ c. h (inr c))
unchanged file (ForgetsIn id name ∷ acts) run none h =
    diagnostics-agree file (acts ++ run) (ForgetsIn id name ∷ (acts ++ run)) (agrees file _ _ (λ d. h (inl d)))
    ∙ unchanged file acts run none (λ c. h (inr c))
unchanged file (ForgetsOlder id g ∷ acts) run none h =
    diagnostics-agree file (acts ++ run) (ForgetsOlder id g ∷ (acts ++ run)) (agrees file _ _ (λ d. h (inl d)))
    ∙ unchanged file acts run none (λ c. h (inr c))
unchanged file (ForgetsOlderIn id name g ∷ acts) run none h =
    diagnostics-agree file (acts ++ run) (ForgetsOlderIn id name g ∷ (acts ++ run)) (agrees file _ _ (λ d. h (inl d)))
    ∙ unchanged file acts run none (λ c. h (inr c))
unchanged file (ForgetsAll ∷ acts) run none h =
    diagnostics-agree file (acts ++ run) (ForgetsAll ∷ (acts ++ run)) (agrees file _ _ (λ d. h (inl d)))
    ∙ unchanged file acts run none (λ c. h (inr c))
unchanged file (Takes ∷ acts) run none h = absurd none

-- ---- files that no act names

-- an act names another file, or none
abbrev pub IsApart : FileId → Act → Type 0
IsApart file (Gives p g f l) = same_file file f ≡ false
IsApart file (Adds id g name e) = same_file file e.file ≡ false
IsApart file act = Unit {0}

abbrev pub AreApart : FileId → List Act → Type 0
AreApart file [] = Unit {0}
AreApart file (act ∷ run) = IsApart file act × AreApart file run

and-mid : (a b c : Bool) → b ≡ false → (a && b && c) ≡ false
and-mid true true c h = absurd (true≢false h)
and-mid true false c h = refl
and-mid false b c h = refl

none-if : {X : Type 0} (b : Bool) (xs : List X) → xs ≡ [] → cond b [] xs ≡ []
none-if true xs h = refl
none-if false xs h = h

no-list : (pass : NativePass) (file : FileId) (run : List Act) → AreApart file run → last_list pass file run ≡ []
no-list pass file [] h = refl
no-list pass file (Counts ∷ run) h = no-list pass file run h.1
no-list pass file (Gives p g f l ∷ run) h =
    cond-false _ _ _ (and-mid (same_pass pass p) (same_file file f) (accepts pass file run g) h.0) ∙ no-list pass file run h.1
no-list pass file (Clears f ∷ run) h = none-if (same_file file f) _ (no-list pass file run h.1)
no-list pass file (Adds id g name e ∷ run) h = no-list pass file run h.1
no-list pass file (Forgets id ∷ run) h = no-list pass file run h.1
no-list pass file (ForgetsIn id name ∷ run) h = no-list pass file run h.1
no-list pass file (ForgetsOlder id g ∷ run) h = no-list pass file run h.1
no-list pass file (ForgetsOlderIn id name g ∷ run) h = no-list pass file run h.1
no-list pass file (ForgetsAll ∷ run) h = no-list pass file run h.1
no-list pass file (Takes ∷ run) h = no-list pass file run h.1

-- entries of other files
abbrev OfOthers : FileId → List Came → Type 0
OfOthers file [] = Unit {0}
OfOthers file (c ∷ cs) = (same_file file c.1.file ≡ false) × OfOthers file cs

others-if : (file : FileId) (b : Bool) (cs ds : List Came) → OfOthers file cs → OfOthers file ds → OfOthers file (cond b cs ds)
others-if file true cs ds h k = h
others-if file false cs ds h k = k

came-others : (file : FileId) (id : ℕ) (name : Option (List ℕ)) (run : List Act) → AreApart file run → OfOthers file (came id name run)
came-others file id name [] h = tt
came-others file id name (Counts ∷ run) h = came-others file id name run h.1
came-others file id name (Gives p g f l ∷ run) h = came-others file id name run h.1
came-others file id name (Clears f ∷ run) h = came-others file id name run h.1
came-others file id name (Adds i g n e ∷ run) h =
    let rest = came-others file id name run h.1 in
    others-if file (same_id id i && same_name name n) ((g, e) ∷ came id name run) (came id name run) (h.0, rest) rest
came-others file id name (Forgets i ∷ run) h = others-if file (same_id id i) [] (came id name run) tt (came-others file id name run h.1)
came-others file id name (ForgetsIn i n ∷ run) h =
    others-if file (same_id id i && same_name name n) [] (came id name run) tt (came-others file id name run h.1)
came-others file id name (ForgetsOlder i g ∷ run) h = others-if file _ [] (came id name run) tt (came-others file id name run h.1)
came-others file id name (ForgetsOlderIn i n g ∷ run) h = others-if file _ [] (came id name run) tt (came-others file id name run h.1)
came-others file id name (ForgetsAll ∷ run) h = tt
came-others file id name (Takes ∷ run) h = came-others file id name run h.1

abbrev AreOthers : FileId → List CheckEntry → Type 0
AreOthers file [] = Unit {0}
AreOthers file (e ∷ es) = (same_file file e.file ≡ false) × AreOthers file es

kept-if : (file : FileId) (b : Bool) (e : CheckEntry) (es : List CheckEntry) → same_file file e.file ≡ false → AreOthers file es
    → AreOthers file (cond b (e ∷ es) es)
kept-if file true e es h k = (h, k)
kept-if file false e es h k = k

generation-others : (file : FileId) (g : ℕ) (cs : List Came) → OfOthers file cs → AreOthers file (of_generation g cs)
generation-others file g [] h = tt
generation-others file g (c ∷ cs) h = kept-if file _ c.1 (of_generation g cs) h.0 (generation-others file g cs h.1)

said-by : (b : Bool) (d : Diagnostic) (xs ys : List Diagnostic) → (xs ≡ [] → ys ≡ []) → cond b (d ∷ xs) xs ≡ [] → cond b (d ∷ ys) ys ≡ []
said-by true d xs ys next is = absurd cc
said-by false d xs ys next is = next is

said-more : (file : FileId) (e : CheckEntry) (es : List CheckEntry) → same_file file e.file ≡ false → said_of file es ≡ []
    → said_of file (es ++ e ∷ []) ≡ []
said-more file e [] other none = cond-false _ _ _ other
said-more file e (f ∷ es) other none =
    said-by (same_file file f.file) f.diagnostic (said_of file es) (said_of file (es ++ e ∷ [])) (λ n. said-more file e es other n) none

told-if : (b : Bool) (file : FileId) (e : CheckEntry) (told : List CheckEntry) → same_file file e.file ≡ false → said_of file told ≡ []
    → said_of file (cond b told (told ++ e ∷ [])) ≡ []
told-if true file e told other none = none
told-if false file e told other none = said-more file e told other none

none-told : (file : FileId) (es : List CheckEntry) → AreOthers file es → said_of file (as_told es) ≡ []
none-told file [] h = refl
none-told file (e ∷ es) h = told-if (list_any (same_entry e.file e.diagnostic) es) file e (as_told es) h.0 (none-told file es h.1)

apart-agrees : (file : FileId) (run : List Act) → AreApart file run → Agrees file [] run
apart-agrees file run h (OfPass pass) = ap in_order (sym (no-list pass file run h))
apart-agrees file run h (OfPackage id name) =
    sym (none-told file (of_generation (newest (came id name run)) (came id name run))
    (generation-others file (newest (came id name run)) (came id name run) (came-others file id name run h)))

-- nothing is wrong in it
none-first : (file : FileId) → diagnostics_of file (after []) ≡ []
none-first file =
    let syntax_is : list_of (map.get (map.empty {X = PassList} {R = nat_cmp}) file.0) ≡ [] = ap list_of (map.get-empty nat_cmp file.0) in
    let checks_are : checks_of file map.empty ≡ [] =
    ap (λ (es : List (ℕ × Packages)). flat_map (lists_in file) (each (λ e. e.1) es)) entries_empty in
    λ i. syntax_is i ++ syntax_is i ++ checks_are i

pub unnamed : (file : FileId) (run : List Act) → AreApart file run → diagnostics_of file (after run) ≡ []
unnamed file run h = diagnostics-agree file [] run (apart-agrees file run h) ∙ none-first file
